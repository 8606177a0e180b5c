-- A table of marks with a row for each kind: every place is 0 or 1, and 0 in the row of no kind and behind the last number.
use Rattle.std.specs.Prelude.{ℕ, zero, suc, ◌+◌, ◌*◌, ◌≤◌, ◌<◌, ◌≡◌, Bool, not, cond, ◌&&◌, List, eqb, leb, length, get_or, set}
use Rattle.std.proofs.Common.{◌∙◌, ⊎_elim, arith, le-leb, length-set, get_or-set_same, get_or-set_other}
use Rattle.std.proofs.Math.Logic.{dite}
use Rattle.std.proofs.Math.Decide.{ℕ_discrete}
use Rattle.std.proofs.lemmas.Bool.{lt-leb}
use Rattle.lists.specs.Lists.{there}
use Rattle.lists.specs.Facts.{flag_back}
use Rattle.rows.specs.Pad.{below?}
use Rattle.rows.specs.Part.{one_row}
use Rattle.programs.specs.Sizes.{KINDS}

-- what a mark is that says b of number s in kind k's row, of n numbers: 1 for yes, 0 for no; no number behind n is marked, and no row but a kind's
abbrev pub mark_of : ℕ → ℕ → ℕ → Bool → ℕ
mark_of n k s b = cond (there KINDS k && (leb s n && b)) 1 0

-- THE TABLE of what f says of kind k and number s, of n numbers: every place of it
pub record Marking (n : ℕ) (f : ℕ → ℕ → Bool) (l : List ℕ) : Type 0 where
  pub size : length l ≡ 17425
  pub mark_at : (k s : ℕ) → k ≤ 16 → s ≤ 1024 → get_or l (k * 1025 + s) 0 ≡ mark_of n k s (f k s)

-- LAW FOR CALLERS: there is a mark where f says so of a number that is there
pub says_at : {n : ℕ} {f : ℕ → ℕ → Bool} {l : List ℕ} → Marking n f l → (k s : ℕ) → 1 ≤ k → k ≤ 16 → s ≤ 1024 → s ≤ n → not (eqb (get_or l (k * 1025 + s) 0) 0) ≡ f k s
says_at {n} {f} {l} h k s a b c d = rw (h.mark_at k s b c) (rw (le-leb 1 k a, le-leb k 16 b, le-leb s n d) (flag_back (f k s)))

-- marks of the numbers up to n alone
pub record Sheet (n : ℕ) (l : List ℕ) : Type 0 where
  pub size : length l ≡ 17425
  pub bit : (i : ℕ) → get_or l i 0 ≤ 1
  pub no_kind : (s : ℕ) → s ≤ 1024 → get_or l s 0 ≡ 0
  pub past : (k s : ℕ) → n < s → s ≤ 1024 → get_or l (k * 1025 + s) 0 ≡ 0

-- no mark at all
pub sheet_none : (n : ℕ) (l : List ℕ) → length l ≡ 17425 → ((i : ℕ) → get_or l i 0 ≡ 0) → Sheet n l
sheet_none n l size nothing = record {
  size = size;
  bit = λ i. rw (nothing i) (omega arith);
  no_kind = λ s h. nothing s;
  past = λ k s h i. nothing (k * 1025 + s);
}

-- one mark more
pub sheet_more : (n : ℕ) → n ≤ 1024 → (l : List ℕ) (k t : ℕ) → 1 ≤ k → k ≤ 16 → t ≤ n → Sheet n l → Sheet n (set l (k * 1025 + t) 1)
sheet_more n fits l k t a b c h = record {
  size = length-set l (k * 1025 + t) 1 ∙ h.size;
  bit = λ i. dite (ℕ_discrete i (k * 1025 + t))
      (λ q. rw (q, get_or-set_same l (k * 1025 + t) 1 0 (omega (arith, h.size))) (omega arith))
      (λ q. rw (get_or-set_other l (k * 1025 + t) i 1 0 q) (h.bit i));
  no_kind = λ s i. get_or-set_other l (k * 1025 + t) s 1 0 (λ e. omega arith) ∙ h.no_kind s i;
  past = λ j s i m. get_or-set_other l (k * 1025 + t) (j * 1025 + s) 1 0
      (λ e. let q : j ≡ k = one_row 1025 j k s t (omega arith) (omega arith) e in omega (arith, q)) ∙ h.past j s i m;
}

-- so it is the table of what its marks say
pub marking : {n : ℕ} {l : List ℕ} (f : ℕ → ℕ → Bool) → Sheet n l → ((k s : ℕ) → 1 ≤ k → k ≤ 16 → s ≤ n → not (eqb (get_or l (k * 1025 + s) 0) 0) ≡ f k s) → Marking n f l
marking {n} {l} f h says = record { size = h.size; mark_at = at_each }
  where
    bit_is : (x : ℕ) (b : Bool) → x ≤ 1 → not (eqb x 0) ≡ b → x ≡ cond b 1 0
    bit_is zero b m e = rw (← e)
    bit_is (suc zero) b m e = rw (← e)
    bit_is (suc (suc x)) b m e = absurd (omega arith)

    at_each : (k s : ℕ) → k ≤ 16 → s ≤ 1024 → get_or l (k * 1025 + s) 0 ≡ mark_of n k s (f k s)
    at_each zero s i j = let q : 0 * 1025 + s ≡ s = omega arith in rw q (h.no_kind s j)
    at_each (suc k) s i j = ⊎_elim
        (λ (a : s < suc n). rw (le-leb 1 (suc k) (omega arith), le-leb (suc k) 16 i, le-leb s n (omega arith))
        (bit_is (get_or l (suc k * 1025 + s) 0) (f (suc k) s) (h.bit (suc k * 1025 + s)) (says (suc k) s (omega arith) i (omega arith))))
        (λ (a : suc n ≤ s). rw (le-leb 1 (suc k) (omega arith), le-leb (suc k) 16 i, lt-leb s n a) (h.past (suc k) s a j))
        (below? s (suc n))
