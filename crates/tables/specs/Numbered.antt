-- Laws of a table that is given row by row, and of a word that names no row.
use Rattle.std.specs.Prelude.{◌≡◌, refl, true, false, List, ◌∷◌, length, get_or}
use Rattle.std.proofs.Common.{sym, ◌∙◌, ⊎_elim, true≢false, arith}
use Prim.Native.Nat.{ℕ, zero, suc, ◌+◌, ◌-◌, ◌≤◌, ◌<◌}
use Rattle.std.proofs.Math.ListN.{get_or-eq_default}
use Rattle.lists.specs.Lists.{at, All, there}
use Rattle.lists.specs.Tells.{there_is}
use Rattle.rows.specs.Seek.{table, table_length, table_at}
use Rattle.rows.specs.Pad.{below?}

-- A table of n rows, where m is n.
module _ {A : Type 0} (f : ℕ → A) (d : A) {m n e : ℕ} (count : m ≡ n) where
  -- number e is row e
  pub at_row : 0 < e → e ≤ m → at d (table f 1 n) e ≡ f e
  unfolding table
  at_row h k = row e h (omega arith)
    where
      row : (i : ℕ) → 0 < i → i ≤ n → at d (table f 1 n) i ≡ f i
      row zero h k = absurd (omega arith)
      row (suc i) h k = table_at f d (suc n) (suc i) (omega arith)

  -- what would stand past the last row is absent
  pub at_past : m < e → at d (table f 1 n) e ≡ d
  at_past h = get_or-eq_default (d ∷ table f 1 n) d {n = e} (omega (arith, table_length f 1 n))

-- 0 is absent
pub at_zero : {A : Type 0} (d : A) (l : List A) {e : ℕ} → e ≤ 0 → at d l e ≡ d
at_zero d l {e = zero} h = refl
at_zero d l {e = suc e} h = absurd (omega arith)

-- The same by the test of a number.
module _ {A : Type 0} (f : ℕ → A) (d : A) {m n : ℕ} (e : ℕ) (count : m ≡ n) where
  -- a number that is there
  pub at_there : there m e ≡ true → at d (table f 1 n) e ≡ f e
  at_there t = let h = (there_is m e).holds t in at_row f d count (omega arith) h.1

  -- one that is not
  pub at_absent : there m e ≡ false → at d (table f 1 n) e ≡ d
  at_absent t = ⊎_elim
      (λ (h : 0 < e). ⊎_elim
      (λ (k : m < e). at_past f d {e = e} count k)
      (λ (k : e ≤ m). absurd (true≢false (sym ((there_is m e).test (h, k)) ∙ t)))
      (below? m e))
      (λ (h : e ≤ 0). at_zero d (table f 1 n) {e = e} h)
      (below? 0 e)

-- what holds of each row from k on holds of a table of them
pub table_all : {A : Type 0} (P : A → Type 0) (f : ℕ → A) (k n : ℕ) → ((i : ℕ) → k ≤ i → i < k + n → P (f i)) → All P (table f k n)
unfolding table
table_all P f k zero h = tt
table_all P f k (suc n) h = (h k (omega arith) (omega arith), table_all P f (k + 1) n (λ i a b. h i (omega arith) (omega arith)))

-- WORDS that name no kind
-- k is none of 1 to n, as a `match` on k with n arms leaves it
abbrev pub NoneTo : ℕ → ℕ → Type 0
NoneTo k zero = Unit
NoneTo k (suc n) = NoneTo k n × (k ≡ suc n → ⊥)

-- the kind at such a word is the one at 0
pub none_to : {A : Type 0} (d : A) (l : List A) (k : ℕ) → get_or l 0 d ≡ d → NoneTo k (length l - 1) → d ≡ get_or l k d
none_to d l zero e h = sym e
none_to d l (suc k) e h = sym (get_or-eq_default l d {n = suc k} (let i = climb (length l - 1) h in omega arith))
  where
    climb : (n : ℕ) → NoneTo (suc k) n → n ≤ k
    climb zero h = omega arith
    climb (suc n) h = let i = climb n h.0 in let m = h.1 in omega arith
