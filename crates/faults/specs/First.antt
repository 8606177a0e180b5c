-- The first number that does not pass a test: what a pass looks for that tests numbers, and not the rows of a program. It is the first fault of a table of
-- nothing but its length. Nothing here is of the document.
use Rattle.std.specs.Prelude.{ℕ, suc, ◌+◌, ◌-◌, ◌≤◌, ◌<◌, ◌≡◌, refl, Bool, true, false, not, List, [], ◌∷◌, length, get_or, replicate}
use Rattle.std.proofs.Math.Path.{sym}
use Rattle.std.proofs.Common.{◌∙◌}
use native.Mathlib.Omega.{arith}
use Rattle.std.proofs.lemmas.Bool.{not-true, not-false}
use Rattle.std.proofs.Math.ListN.{length-replicate}
use Rattle.lists.specs.Facts.{range_more}
use Rattle.lists.specs.Lists.{at, There}
use Rattle.lists.specs.Check.{Check, is_true}
use Rattle.soundness.specs.Sound.{numbered, first_fault}
use Rattle.faults.specs.Faults.{row_fault, rows_clear, row_first, in_place}

-- what is asked of number k
abbrev asked : (ℕ → Bool) → ℕ → Unit {0} → Check
asked good k x = is_true (good k)

-- the first of the numbers from 1 to n that does not pass; 0 where each does
unfoldable pub first_bad : (ℕ → Bool) → ℕ → ℕ
first_bad good n = row_fault (asked good) (replicate n tt)

-- A TEST THAT IS ANSWERED
-- no,
pub told_no : {r t : Bool} → r ≡ t → not r ≡ true → t ≡ false
told_no {r = r} e h = sym e ∙ not-true r h

-- or yes
pub told_yes : {r t : Bool} → r ≡ t → not r ≡ false → t ≡ true
told_yes {r = r} e h = sym e ∙ not-false r h

-- THE LOOP that looks for it: it has come to number i, and those before it pass
pub record Seeking (good : ℕ → Bool) (n i : ℕ) : Type 0 where
  pub low : 1 ≤ i
  pub high : i ≤ n + 1
  pub clear : (j : ℕ) → 1 ≤ j → j < i → good j ≡ true

-- at first
pub seek_first : {good : ℕ → Bool} {n : ℕ} → Seeking good n 1
seek_first = record { low = omega arith; high = omega arith; clear = λ j a b. absurd (omega arith) }

module _ {good : ℕ → Bool} {n i : ℕ} (s : Seeking good n i) where
  -- one that passes
  pub seek_more : i ≤ n → good i ≡ true → Seeking good n (i + 1)
  seek_more h g = record {
    low = omega arith;
    high = omega arith;
    clear = range_more (λ j. good j ≡ true) 1 i s.clear g;
  }

  -- one that does not
  pub seek_found : i ≤ n → good i ≡ false → i ≡ first_bad good n
  unfolding first_bad
  seek_found h g =
      let e : i - 1 + 1 ≡ i = omega (arith, s.low) in
      sym (row_first (asked good) tt (replicate n tt) (i - 1) (omega (arith, s.low, length-replicate {A = Unit {0}} n tt)) (λ j t. s.clear j t.0 (omega (arith, t.1))) (rw e g) ∙ e)

  -- one whose test is answered yes,
  pub seek_yes : {r : Bool} → i ≤ n → r ≡ good i → not r ≡ false → Seeking good n (i + 1)
  seek_yes h e k = seek_more h (told_yes e k)

  -- or no
  pub seek_no : {r : Bool} → i ≤ n → r ≡ good i → not r ≡ true → i ≡ first_bad good n
  seek_no h e k = seek_found h (told_no e k)

  -- none
  pub seek_none : n < i → 0 ≡ first_bad good n
  unfolding first_bad
  seek_none h = sym (rows_clear (asked good) tt (replicate n tt) n (sym (length-replicate n tt)) (λ j t. s.clear j t.0 (omega (arith, t.1))))

-- A TABLE whose rows are tested as numbers
module _ {A : Type 0} (f : ℕ → A → Check) (d : A) (good : ℕ → Bool) where
  -- numbered from i on
  agree_from : (k i : ℕ) (l : List A) → ((j : ℕ) → j < length l → (f (i + j) (get_or l j d)).test ≡ good (i + j))
      → first_fault k (numbered f i l) ≡ first_fault k (numbered (asked good) i (replicate (length l) tt))
  agree_from k i [] h = refl
  agree_from k i (x ∷ l) h =
      let z : i + 0 ≡ i = omega arith in
      rw (rw z at (h 0 (omega arith)), agree_from (suc k) (suc i) l (λ j b. let e : i + suc j ≡ suc i + j = omega arith in rw e at (h (suc j) (omega arith))))

  -- its first fault is the first number that does not pass
  pub table_bad : (l : List A) (n : ℕ) → length l ≡ n → ((k : ℕ) → There n k → (f k (at d l k)).test ≡ good k) → row_fault f l ≡ first_bad good n
  unfolding first_bad
  table_bad l n e h = rw (← e) (agree_from 1 1 l (λ j b. rw (in_place f d l j) at (h (1 + j) (omega arith, omega arith))))
