-- A faulty line, or row, as the code answers it: `Some` of its number, and `None` where there is none. The definitions count lines from 1 and have 0 for
-- none, and these two lead from the one to the other. And what the search through numbers finds, whatever it asks of each.
use Rattle.std.specs.Prelude.{ℕ, zero, suc, ◌+◌, ◌-◌, ◌≤◌, ◌<◌, ◌≡◌, refl, Bool, true, false, not, List, length, Option, Some, None, IfSome, is_some, eqb}
use Rattle.std.proofs.Common.{ap, sym, ◌∙◌, arith, ne_eqb}
use Rattle.std.proofs.Math.Bool.{not-not}
use Rattle.std.specs.Option.{option_map, option_or}
use Rattle.lists.specs.Lists.{at, up_to}
use Rattle.lists.specs.Check.{Check}
use Rattle.faults.specs.Faults.{onward, joined, onward_none, onward_some, joined_none, joined_some, row_fault, rows_clear, row_first}
use Rattle.faults.specs.Upward.{up_passes, up_fails}
use Rattle.faults.specs.First.{first_bad, Seeking, seek_none, seek_found}

-- two tests whose opposites are one
pub not_same : (a b : Bool) → not a ≡ not b → a ≡ b
not_same a b h = sym (not-not a) ∙ ap not h ∙ not-not b

-- a line's number as an answer: none is 0
abbrev pub line_of : ℕ → Option ℕ
line_of zero = None
line_of (suc n) = Some (suc n)

-- an answer as a line's number: 0 where there is none
abbrev pub number_of : Option ℕ → ℕ
number_of None = 0
number_of (Some n) = n

-- there and back
pub number_line : (n : ℕ) → number_of (line_of n) ≡ n
number_line zero = refl
number_line (suc n) = refl

-- a line that is there
pub line_some : (n : ℕ) → 1 ≤ n → line_of n ≡ Some n
line_some zero h = absurd (omega arith)
line_some (suc n) h = refl

-- none is there exactly where the number is 0
pub line_none : (n : ℕ) → is_some (line_of n) ≡ not (eqb n 0)
line_none zero = refl
line_none (suc n) = rw (ne_eqb (suc n) 0 (λ z. omega arith))

-- a test that there is none
pub none_is : (r : Option ℕ) (n : ℕ) (b : Bool) → is_some r ≡ not b → r ≡ line_of n → b ≡ eqb n 0
none_is r n b h e = not_same b (eqb n 0) (sym h ∙ ap is_some e ∙ line_none n)

-- lines before a fault
pub onward_line : (n k : ℕ) → option_map (λ b. n + b) (line_of k) ≡ line_of (onward n k)
onward_line n zero = rw onward_none refl
onward_line n (suc k) = rw (onward_some n (suc k) (omega arith), line_some (n + suc k) (omega arith)) refl

-- the first of two
pub joined_line : (a n k : ℕ) → option_or (line_of a) (line_of (onward n k)) ≡ line_of (joined a n k)
joined_line zero n k = rw joined_none refl
joined_line (suc a) n k = rw (joined_some (suc a) n k (omega arith)) refl

-- which is no further than either
pub number_or : (a b : Option ℕ) (m : ℕ) → number_of a ≤ m → number_of b ≤ m → number_of (option_or a b) ≤ m
number_or None b m h k = k
number_or (Some n) b m h k = h

-- THE SEARCH: r is the first of the numbers from 1 to n of which no is said, where `said i b` is that b is said of number i
pub record Finds (said : ℕ → Bool → Type 0) (n : ℕ) (r : Option ℕ) : Type 0 where
  pub found : IfSome r (λ i. (1 ≤ i) × (i ≤ n) × said i false)
  -- yes of each before it, or of all where there is none
  pub before : (j : ℕ) → 1 ≤ j → j ≤ n → IfSome r (λ i. j < i) → said j true

-- LAWS FOR CALLERS, of what is said being the answer of a test
module _ {said : ℕ → Bool → Type 0} {n : ℕ} where
  -- it is the first number that does not pass the test,
  pub finds_first : (test : ℕ → Bool) {r : Option ℕ} → Finds said n r → ((j : ℕ) (b : Bool) → 1 ≤ j → j ≤ n → said j b → b ≡ test j) → r ≡ line_of (first_bad test n)
  finds_first test {r = None} h t =
      let s : Seeking test n (n + 1) = record { low = omega arith; high = omega arith; clear = λ j a b. sym (t j true a (omega arith) (h.before j a (omega arith) tt)) } in
      ap line_of (seek_none s (omega arith))
  finds_first test {r = Some i} h t =
      let s : Seeking test n i = record { low = h.found.0; high = omega (arith, h.found.1); clear = λ j a b. sym (t j true a (omega (arith, h.found.1)) (h.before j a (omega (arith, h.found.1)) b)) } in
      sym (line_some i h.found.0) ∙ ap line_of (seek_found s h.found.1 (sym (t i false h.found.0 h.found.1 h.found.2)))

  -- and the first row of a table that is not as it is asked.
  pub finds_row : {A : Type 0} (f : ℕ → A → Check) (d : A) (l : List A) {r : Option ℕ} → Finds said n r → length l ≡ n
      → ((j : ℕ) (b : Bool) → 1 ≤ j → j ≤ n → said j b → b ≡ (f j (at d l j)).test) → r ≡ line_of (row_fault f l)
  finds_row f d l {r = None} h e t = ap line_of (sym (rows_clear f d l n (sym e) (λ j b. sym (t j true b.0 b.1 (h.before j b.0 b.1 tt)))))
  finds_row f d l {r = Some i} h e t =
      let b : i - 1 + 1 ≡ i = omega (arith, h.found.0) in
      let z : (f i (at d l i)).test ≡ false = sym (t i false h.found.0 h.found.1 h.found.2) in
      let q : row_fault f l ≡ i - 1 + 1 = row_first f d l (i - 1) (omega (arith, h.found.0, h.found.1))
      (λ j w. sym (t j true w.0 (omega (arith, h.found.1, w.1)) (h.before j w.0 (omega (arith, h.found.1, w.1)) (omega (arith, h.found.0, w.1)))))
      (rw (← b) at z) in
      sym (line_some i h.found.0) ∙ ap line_of (sym (q ∙ b))

  -- It finds none exactly where every number passes.
  pub finds_none : (test : ℕ → Bool) {r : Option ℕ} → Finds said n r → ((j : ℕ) (b : Bool) → 1 ≤ j → j ≤ n → said j b → b ≡ test j) → is_some r ≡ not (up_to n test)
  finds_none test {r = None} h t = ap not (sym (up_passes test n (λ j a b. sym (t j true a b (h.before j a b tt)))))
  finds_none test {r = Some i} h t =
      let e : i - 1 + 1 ≡ i = omega (arith, h.found.0) in
      let z : test i ≡ false = sym (t i false h.found.0 h.found.1 h.found.2) in
      ap not (sym (up_fails test n (i - 1) (omega (arith, h.found.0, h.found.1)) (rw (← e) at z)))
