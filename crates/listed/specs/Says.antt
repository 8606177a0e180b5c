-- What the parts of a list that are left say: all of them say the list.
use Rattle.std.specs.Prelude.{ℕ, ◌+◌, ◌≤◌, ◌≡◌, true, false, List, ◌∷◌, map, length}
use Rattle.std.proofs.Common.{ap, sym, ◌∙◌}
use Rattle.lists.specs.Lists.{is_some}
use Rattle.soundness.specs.Asked.{ascending}
use Rattle.texts.specs.Bytes.{split, each}
use Rattle.texts.specs.Numbers.{decimal, numbers, pairs}
use Rattle.numerals.specs.Splits.{span, Until}
use Rattle.listings.specs.Listings.{is_none, list_of, pair_list, number_of, pair_in, pair_of, listed_there, listed_says}
use Rattle.listings.specs.Left.{left, left_all, left_next}

-- the numbers from place a on
abbrev pub numbers_left : ℕ → List ℕ → List ℕ
numbers_left a d = map number_of (left a d)

-- the pairs
abbrev pub pairs_left : ℕ → List ℕ → List (ℕ × ℕ)
pairs_left a d = map pair_of (left a d)

module _ (d : List ℕ) (n : is_none d ≡ false) where
  -- all of the numbers
  pub numbers_all : is_some (numbers d) ≡ true → numbers_left 0 d ≡ list_of d
  numbers_all h = ap (map number_of) (left_all d) ∙ sym (listed_says decimal 0 ascending d n h)

  -- all of the pairs
  pub pairs_all : is_some (pairs d) ≡ true → pairs_left 0 d ≡ pair_list d
  pairs_all h = ap (map pair_of) (left_all d) ∙ sym (listed_says pair_in (0, 0) (λ l. ascending (map (λ xe. xe.0) l)) d n h)

  -- each part says one
  pub pairs_there : is_some (pairs d) ≡ true → is_some (each pair_in (left 0 d)) ≡ true
  pairs_there h = rw (left_all d) (listed_there pair_in (0, 0) (λ l. ascending (map (λ xe. xe.0) l)) d n h)

-- the next number, and the others
pub numbers_next : (d : List ℕ) (a e : ℕ) → a ≤ length d → Until 44 d a (length d) e → numbers_left a d ≡ number_of (span a e d) ∷ numbers_left (e + 1) d
numbers_next d a e h u = ap (map number_of) (left_next a e d h u)

-- the next pair
pub pairs_next : (d : List ℕ) (a e : ℕ) → a ≤ length d → Until 44 d a (length d) e → pairs_left a d ≡ pair_of (span a e d) ∷ pairs_left (e + 1) d
pairs_next d a e h u = ap (map pair_of) (left_next a e d h u)

-- THE PARTS ONE BY ONE
module _ (d : List ℕ) (n : is_none d ≡ false) where
  -- all of the numbers
  pub numbers_said : is_some (numbers d) ≡ true → map number_of (split 44 d) ≡ list_of d
  numbers_said h = sym (listed_says decimal 0 ascending d n h)

  -- all of the pairs
  pub pairs_said : is_some (pairs d) ≡ true → map pair_of (split 44 d) ≡ pair_list d
  pairs_said h = sym (listed_says pair_in (0, 0) (λ l. ascending (map (λ xe. xe.0) l)) d n h)

  -- each part says one
  pub parts_there : is_some (pairs d) ≡ true → is_some (each pair_in (split 44 d)) ≡ true
  parts_there h = listed_there pair_in (0, 0) (λ l. ascending (map (λ xe. xe.0) l)) d n h
