-- The holes of forms, one by one, and what the code knows of a word for one.
use Rattle.std.specs.Prelude.{ℕ, ◌+◌, ◌≡◌, refl, Bool, true, List, [], ◌∷◌, eqb, length, drop}
use Rattle.std.proofs.Math.Option.{Option, none, some}
use Rattle.std.proofs.Common.{ne_eqb, eqb-true}
use Rattle.lists.specs.Lists.{is_some}
use Rattle.texts.specs.Forms.{Val, a_number, an_integer, a_list, some_pairs, one, value_of}
use Rattle.texts.specs.Numbers.{decimal, signed, numbers, pairs}
use Rattle.readers.specs.Words.{word}
use Rattle.shapes.specs.Reads.{hole}
use Rattle.scans.specs.declared.Taken.{Taken}
use Rattle.scans.specs.Fits.{taken_at}

-- a value alone is there where it is
one_some : {A : Type 0} (f : A → Val) (o : Option A) → is_some o ≡ is_some (one f o)
one_some f none = refl
one_some f (some a) = refl

module _ (c : ℕ) (d : List ℕ) where
  -- '#'
  pub at_number : c ≡ 35 → is_some (decimal d) ≡ is_some (value_of (c ∷ []) d)
  at_number e = rw e (one_some a_number (decimal d))

  -- '~'
  pub at_integer : c ≡ 126 → is_some (signed d) ≡ is_some (value_of (c ∷ []) d)
  at_integer e = rw e (one_some an_integer (signed d))

  -- '@'
  pub at_list : c ≡ 64 → is_some (numbers d) ≡ is_some (value_of (c ∷ []) d)
  at_list e = rw e (one_some a_list (numbers d))

  -- '%', which is the last
  pub at_pairs : hole c ≡ true → (c ≡ 35 → ⊥) → (c ≡ 126 → ⊥) → (c ≡ 64 → ⊥) → is_some (pairs d) ≡ is_some (value_of (c ∷ []) d)
  at_pairs h x y z =
      let e : eqb c 37 ≡ true = rw (ne_eqb c 35 x, ne_eqb c 126 y, ne_eqb c 64 z) at h in
      rw (eqb-true c 37 e) (one_some some_pairs (pairs d))

-- '#' is a hole
pub hole_number : (c : ℕ) → c ≡ 35 → true ≡ hole c
hole_number c e = rw e

-- '~'
pub hole_integer : (c : ℕ) → c ≡ 126 → true ≡ hole c
hole_integer c e = rw e

-- '@'
pub hole_list : (c : ℕ) → c ≡ 64 → true ≡ hole c
hole_list c e = rw e

-- and '%' alone of the others
pub hole_pairs : (c : ℕ) (r : Bool) → (c ≡ 35 → ⊥) → (c ≡ 126 → ⊥) → (c ≡ 64 → ⊥) → r ≡ eqb c 37 → r ≡ hole c
hole_pairs c r x y z e = rw (ne_eqb c 35 x, ne_eqb c 126 y, ne_eqb c 64 z) e

-- the parts of what is known of a word
pub taken_is : (c : ℕ) (s : List ℕ) (at : ℕ) (d : List ℕ) (ok : Bool) → d ≡ word (drop at s) → ok ≡ is_some (value_of (c ∷ []) d)
    → ◌≡◌ {A = Taken} (record { at = at; ok = ok; end = at + length d }) (taken_at c s at)
taken_is c s at d ok e f = rw (f, e)

-- what is known of the word at one place is known of it for the same place and hole
pub known_is : (c : ℕ) (s : List ℕ) (at : ℕ) (first : Taken) → c ≡ 35 → at ≡ first.at → first ≡ taken_at 35 s first.at → first ≡ taken_at c s at
known_is c s at first e f h = rw (e, f) h
