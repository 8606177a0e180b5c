-- The first field of a form and of a line, byte by byte.
use Rattle.std.specs.Prelude.{ℕ, ◌≡◌, refl, Bool, true, false, cond, ◌&&◌, List, [], ◌∷◌, map, eqb}
use Rattle.std.proofs.Common.{ap, sym}
use Rattle.std.proofs.Math.Option.{Option, none, some}
use Rattle.lists.specs.Lists.{same}
use Rattle.texts.specs.Bytes.{split}
use Rattle.texts.specs.Forms.{Val, value_of, field_of, fields, values_of}
use Rattle.numerals.specs.Splits.{among, split_last}
use Rattle.shapes.specs.Parts.{till, later, split_parts, later_some}
use Rattle.shapes.specs.Unequal.{cond_same, no_value}
use Rattle.shapes.specs.Reads.{joined}

-- the fields behind the first
abbrev pub tails : List ℕ → List (List (List ℕ))
tails s = map (split 61) (later 32 s)

-- the parts of the first field, at its '='
abbrev pub first : List ℕ → List (List ℕ)
first s = split 61 (till 32 s)

-- the fields are these
pub fields_first : (s : List ℕ) → fields s ≡ first s ∷ tails s
fields_first s = ap (map (split 61)) (split_parts 32 s)

-- the values of the first field, and of the others
abbrev pub keyed : List ℕ → List ℕ → Option (List Val)
keyed t l = joined (field_of (first t) (first l)) (values_of (tails t) (tails l))

-- these are the values of a line in a form
pub values_keyed : (t l : List ℕ) → values_of (fields t) (fields l) ≡ keyed t l
values_keyed t l = rw (fields_first t, fields_first l)

-- a field with a byte more in its key
module _ (b : ℕ) (s : List ℕ) (n : eqb b 32 ≡ false) where
  pub first_on : eqb b 61 ≡ false → first (b ∷ s) ≡ (b ∷ till 61 (till 32 s)) ∷ later 61 (till 32 s)
  first_on e = rw (n, e, split_parts 61 (till 32 s))

  -- a '=' in front
  pub first_equals : eqb b 61 ≡ true → first (b ∷ s) ≡ [] ∷ first s
  first_equals e = rw (n, e)

  -- the others are the same
  pub tails_on : tails (b ∷ s) ≡ tails s
  tails_on = rw n

-- a space in front
module _ (b : ℕ) (s : List ℕ) (e : eqb b 32 ≡ true) where
  pub first_space : first (b ∷ s) ≡ [] ∷ []
  first_space = rw e

  -- then all fields come behind the first
  pub tails_space : tails (b ∷ s) ≡ fields s
  tails_space = rw e

-- a key that ends too early
pub field_early : (c : ℕ) (p : List ℕ) (ps qs : List (List ℕ)) → field_of ((c ∷ p) ∷ ps) ([] ∷ qs) ≡ none
field_early c p [] qs = refl
field_early c p (h ∷ []) [] = refl
field_early c p (h ∷ []) (d ∷ []) = refl
field_early c p (h ∷ []) (d ∷ e ∷ f) = refl
field_early c p (h ∷ g ∷ t) qs = refl

-- a key that goes on
pub field_late : (h : List ℕ) (b : ℕ) (q : List ℕ) (qs : List (List ℕ)) → field_of ([] ∷ h ∷ []) ((b ∷ q) ∷ qs) ≡ none
field_late h b q [] = refl
field_late h b q (d ∷ []) = refl
field_late h b q (d ∷ e ∷ f) = refl

-- a byte more in both keys
pub field_on : (c : ℕ) (p : List ℕ) (ps : List (List ℕ)) (b : ℕ) (q : List ℕ) (qs : List (List ℕ))
    → field_of ((c ∷ p) ∷ ps) ((b ∷ q) ∷ qs) ≡ cond (eqb c b) (field_of (p ∷ ps) (q ∷ qs)) none
field_on c p [] b q qs = sym (cond_same (eqb c b) none)
field_on c p (h ∷ []) b q [] = sym (cond_same (eqb c b) none)
field_on c p (h ∷ []) b q (d ∷ []) = go (eqb c b)
  where
    go : (z : Bool) → cond (z && same p q) (value_of h d) none ≡ cond z (cond (same p q) (value_of h d) none) none
    go true = refl
    go false = refl
field_on c p (h ∷ []) b q (d ∷ e ∷ f) = sym (cond_same (eqb c b) none)
field_on c p (h ∷ g ∷ t) b q qs = sym (cond_same (eqb c b) none)

-- at the '=' of both: what follows in the line is one value, and none with another '='
pub field_value : (h d : List ℕ) → among 61 h ≡ false → field_of ([] ∷ h ∷ []) ([] ∷ split 61 d) ≡ value_of h d
field_value h d n = go (among 61 d) refl
  where
    go : (p : Bool) → among 61 d ≡ p → field_of ([] ∷ h ∷ []) ([] ∷ split 61 d) ≡ value_of h d
    go false e = rw (split_last 61 d e)
    go true e = let z = later_some 61 d e in rw (split_parts 61 d, z.2) (sym (no_value h d n e))

-- what is joined to nothing
pub joined_none : (x : Option (List Val)) → joined x none ≡ none
joined_none none = refl
joined_none (some v) = refl

-- joined to no values
pub joined_nil : (x : Option (List Val)) → joined (some []) x ≡ x
joined_nil none = refl
joined_nil (some v) = refl

-- a test before it
pub joined_cond : (z : Bool) (x y : Option (List Val)) → joined (cond z x none) y ≡ cond z (joined x y) none
joined_cond true x y = refl
joined_cond false x y = refl
