-- A text split at a byte: the bytes till the first one, and the parts behind it.
use Rattle.std.specs.Prelude.{ℕ, ◌≡◌, refl, Bool, true, false, cond, ◌||◌, List, [], ◌∷◌, eqb}
use Rattle.std.proofs.Common.{arith}
use Rattle.texts.specs.Bytes.{before, split}
use Rattle.numerals.specs.Splits.{among}

-- the bytes till the first c
abbrev pub till : ℕ → List ℕ → List ℕ
till c [] = []
till c (b ∷ s) = let rest = b ∷ till c s in cond (eqb b c) [] rest

-- the parts behind the first c
abbrev pub later : ℕ → List ℕ → List (List ℕ)
later c [] = []
later c (b ∷ s) = let rest = later c s in cond (eqb b c) (split c s) rest

-- the parts are these
pub split_parts : (c : ℕ) (s : List ℕ) → split c s ≡ till c s ∷ later c s
split_parts c [] = refl
split_parts c (b ∷ s) = go (eqb b c) (split_parts c s)
  where
    go : (p : Bool) → split c s ≡ till c s ∷ later c s → cond p ([] ∷ split c s) (before b (split c s)) ≡ cond p [] (b ∷ till c s) ∷ cond p (split c s) (later c s)
    go true h = refl
    go false h = rw h

-- where c is there, a part is behind it
pub later_some : (c : ℕ) (s : List ℕ) → among c s ≡ true → (g : List ℕ) × (gs : List (List ℕ)) × (later c s ≡ g ∷ gs)
later_some c [] h = absurd (let z : ◌≡◌ {A = ℕ} 0 1 = cc in omega arith)
later_some c (b ∷ s) h = go (eqb b c) h (later_some c s)
  where
    go : (p : Bool) → p || among c s ≡ true → (among c s ≡ true → (g : List ℕ) × (gs : List (List ℕ)) × (later c s ≡ g ∷ gs)) → (g : List ℕ) × (gs : List (List ℕ)) × (cond p (split c s) (later c s) ≡ g ∷ gs)
    go true h k = (till c s, later c s, split_parts c s)
    go false h k = k h
