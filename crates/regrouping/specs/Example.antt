-- A regrouped list whose tails stood out of order. (The document's own example is row K12 of its table.)
use Rattle.std.specs.Prelude.{ℕ, ◌≡◌, refl, Bool, true, false, List, [], ◌∷◌, ◌++◌}
use Rattle.regrouping.specs.Regrouped.{regrouped, weave, tails}

-- an entry: its machine, its place in the given list, and whether it is a meeting
abbrev Entry : Type 0
Entry = ℕ × ℕ × Bool

-- the entries l with the entry z behind them, regrouped
abbrev whole : List Entry → Entry → List Entry
whole l z = regrouped (λ (e : Entry). e.0) (λ e. e.2) z.0 l ++ z ∷ []

-- With p a private step and M a meeting, 5p 9p 3p 7p 9M 5p 9p 3p 7p 9p 5p gives 9p 9M 3p 3p 7p 7p 9p 9p 5p 5p 5p: the other machines' tails by number, the last choice's machine behind them.
pub by_number : whole
    ((5, 1, false) ∷ (9, 2, false) ∷ (3, 3, false) ∷ (7, 4, false) ∷ (9, 5, true) ∷ (5, 6, false) ∷ (9, 7, false) ∷ (3, 8, false) ∷ (7, 9, false) ∷ (9, 10, false) ∷ [])
    (5, 11, false)
    ≡ (9, 2, false) ∷ (9, 5, true) ∷ (3, 3, false) ∷ (3, 8, false) ∷ (7, 4, false) ∷ (7, 9, false) ∷ (9, 7, false) ∷ (9, 10, false)
    ∷ (5, 1, false) ∷ (5, 6, false) ∷ (5, 11, false) ∷ []
unfolding weave tails
by_number = refl
