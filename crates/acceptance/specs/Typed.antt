-- Laws of values that suit their variables: as many of them as variables, and each a value of an accepted configuration. Nothing here is of the document.
use Rattle.std.specs.Prelude.{ℕ, suc, ◌≡◌, refl, List, [], ◌∷◌, length}
use Rattle.std.proofs.Common.{ap}
use Rattle.lists.specs.Lists.{All}
use Rattle.values.specs.declared.Value.{Value}
use Rattle.programs.specs.Program.{Program, Variable}
use Rattle.acceptance.specs.Accepted.{ValueOk, TypedAll}

module _ (p : Program) (next : ℕ) where
  -- a value for each variable,
  pub typed_length : (xs : List Variable) (vs : List Value) → TypedAll p next xs vs → length vs ≡ length xs
  typed_length [] [] h = refl
  typed_length [] (v ∷ vs) h = absurd h
  typed_length (x ∷ xs) [] h = absurd h
  typed_length (x ∷ xs) (v ∷ vs) h = ap suc (typed_length xs vs h.1)

  -- each of them one
  pub typed_values : (xs : List Variable) (vs : List Value) → TypedAll p next xs vs → All (ValueOk p next) vs
  typed_values [] [] h = tt
  typed_values [] (v ∷ vs) h = absurd h
  typed_values (x ∷ xs) [] h = absurd h
  typed_values (x ∷ xs) (v ∷ vs) h = (h.0.0, typed_values xs vs h.1)
