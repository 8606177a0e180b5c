-- No more rules are applied than there are choices, and the step lines are those of the first choices. Nothing here is of the document.
use Rattle.std.specs.Prelude.{ℕ, suc, ◌≤◌, ◌≡◌, refl, List, [], ◌∷◌, ◌++◌, length}
use Rattle.std.proofs.Common.{arith}
use Rattle.machines.specs.Config.{Choice}
use Rattle.runs.specs.Outcome.{Out, took, refused, on_out}
use Rattle.runs.specs.Run.{ruled}
use Rattle.rules.specs.declared.Rule.{Rule}
use Rattle.outputs.specs.Programs.{step_lines}

module _ {C X R : Type 0} (step : C → X → Out C R) where
  -- a run applies no more rules than there are choices
  pub ruled_most : (c : C) (l : List X) → length (ruled step c l) ≤ length l
  ruled_most c [] = omega arith
  ruled_most c (x ∷ l) = go (step c x) (λ d. ruled_most d l)
    where
      go : (o : Out C R) → ((d : C) → length (ruled step d l) ≤ length l) → length (on_out o (λ r d. r ∷ ruled step d l) (λ a. [])) ≤ length (x ∷ l)
      go (took r d) h = omega (arith, h d)
      go (refused a) h = omega arith

-- no rule, no line
no_lines : (n : ℕ) (l : List Choice) → step_lines n l [] ≡ []
no_lines n [] = refl
no_lines n (x ∷ l) = refl

-- choices behind those that took steps have no lines
pub lines_of_first : (n : ℕ) (l m : List Choice) (rs : List Rule) → length rs ≤ length l → step_lines n (l ++ m) rs ≡ step_lines n l rs
lines_of_first n l m [] h = rw (no_lines n (l ++ m), no_lines n l)
lines_of_first n [] m (R ∷ rs) h = absurd (omega arith)
lines_of_first n (x ∷ l) m (R ∷ rs) h = rw (lines_of_first (suc n) l m rs (omega (arith, h)))
