-- `looping::run_on` meets its contract: after k turns the arrays hold the configuration after k steps of the run, and the rules of these steps are written.
-- Assumes nothing.
use Prim.Native.Nat.{◌≤◌}
use lib.ListN.{length}
use Rattle.looping.specs.Looping.{RunAskedOf, GoingOn}
use Rattle.looping.proofs.run_on.Given as goal

abbrev pub invariant-loop-k : goal.invariant-loop-k
invariant-loop-k l =
    (l.k ≤ length l.choices) × ((a : RunAskedOf l.program l.index l.initial.flat l.choices l.initial.rules) → GoingOn a l.k l.flat l.rules)
