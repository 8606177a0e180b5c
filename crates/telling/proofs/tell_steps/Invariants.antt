-- `telling::tell_steps` meets its contract: a line a turn. Assumes nothing.
use Rattle.std.specs.Prelude.{length}
use Rattle.telling.specs.Turns.{StepsTold}
use Rattle.telling.proofs.tell_steps.Given as goal

abbrev pub invariant-loop-k : goal.invariant-loop-k
invariant-loop-k l = StepsTold l.choices l.rules l.at l.initial.out (length l.yielded) l.place l.out
