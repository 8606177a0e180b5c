-- `placing::write_part` meets its contract: the machine's choices are written up to the place that the loop has come to. Assumes nothing.
use Rattle.std.proofs.Common.{◌+◌}
use Rattle.placing.specs.Written.{Writing}
use Rattle.placing.proofs.write_part.Given as goal

abbrev pub invariant-loop-x : goal.invariant-loop-x
invariant-loop-x l = Writing l.choices l.k l.from l.initial.out l.at l.out (l.from + l.x-index) l.o
