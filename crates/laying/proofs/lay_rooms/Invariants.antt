-- `laying::lay_rooms` meets its contract: after i turns the first i rows are the rooms'. Assumes nothing.
use Rattle.laying.specs.Laying.{Laid}
use Rattle.laying.proofs.lay_rooms.Given as goal

abbrev pub invariant-loop-i : goal.invariant-loop-i
invariant-loop-i l = Laid l.rooms l.i l.flat
