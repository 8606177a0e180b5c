-- `showing::gather` meets its contract: a room a turn. Assumes nothing.
use Rattle.showing.specs.Gathering.{Gathered}
use Rattle.showing.proofs.gather.Given as goal

abbrev pub invariant-loop-room : goal.invariant-loop-room
invariant-loop-room l = Gathered l.rooms l.machines l.count l.room-index
