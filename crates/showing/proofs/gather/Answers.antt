-- `showing::gather` meets its contract: a room a turn. Assumes nothing.
use mathlib.Core.Path.{◌≡◌}
use native.Mathlib.Omega.{arith}
use borrow.Author.Rules.{rules}
use lib.ListN.{length}
use Rattle.showing.specs.Gathering.{gathered_none, gathered_free, gathered_taken, gathered_all}
use Rattle.showing.proofs.gather.Goals as goal
use Rattle.showing.proofs.gather.Goals.{then-this-ne0, else-this-ne0}

pub loop-room-init : goal.loop-room-init
loop-room-init c = gathered_none c.args.rooms.now (search rules)

pub loop-room-preserved : goal.loop-room-preserved
loop-room-preserved c =
    elim c.if-this-ne0.branch [
      | then-this-ne0 w ↦ rw (w.machines-is, w.count-is) (gathered_taken c.loop-room.invariant _ (omega arith) w.if-this-ne0.true)
      | else-this-ne0 w ↦ rw (w.machines-is, w.count-is) (gathered_free c.loop-room.invariant _ (omega arith) w.if-this-ne0.false)
    ]

pub returns : goal.returns
returns c p = gathered_all c.loop-room.invariant (omega arith) p
