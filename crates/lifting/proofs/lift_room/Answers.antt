-- `lifting::lift_room` meets its contract: the room is made of its numbers and rows, as specs/Lifting.antt says. Assumes nothing.
use Rattle.lifting.specs.Lifting.{room_is}
use Rattle.lifting.proofs.lift_room.Goals as goal

pub returns : goal.returns
returns c =
    room_is c.args.flat.now c.args.i _ _ _ _ _ c.requires.1 c.requires.0 c.lift_row.ensures c.lift_row-2.ensures c.lift_row-3.ensures
    c.lift_row-4.ensures c.lift_row-5.ensures
