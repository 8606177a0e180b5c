-- `laying::lay_room` meets its contract: what it stores is what specs/Laying.antt says of a room that is stored. Assumes nothing.
use Rattle.laying.specs.Laying.{stored_placed}
use Rattle.laying.proofs.lay_room.Goals as goal

pub returns-clause-room : goal.returns-clause-room
returns-clause-room c =
    stored_placed c.args.flat.now c.args.i c.args.m.now _ _ _ _ _ c.requires.1 c.requires.0 c.lay_row.ensures c.lay_row-2.ensures
    c.lay_row-3.ensures c.lay_row-4.ensures c.lay_row-5.ensures
