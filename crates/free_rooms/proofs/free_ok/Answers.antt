-- `free_rooms::free_ok` meets its contract: its numbers, then its rows. Assumes nothing.
use Rattle.lists.specs.Tells.{form}
use Rattle.free_rooms.specs.FreeRooms.{free_told}
use Rattle.free_rooms.proofs.free_ok.Goals as goal

pub returns-then-numbers_zero : goal.returns-then-numbers_zero
returns-then-numbers_zero c =
    let f = c.args.flat.now in
    let t = c.numbers_zero.ensures.holds c.if-numbers_zero.true in
    free_told f.kinds f.depths f.states f.maps f.values f.counts f.parts f.held f.waiting f.pairs c.args.i c.requires
    (form c.rows_zero.ensures (λ z. (t, z)) (λ h. h.1))
