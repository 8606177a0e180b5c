-- `accepting::room_ok` meets its contract, free or live. Assumes nothing.
use Rattle.free_rooms.specs.FreeRooms.{asked}
use Rattle.accepting.specs.Rooms.{free_fit, fit_free}
use Rattle.accepting.proofs.room_ok.Goals as goal

pub free_ok-requires : goal.free_ok-requires
free_ok-requires c = asked c.args.flat.now c.args.i c.requires.1 c.requires.0.sized

pub returns-then-flat-i-eq0 : goal.returns-then-flat-i-eq0
returns-then-flat-i-eq0 c = λ p t.
    let f = c.args.flat.now in
    let free = c.if-flat-i-eq0.true in
    let told = c.free_ok.ensures f.ids f.next free in
    record { holds = λ e. free_fit p f c.args.i free (told.holds e); test = λ h. told.test (fit_free p f c.args.i free h) }
