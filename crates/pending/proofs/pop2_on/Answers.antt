-- `pending::pop2_on` meets its contract: the law of specs/Meets.antt at what `pop_frame` leaves. Assumes nothing.
use Rattle.pending.specs.Meets.{return_deep, return_left}
use Rattle.pending.proofs.pop2_on.Goals as goal

pub pop_frame-requires : goal.pop_frame-requires
pop_frame-requires c =
    return_deep c.requires

pub returns : goal.returns
returns c =
    return_left _ _ _ c.pop_frame.ensures
