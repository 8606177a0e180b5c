-- `pending::pop1_on` meets its contract: the law of specs/Meets.antt at what `pop_frame` leaves. Assumes nothing.
use Rattle.pending.specs.Meets.{raise_deep, raise_left}
use Rattle.pending.proofs.pop1_on.Goals as goal

pub pop_frame-requires : goal.pop_frame-requires
pop_frame-requires c =
    raise_deep c.requires

pub returns : goal.returns
returns c =
    raise_left _ _ _ c.pop_frame.ensures
