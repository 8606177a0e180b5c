-- `pending::action_on` meets its contract: the law of specs/Meets.antt at what `begin` leaves. Assumes nothing.
use Rattle.pending.specs.Meets.{action_placing, action_left}
use Rattle.pending.proofs.action_on.Goals as goal

pub begin-requires : goal.begin-requires
begin-requires c =
    action_placing c.requires _

pub returns : goal.returns
returns c =
    action_left c.args.a _ _ _ _ (rw c.from.ensures at c.body_of-b.ensures) c.begin.ensures.0 c.begin.ensures.1
