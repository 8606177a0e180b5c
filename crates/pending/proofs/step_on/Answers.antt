-- `pending::step_on` meets its contract: the law of specs/Meets.antt at what `step_frame` and `begin` leave. Assumes nothing.
use Rattle.pending.specs.Meets.{step_placing, step_deep, step_left}
use Rattle.pending.proofs.step_on.Goals as goal

pub step_frame-requires : goal.step_frame-requires
step_frame-requires c =
    step_deep c.requires

pub begin-requires : goal.begin-requires
begin-requires c =
    step_placing c.requires _

pub returns : goal.returns
returns c =
    step_left c.args.n _ _ _ _ _ (rw c.from.ensures at c.entry_of-e.ensures) c.step_frame.ensures c.begin.ensures.0 c.begin.ensures.1
