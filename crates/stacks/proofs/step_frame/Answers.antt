-- `stacks::step_frame` meets its contract: one store. Assumes nothing.
use Rattle.stacks.specs.Changes.{step_leaves}
use Rattle.stacks.proofs.step_frame.Goals as goal

pub top_place-requires : goal.top_place-requires
top_place-requires c = (_, c.requires)

pub returns : goal.returns
returns c maps h = rw c.top_place.ensures (step_leaves h c.args.n)
