-- `stacks::call_frame` meets its contract: what crates/maps stores of the callee's map, and the two stores behind it. Assumes nothing.
use Rattle.stacks.specs.Changes.{call_leaves}
use Rattle.stacks.proofs.call_frame.Goals as goal

pub top_state-s-requires : goal.top_state-s-requires
top_state-s-requires c = (_, c.requires.deep)

pub top_map-requires : goal.top_map-requires
top_map-requires c = (_, (_, c.requires.deep))

pub returns : goal.returns
returns c = call_leaves c.requires c.args.n (rw (c.top_map.ensures, c.top_state-s.ensures) at c.call_map.ensures)
