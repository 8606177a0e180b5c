-- `showing::top` meets its contract: the last frame's state. Assumes nothing.
use Rattle.showing.specs.Looking.{top_at}
use Rattle.showing.proofs.top.Goals as goal

pub returns-then-depth-eq0 : goal.returns-then-depth-eq0
returns-then-depth-eq0 c p maps = rw c.if-depth-eq0.true

pub returns-else-depth-eq0 : goal.returns-else-depth-eq0
returns-else-depth-eq0 c p maps = top_at p c.args.states.now maps c.args.depth c.if-depth-eq0.false
