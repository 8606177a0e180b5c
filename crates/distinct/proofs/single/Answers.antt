-- `distinct::single` meets its contract: 0, or not found behind itself. Assumes nothing.
use Rattle.distinct.specs.Distinct.{single_told}
use Rattle.distinct.proofs.single.Goals as goal

pub returns-else-this-eq0 : goal.returns-else-this-eq0
returns-else-this-eq0 c = rw c.contains.ensures.value (single_told c.args.ids.now c.args.i c.requires c.told-ids c.if-this-eq0.false)
