-- `copies::copy` meets its contract: the loop that copies, of specs/Copies.antt. Assumes nothing.
use Rattle.copies.specs.Copies.{copied_none, copied_more, copied_all}
use Rattle.copies.proofs.copy.Goals as goal

pub loop-e-init : goal.loop-e-init
loop-e-init g c = copied_none c.requires

pub loop-e-preserved : goal.loop-e-preserved
loop-e-preserved g c = copied_more c.loop-e.invariant c.index-from-a.result c.loop-e-test.true c.index-from-a.is

pub returns : goal.returns
returns g c = copied_all c.loop-e.invariant c.loop-e-test.false
