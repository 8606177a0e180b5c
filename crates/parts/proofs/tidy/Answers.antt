-- `parts::tidy` meets its contract: one change after the other.
use Rattle.parts.specs.Parts.{becomes_then}
use Rattle.parts.proofs.tidy.Goals as goal

pub returns : goal.returns
returns c = becomes_then c.settle-m.ensures c.lone.ensures
