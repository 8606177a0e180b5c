-- `evaluation::number` meets its contract: what evaluation gives, without the bits that are left.
use Rattle.evaluation.proofs.number.Goals as goal

pub eval-x-requires : goal.eval-x-requires
eval-x-requires c = c.requires

pub returns : goal.returns
returns c = rw (c.eval-x.ensures, c.from.ensures)
