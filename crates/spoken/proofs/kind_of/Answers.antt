-- `spoken::kind_of` meets its contract: the table has the kind of each form's lines. Assumes nothing.
use Rattle.spoken.specs.Counted.{kind_at}
use Rattle.spoken.proofs.kind_of.Goals as goal

pub returns : goal.returns
returns c s places = kind_at s places c.args.row c.requires
