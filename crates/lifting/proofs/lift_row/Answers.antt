-- `lifting::lift_row` meets its contract: the row is copied over places that are `zero`. Assumes nothing.
use Rattle.lifting.proofs.lift_row.Goals as goal

pub returns : goal.returns
returns g c = record { row = c.copy.ensures }
