-- `doubling::name_two` meets its contract: one, then the other. Assumes nothing.
use Rattle.doubling.specs.Doubling.{named_both}
use Rattle.doubling.proofs.name_two.Goals as goal

pub returns : goal.returns
returns c = named_both c.name.ensures c.name-2.ensures
