-- `remaining::only` meets its contract: the row is cleared, then one part is put.
use Rattle.remaining.specs.Remaining.{and_then, cleared}
use Rattle.remaining.proofs.only.Goals as goal

pub clear_row-requires : goal.clear_row-requires
clear_row-requires c = c.requires.standing

pub push_part-requires : goal.push_part-requires
push_part-requires c =
    cleared c.requires c.clear_row.ensures

pub returns : goal.returns
returns c = and_then c.clear_row.ensures c.push_part.ensures
