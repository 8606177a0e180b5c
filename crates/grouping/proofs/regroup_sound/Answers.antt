-- `grouping::regroup_sound` meets its contract: the configuration is laid, and the list regrouped from there. Assumes nothing.
use Rattle.configs.specs.Flat.{zeros_sized}
use Rattle.grouping.specs.Grouping.{group_from}
use Rattle.grouping.proofs.regroup_sound.Goals as goal

pub lay-requires : goal.lay-requires
lay-requires c = rw c.new-flat.ensures zeros_sized

pub regroup_laid-requires : goal.regroup_laid-requires
regroup_laid-requires c =
    record { sound = c.requires; sized = c.lay.ensures.sized }

pub returns : goal.returns
returns c =
    group_from c.regroup_laid.ensures c.lay.ensures.is
