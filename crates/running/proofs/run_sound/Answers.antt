-- `running::run_sound` meets its contract: the configuration is laid, run and lifted. Assumes nothing.
use Rattle.configs.specs.Flat.{zeros_sized}
use Rattle.running.specs.Running.{left_lifted}
use Rattle.running.proofs.run_sound.Goals as goal

pub lay-requires : goal.lay-requires
lay-requires c = rw c.new-flat.ensures zeros_sized

pub run_laid-end-requires : goal.run_laid-end-requires
run_laid-end-requires c =
    record { laid = record { sound = c.requires; sized = c.lay.ensures.sized }; room = c.told-rules }

pub lift-config-requires : goal.lift-config-requires
lift-config-requires c = c.run_laid-end.ensures.sized

pub returns : goal.returns
returns c =
    left_lifted c.args.c.now c.lift-config.result c.run_laid-end.ensures c.lay.ensures.is c.lift-config.ensures
