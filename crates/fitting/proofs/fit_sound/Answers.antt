-- `fitting::fit_sound` meets its contract: the configuration is laid into the arrays and tested there. Assumes nothing.
use Rattle.configs.specs.Flat.{zeros_sized}
use Rattle.fitting.specs.Fitting.{laid_fit}
use Rattle.fitting.proofs.fit_sound.Goals as goal

pub lay-requires : goal.lay-requires
lay-requires c = rw c.new-flat.ensures zeros_sized

pub admitted-requires : goal.admitted-requires
admitted-requires c = record { sound = c.requires; sized = c.lay.ensures.sized }

pub returns : goal.returns
returns c = laid_fit c.args.program.now c.args.c.now c.requires _ _ c.lay.ensures.is c.admitted.ensures
