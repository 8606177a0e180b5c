-- `stepping::step_sound` meets its contract: the configuration is laid, stepped and lifted. Assumes nothing.
use mathlib.Core.Path.{ap, ◌∙◌}
use Rattle.configs.specs.declared.Config.{Config as Held}
use Rattle.configs.specs.Flat.{zeros_sized}
use Rattle.handed.specs.Handed.{step_of}
use Rattle.stepping.specs.Stepping.{stepped}
use Rattle.stepping.proofs.step_sound.Goals as goal

pub lay-requires : goal.lay-requires
lay-requires c = rw c.new-flat.ensures zeros_sized

pub step_laid-outcome-requires : goal.step_laid-outcome-requires
step_laid-outcome-requires c =
    record { sound = c.requires; sized = c.lay.ensures.sized }

pub lift-config-requires : goal.lift-config-requires
lift-config-requires c = c.step_laid-outcome.ensures.sized

pub returns : goal.returns
returns c =
    ap (λ (x : Held). stepped x c.step_laid-outcome.result) c.lift-config.ensures ∙ c.step_laid-outcome.ensures.done
    ∙ ap (λ (x : Held). step_of c.args.program.now x c.args.machine c.args.bits) c.lay.ensures.is
