-- Of a sound program, the start configuration is accepted, and every step and every run keeps acceptance.
use Rattle.std.specs.Prelude.{◌≡◌, List}
use Rattle.programs.specs.Program.{Program}
use Rattle.machines.specs.Config.{Config, Choice}
use Rattle.runs.specs.Outcome.{took}
use Rattle.runs.specs.Run.{run}
use Rattle.rules.specs.declared.Rule.{Rule}
use Rattle.rules.specs.Step.{step, start_config}
use Rattle.soundness.specs.Sound.{Sound}
use Rattle.soundness.specs.SoundFounded.{sound_founded}
use Rattle.acceptance.specs.Accepted.{Accepted}
use Rattle.kept.specs.Kept as founded

module _ (p : Program) (sound : Sound p) where
  pub start_accepted : Accepted p (start_config p)
  start_accepted = founded.start_accepted p (sound_founded p sound)

  pub step_keeps : (c d : Config) (x : Choice) (R : Rule) → Accepted p c → step p c x ≡ took R d → Accepted p d
  step_keeps = founded.step_keeps p (sound_founded p sound)

  pub run_keeps : (c : Config) (l : List Choice) → Accepted p c → Accepted p (run (step p) c l).config
  run_keeps = founded.run_keeps p (sound_founded p sound)
