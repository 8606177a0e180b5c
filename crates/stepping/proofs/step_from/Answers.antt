-- `stepping::step_from` meets its contract: a program that is not sound is refused.
use mathlib.Core.Path.{sym, ◌∙◌}
use Rattle.soundness.specs.Sound.{sound_is}
use Rattle.stepping.specs.Stepping.{step_unsound}
use Rattle.stepping.proofs.step_from.Goals as goal

pub returns-then-not-sound : goal.returns-then-not-sound
returns-then-not-sound c = step_unsound c.args.program.now c.args.c.now c.args.machine c.args.bits (sym c.sound.ensures ∙ c.if-not-sound.true)

pub step_sound-requires : goal.step_sound-requires
step_sound-requires c = (sound_is _).holds (sym c.sound.ensures ∙ c.if-not-sound.false)
