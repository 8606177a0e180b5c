-- `fitting::fit` meets its contract: a program that is not sound is refused. Assumes nothing.
use Rattle.std.proofs.Common.{sym, ◌∙◌}
use Rattle.soundness.specs.Sound.{sound_is}
use Rattle.fitting.specs.Fitting.{unsound_fit}
use Rattle.fitting.proofs.fit.Goals as goal

pub returns-else-sound : goal.returns-else-sound
returns-else-sound c = rw c.if-sound.false (unsound_fit c.args.program.now c.args.c.now (sym c.sound.ensures ∙ c.if-sound.false))

pub fit_sound-requires : goal.fit_sound-requires
fit_sound-requires c = (sound_is _).holds (sym c.sound.ensures ∙ c.if-sound.true)
