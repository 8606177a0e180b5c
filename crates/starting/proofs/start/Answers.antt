-- `starting::start` meets its contract: a program that is not sound does not start. Assumes nothing.
use mathlib.Core.Path.{ap, sym, ◌∙◌}
use Rattle.std.specs.Prelude.{Result, Ok}
use Rattle.answers.specs.declared.Answer.{Answer}
use Rattle.soundness.specs.Sound.{sound_is}
use Rattle.configs.specs.declared.Config.{Config as Held}
use Rattle.starting.specs.Started.{beginning_of, start_unsound, start_sound}
use Rattle.starting.proofs.start.Goals as goal

pub returns-then-not-sound : goal.returns-then-not-sound
returns-then-not-sound c = ap beginning_of (sym (start_unsound c.args.program.now (sym c.sound.ensures ∙ c.if-not-sound.true)))

pub start_sound-requires : goal.start_sound-requires
start_sound-requires c = (sound_is _).holds (sym c.sound.ensures ∙ c.if-not-sound.false)

pub returns : goal.returns
returns c =
    let begun : Held → Result Held Answer = λ x. Ok x in
    ap begun c.start_sound.ensures
    ∙ ap beginning_of (sym (start_sound c.args.program.now ((sound_is _).holds (sym c.sound.ensures ∙ c.if-not-sound.false))))
