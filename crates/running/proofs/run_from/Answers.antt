-- `running::run_from` meets its contract: a program that is not sound is refused. Assumes nothing.
use mathlib.Core.Path.{ap, sym, ◌∙◌}
use Rattle.soundness.specs.Sound.{sound_is}
use Rattle.running.specs.Running.{ran_with, run_unsound}
use Rattle.running.proofs.run_from.Goals as goal

pub returns-then-not-sound : goal.returns-then-not-sound
returns-then-not-sound c =
    let stops = run_unsound c.args.program.now c.args.c.now _ _ (sym c.sound.ensures ∙ c.if-not-sound.true) in
    (ap (ran_with c.args.c.now) c.stopped.ensures ∙ stops.ran, stops.rules)

pub run_sound-requires : goal.run_sound-requires
run_sound-requires c =
    (sound_is _).holds (sym c.sound.ensures ∙ c.if-not-sound.false)

pub returns : goal.returns
returns c = (c.run_sound.ensures.ran, c.run_sound.ensures.rules)
