-- `grouping::regroup` meets its contract: a program that is not sound is refused.
use mathlib.Core.Path.{sym, ◌∙◌}
use Rattle.soundness.specs.Sound.{sound_is}
use Rattle.grouping.specs.Grouping.{group_unsound}
use Rattle.grouping.proofs.regroup.Goals as goal

pub returns-then-not-sound : goal.returns-then-not-sound
returns-then-not-sound c =
    let refused = group_unsound c.args.program c.args.c _ _ (sym c.sound.ensures ∙ c.if-not-sound.true) in
    (refused.answer, refused.wrote)

pub regroup_sound-requires : goal.regroup_sound-requires
regroup_sound-requires c = (sound_is _).holds (sym c.sound.ensures ∙ c.if-not-sound.false)

pub returns : goal.returns
returns c = (c.regroup_sound.ensures.answer, c.regroup_sound.ensures.wrote)
