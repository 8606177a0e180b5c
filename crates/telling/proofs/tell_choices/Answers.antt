-- `telling::tell_choices` meets its contract: a line a turn. Assumes nothing.
use Rattle.telling.specs.Turns.{choices_none, choices_length, choice_room, choices_more, choices_all}
use Rattle.telling.proofs.tell_choices.Goals as goal

pub loop-choice-init : goal.loop-choice-init
loop-choice-init c = choices_none c.requires

pub write_choice-place-requires : goal.write_choice-place-requires
write_choice-place-requires c = choice_room c.loop-choice.invariant c.loop-choice-test.true

pub loop-choice-preserved : goal.loop-choice-preserved
loop-choice-preserved c = choices_more c.loop-choice.invariant c.loop-choice-test.true c.write_choice-place.ensures

pub shape_of-out : goal.shape_of-out
shape_of-out c = choices_length c.loop-choice.invariant

pub returns : goal.returns
returns c = choices_all c.loop-choice.invariant c.loop-choice-test.false
