-- `telling::tell_choices` meets its contract: a line a turn. Assumes nothing.
use Rattle.telling.specs.Turns.{ChoicesTold}
use Rattle.telling.proofs.tell_choices.Given as goal

abbrev pub invariant-loop-choice : goal.invariant-loop-choice
invariant-loop-choice l = ChoicesTold l.list l.at l.initial.out l.choice-index l.place l.out
