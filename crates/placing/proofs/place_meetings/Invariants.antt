-- `placing::place_meetings` meets its contract: before each place, what is written and what is not yet placed make the regrouped list. Assumes nothing.
use Rattle.placing.specs.Weaving.{Weaving}
use Rattle.placing.proofs.place_meetings.Given as goal

abbrev pub invariant-loop-i : goal.invariant-loop-i
invariant-loop-i l = Weaving l.choices l.rules l.last l.initial.out l.table.who l.table.since l.out l.i l.o l.table.used
