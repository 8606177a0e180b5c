-- `placing::place_tails` meets its contract: what is written and the rows that are left make the choices machine by machine. Assumes nothing.
use Rattle.placing.specs.Tailing.{Tails, Tailing}
use Rattle.placing.proofs.place_tails.Given as goal

abbrev pub invariant-loop-s : goal.invariant-loop-s
invariant-loop-s l = (a : Tails l.choices l.end l.initial.table.who l.initial.table.since l.initial.table.used l.initial.out l.at) → Tailing l.choices l.end a.u l.initial.out l.at l.table.who l.table.since l.table.used l.out l.o

abbrev pub decreases-loop-s : goal.decreases-loop-s
decreases-loop-s l = l.table.used
