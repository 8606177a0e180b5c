-- `reading::in_order` meets its contract. Assumes nothing.
use borrow.Author.Tests.{eq-eqb, ne_eqb}
use Rattle.one_line.proofs.in_order.Goals as goal

pub returns-then-kind-eq11 : goal.returns-then-kind-eq11
returns-then-kind-eq11 c = rw (eq-eqb _ 11 c.if-kind-eq11.true)

pub returns-else-kind-eq11 : goal.returns-else-kind-eq11
returns-else-kind-eq11 c = rw (ne_eqb _ 11 c.if-kind-eq11.false)
