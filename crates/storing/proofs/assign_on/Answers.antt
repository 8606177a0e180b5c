-- `storing::assign_on` meets its contract: refused where the value does not suit, else stored.
use mathlib.Core.Path.{refl}
use Rattle.statements.specs.Heading.{asked_headed}
use Rattle.statements.specs.Conditions.{asked_readable}
use Rattle.storing.specs.Storing.{assign_256, assign_place, assign_refused, assign_left}
use native.Mathlib.Omega.{arith}
use Rattle.storing.proofs.assign_on.Goals as goal

pub number-v-requires : goal.number-v-requires
number-v-requires c = (asked_readable c.requires.test, c.requires.test.bits)

pub returns-then-not-suits : goal.returns-then-not-suits
returns-then-not-suits c = λ a. assign_refused a _ c.number-v.ensures _ (rw c.from.ensures at c.variable_type-t.ensures) _ c.value_of.ensures _ c.suits.ensures c.if-not-suits.true

pub bounds-places-from : goal.bounds-places-from
bounds-places-from c = omega (arith, assign_256 c.requires, c.from-2.ensures)

pub overflow_add-values : goal.overflow_add-values
overflow_add-values c = omega (arith, c.requires.test.row.heading.stands.room)

pub overflow_mul-values : goal.overflow_mul-values
overflow_mul-values c = omega (arith, c.requires.test.row.heading.stands.room)

pub overflow_add-values-2 : goal.overflow_add-values-2
overflow_add-values-2 c = omega (arith, c.requires.test.row.heading.stands.room, assign_place c.requires, rw c.from-2.ensures at c.from-j.ensures)

pub offset_bounds-values-k : goal.offset_bounds-values-k
offset_bounds-values-k c = omega (arith, c.requires.test.row.heading.stands.room, assign_place c.requires, rw c.from-2.ensures at c.from-j.ensures)

pub bounds-values-k : goal.bounds-values-k
bounds-values-k c = omega (arith, c.requires.test.row.heading.stands.room, assign_place c.requires, rw c.from-2.ensures at c.from-j.ensures)

pub offset_bounds-held-k : goal.offset_bounds-held-k
offset_bounds-held-k c = omega (arith, c.requires.test.row.heading.stands.room)

pub bounds-held-k : goal.bounds-held-k
bounds-held-k c = omega (arith, c.requires.test.row.heading.stands.room)

pub finish_head-requires : goal.finish_head-requires
finish_head-requires c = asked_headed c.requires.test.row

pub returns : goal.returns
returns c = λ a. assign_left a _ c.number-v.ensures _ (rw c.from.ensures at c.variable_type-t.ensures) _ c.value_of.ensures _ c.suits.ensures _ (rw c.from-2.ensures at c.from-j.ensures) _ refl c.if-not-suits.false c.finish_head.ensures
