-- `raising::raise_on` meets its contract: refused where the payload does not suit, else raised.
use Rattle.statements.specs.Heading.{placing_alone}
use Rattle.statements.specs.Conditions.{asked_readable}
use Rattle.raising.specs.Raising.{placing, raise_tables, raise_event, raise_asked, raise_refused, raise_left}
use native.Mathlib.Omega.{arith}
use Rattle.raising.proofs.raise_on.Goals as goal

pub number-v-requires : goal.number-v-requires
number-v-requires c = (asked_readable c.requires.test, c.requires.test.bits)

pub returns-then-not-suits : goal.returns-then-not-suits
returns-then-not-suits c = λ a. raise_refused a _ c.number-v.ensures _ (rw c.from.ensures at c.event_type-t.ensures) _ c.value_of.ensures _ c.suits.ensures c.if-not-suits.true

pub exit_or_skip-s-requires : goal.exit_or_skip-s-requires
exit_or_skip-s-requires c = rw c.from-2.ensures (raise_asked c.requires)

pub overflow_add-at : goal.overflow_add-at
overflow_add-at c = omega (arith, c.requires.test.row.heading.stands.room)

pub overflow_mul-at : goal.overflow_mul-at
overflow_mul-at c = omega (arith, c.requires.test.row.heading.stands.room)

pub overflow_add-values : goal.overflow_add-values
overflow_add-values c = omega (arith, c.requires.test.row.heading.stands.room)

pub offset_bounds-values-at : goal.offset_bounds-values-at
offset_bounds-values-at c = omega (arith, c.requires.test.row.heading.stands.room)

pub bounds-values-at : goal.bounds-values-at
bounds-values-at c = omega (arith, c.requires.test.row.heading.stands.room)

pub overflow_add-values-2 : goal.overflow_add-values-2
overflow_add-values-2 c = omega (arith, c.requires.test.row.heading.stands.room)

pub offset_bounds-values-at-2 : goal.offset_bounds-values-at-2
offset_bounds-values-at-2 c = omega (arith, c.requires.test.row.heading.stands.room)

pub bounds-values-at-2 : goal.bounds-values-at-2
bounds-values-at-2 c = omega (arith, c.requires.test.row.heading.stands.room)

pub offset_bounds-held-k : goal.offset_bounds-held-k
offset_bounds-held-k c = omega (arith, c.requires.test.row.heading.stands.room)

pub bounds-held-k : goal.bounds-held-k
bounds-held-k c = omega (arith, c.requires.test.row.heading.stands.room)

pub only-requires : goal.only-requires
only-requires c = placing_alone (placing c.requires) c.exit_or_skip-s.result

pub returns : goal.returns
returns c = λ a.
    raise_left a _ c.number-v.ensures _ (rw c.from.ensures at c.event_type-t.ensures) _ c.value_of.ensures _ c.suits.ensures _ _ _
    (rw c.from-2.ensures at (c.exit_or_skip-s.ensures a.test.row.p a.entries a.flags (raise_tables a) (rw c.from-2.ensures (raise_event a).1)))
    c.code.ensures (omega (arith, c.pair_number.ensures, c.number-v.ensures)) c.if-not-suits.false c.only.ensures
