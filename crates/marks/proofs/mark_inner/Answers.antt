-- `marks::mark_inner` meets its contract: nothing, one or two numbers are marked.
use mathlib.Core.Path.{ap}
use Rattle.marks.specs.Inner.{listed}
use Rattle.marks.specs.Flow.{marks_none, marks_one, marks_two}
use Rattle.marks.proofs.mark_inner.Goals as goal

pub returns-in-Nothing : goal.returns-in-Nothing
returns-in-Nothing c = let a = c.args in marks_none a.b a.n (listed a.i) _ (ap listed c.in-Nothing.is)

pub returns-in-One : goal.returns-in-One
returns-in-One c =
    let a = c.args in
    marks_one a.b a.n (listed a.i) _ _ _ (ap listed c.in-One.is) c.mark_low.ensures

pub returns-in-Two : goal.returns-in-Two
returns-in-Two c =
    let a = c.args in
    marks_two a.b a.n (listed a.i) _ _ _ _ _ (ap listed c.in-Two.is) c.mark_low-in-Two.ensures c.mark_low-in-Two-2.ensures
