-- `marks::height_over` meets its contract: one number in it, or two, by the laws of specs/Tall.antt.
use mathlib.Core.Path.{◌∙◌}
use native.Mathlib.Omega.{arith}
use Rattle.marks.specs.Tall.{low_part, low_fits, over_one, over_two}
use Rattle.marks.proofs.height_over.Goals as goal

pub overflow_add-result : goal.overflow_add-result
overflow_add-result c =
    let a = c.args in
    omega (arith, c.item_or.ensures, low_part 1 a.heights.now a.n c.in-One.a (omega arith), low_fits a.heights.now a.n c.requires.0 c.requires.1.1 c.in-One.a)

pub overflow_add-result-in-Two : goal.overflow_add-result-in-Two
overflow_add-result-in-Two c =
    let a = c.args in
    omega (
      arith,
      c.max.ensures,
      c.item_or-in-Two.ensures,
      c.item_or-in-Two-2.ensures,
      low_part 1 a.heights.now a.n c.in-Two.a (omega arith),
      low_part 1 a.heights.now a.n c.in-Two.b (omega arith),
      low_fits a.heights.now a.n c.requires.0 c.requires.1.1 c.in-Two.a,
      low_fits a.heights.now a.n c.requires.0 c.requires.1.1 c.in-Two.b,
    )

pub returns-in-One : goal.returns-in-One
returns-in-One c =
    let a = c.args in
    over_one a.heights.now a.n c.requires.0 c.requires.1.1 a.i c.in-One.a _ c.in-One.is (c.item_or.ensures ∙ low_part 1 a.heights.now a.n c.in-One.a (omega arith))

pub returns-in-Two : goal.returns-in-Two
returns-in-Two c =
    let a = c.args in
    over_two a.heights.now a.n c.requires.0 c.requires.1.1 a.i c.in-Two.a c.in-Two.b _ c.in-Two.is
    (omega (arith, c.max.ensures, c.item_or-in-Two.ensures, c.item_or-in-Two-2.ensures, low_part 1 a.heights.now a.n c.in-Two.a (omega arith), low_part 1 a.heights.now a.n c.in-Two.b (omega arith)))
