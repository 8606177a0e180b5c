-- `statements::leave_on` meets its contract: no part is left, and nothing is pending.
use Rattle.statements.specs.Heading.{asked_standing}
use Rattle.statements.specs.Left.{leave_left}
use native.Mathlib.Omega.{arith}
use Rattle.statements.proofs.leave_on.Goals as goal

pub clear_row-requires : goal.clear_row-requires
clear_row-requires c = asked_standing c.requires

pub offset_bounds-held-k : goal.offset_bounds-held-k
offset_bounds-held-k c = omega (arith, c.requires.heading.stands.room)

pub bounds-held-k : goal.bounds-held-k
bounds-held-k c = omega (arith, c.requires.heading.stands.room)

pub returns : goal.returns
returns c = λ a w. leave_left a w c.clear_row.ensures
