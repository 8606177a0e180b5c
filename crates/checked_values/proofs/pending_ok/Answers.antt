-- `checked_values::pending_ok` meets its contract: 0 and 1 are nothing and a return, any other number a raise's. Assumes nothing.
use Rattle.std.proofs.Common.{le-leb}
use Rattle.lists.specs.Tells.{granted}
use Rattle.checked_values.specs.Tests.{small_held, raise_told}
use native.Mathlib.Omega.{arith}
use Rattle.checked_values.proofs.pending_ok.Goals as goal

pub returns-then-x-le1 : goal.returns-then-x-le1
returns-then-x-le1 c = λ p q. rw (le-leb c.args.x 1 c.if-x-le1.true) (granted (small_held p c.args.next c.args.x (omega (arith, c.if-x-le1.true))))

pub returns-else-x-le1 : goal.returns-else-x-le1
returns-else-x-le1 c = λ p q. raise_told p c.args.next c.args.x c.pair_ok.result c.if-x-le1.false (c.pair_ok.ensures p q)
