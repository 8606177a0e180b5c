-- `index::store_move` meets its contract: what it stores is `stored`, by the cases of specs/Saying.antt. Assumes nothing.
use mathlib.Core.Path.{sym}
use native.Mathlib.Omega.{arith}
use Rattle.index.specs.Saying.{stored_in, stored_high, stored_past}
use Rattle.index.proofs.store_move.Goals.{else-n-le-STATES-via-then-n-le-STATES+else-e-le-EVENTS, else-n-le-STATES-via-else-n-le-STATES}
use Rattle.index.proofs.store_move.Goals as goal

pub returns-then-e-le-EVENTS : goal.returns-then-e-le-EVENTS
returns-then-e-le-EVENTS c =
    rw (c.place.ensures, c.from-n.ensures, c.from-e.ensures)
    (sym (stored_in _ _ _ (omega (arith, c.from-n.ensures)) (omega (arith, c.from-e.ensures))))

pub returns-else-n-le-STATES : goal.returns-else-n-le-STATES
returns-else-n-le-STATES c = elim c.else-n-le-STATES.branch [
  | else-n-le-STATES-via-then-n-le-STATES+else-e-le-EVENTS w ↦ sym (stored_past _ _ _ (omega (arith, c.from-n.ensures)) (omega (arith, c.from-e.ensures)))
  | else-n-le-STATES-via-else-n-le-STATES w ↦ sym (stored_high _ _ _ (omega (arith, c.from-n.ensures)))
]
