-- `parts::finish` meets its contract: the head's place is zero, and a lone skip with nothing pending is no part.
use Prim.Native.Nat.{◌-◌}
use native.Mathlib.Omega.{arith}
use Rattle.parts.specs.Parts.{finish_gone, finish_pending, finish_many}
use Rattle.parts.proofs.finish.Goals.{else-n-eq1-via-then-n-eq1+else-not-pending, else-n-eq1-via-else-n-eq1}
use Rattle.parts.proofs.finish.Goals as goal

pub returns-then-not-pending : goal.returns-then-not-pending
returns-then-not-pending c =
    let a = c.args in
    finish_gone a.b a.n (a.n - 1) a.parts.now c.requires.0 (omega arith) a.pending c.if-n-eq1.true c.if-not-pending.true

pub returns-else-n-eq1 : goal.returns-else-n-eq1
returns-else-n-eq1 c =
    let a = c.args in
    elim c.else-n-eq1.branch [
      | else-n-eq1-via-then-n-eq1+else-not-pending w ↦ finish_pending a.b a.n (a.n - 1) a.parts.now c.requires.0 (omega arith) a.pending w.if-not-pending.false
      | else-n-eq1-via-else-n-eq1 w ↦ finish_many a.b a.n (a.n - 1) a.parts.now c.requires.0 (omega arith) a.pending w.if-n-eq1.false
    ]
