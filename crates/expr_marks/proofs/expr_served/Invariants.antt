-- `expr_marks::expr_served` meets its contract: the rows of the kinds, one after the other.
use mathlib.Core.Path.{◌≡◌}
use Prim.Native.Nat.{◌-◌, ◌≤◌}
use Rattle.expr_marks.specs.Naming.{rows_of}
use Rattle.expr_marks.proofs.expr_served.Given as goal

abbrev pub invariant-loop-k : goal.invariant-loop-k
invariant-loop-k l = (l.x ≤ 1024) × (l.n ≤ 1024) × (l.marks ≡ rows_of l.program.exprs l.program.stmts l.program.inits l.served l.x l.n (l.k - 1) l.initial.marks)
