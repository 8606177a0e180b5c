-- `expr_marks::mark_roots` meets its contract: before a turn what the statements behind s name is marked.
use mathlib.Core.Path.{◌≡◌}
use Prim.Native.Nat.{◌+◌, ◌-◌}
use Rattle.rows.specs.Seek.{table}
use Rattle.expr_marks.specs.Naming.{rooted}
use Rattle.expr_marks.proofs.mark_roots.Given as goal

abbrev pub invariant-loop-s : goal.invariant-loop-s
invariant-loop-s l = l.marks ≡ rooted l.program.stmts l.program.inits l.served l.x l.b (table (λ s. s) (1 + l.s) (l.n - l.s)) l.initial.marks
