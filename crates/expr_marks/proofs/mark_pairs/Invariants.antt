-- `expr_marks::mark_pairs` meets its contract: the pairs that are left give what all pairs give.
use mathlib.Core.Path.{◌≡◌}
use Prim.Native.Nat.{◌+◌, ◌-◌, ◌≤◌}
use Rattle.marks.specs.Flow.{mark_all}
use Rattle.expr_marks.specs.Naming.{pair_names}
use Rattle.expr_marks.proofs.mark_pairs.Given as goal

abbrev pub invariant-loop-j : goal.invariant-loop-j
invariant-loop-j l =
    (l.j-end ≤ 15000 - l.a) × (mark_all l.b l.n (pair_names l.inits (l.a + l.j) (l.j-end - l.j)) l.marks ≡ mark_all l.b l.n (pair_names l.inits l.a l.j-end) l.initial.marks)
