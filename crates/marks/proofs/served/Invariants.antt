-- `marks::served` meets its contract: the first marks, and then the rows of the kinds, one after the other.
use mathlib.Core.Path.{◌≡◌}
use Prim.Native.Nat.{◌-◌, ◌≤◌}
use Rattle.marks.specs.Inner.{parts_in}
use Rattle.marks.specs.Kinds.{flowed_rows}
use Rattle.marks.proofs.served.Given as goal

abbrev pub invariant-loop-k : goal.invariant-loop-k
invariant-loop-k l = (l.n ≤ 1024) × (l.marks ≡ flowed_rows (parts_in l.program.stmts) l.n (l.k - 1) l.initial.marks)
