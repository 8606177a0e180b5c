-- `marks::mark_bodies` meets its contract: before a turn the bodies of the actions behind a are marked.
use mathlib.Core.Path.{◌≡◌}
use Prim.Native.Nat.{◌+◌, ◌-◌}
use Rattle.rows.specs.Seek.{table}
use Rattle.tables.specs.Decode.{action_in}
use Rattle.marks.specs.Kinds.{marked_bodies}
use Rattle.marks.proofs.mark_bodies.Given as goal

abbrev pub invariant-loop-a : goal.invariant-loop-a
invariant-loop-a l = l.marks ≡ marked_bodies l.n (table (action_in l.program.action_of l.program.action_body) (1 + l.a) (l.initial.a - l.a)) l.initial.marks
