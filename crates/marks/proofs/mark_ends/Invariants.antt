-- `marks::mark_ends` meets its contract: before a turn the entries and exits of the states behind q are marked.
use mathlib.Core.Path.{◌≡◌}
use mathlib.Core.List.{List}
use Prim.Native.Nat.{ℕ, ◌+◌, ◌-◌}
use Rattle.rows.specs.Seek.{table}
use Rattle.tables.specs.Decode.{state_in}
use Rattle.marks.specs.Kinds.{marked_ends}
use Rattle.marks.proofs.mark_ends.Given as goal

abbrev pub invariant-loop-q : goal.invariant-loop-q
invariant-loop-q l = (flags : List ℕ) → l.marks ≡ marked_ends l.n (table (state_in l.program.state_of l.program.state_entry l.program.state_exit flags) (1 + l.q) (l.initial.q - l.q)) l.initial.marks
