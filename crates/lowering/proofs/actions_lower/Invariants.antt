-- `lowering::actions_lower` meets its contract: before a turn `first` is the fault of the first i actions, and the marks are those of their statements too. Assumes nothing.
use Rattle.std.proofs.Common.{◌≡◌, ◌≤◌, ◌++◌, map, take}
use Rattle.lists.specs.Lists.{flat}
use Rattle.programs.specs.Program.{Program as Lines}
use Rattle.programs.specs.Statements.{parts}
use Rattle.soundness.specs.Asked.{lower}
use Rattle.tables.specs.Decode.{actions_of}
use Rattle.faults.specs.Faults.{row_fault}
use Rattle.faults.specs.Lines.{line_of, number_of}
use Rattle.doubling.specs.Doubling.{Seen}
use Rattle.lowering.proofs.actions_lower.Given as goal

abbrev pub invariant-loop-i : goal.invariant-loop-i
invariant-loop-i l = (number_of l.first ≤ l.i) × ((p : Lines) → p.actions ≡ actions_of l.program.action_of l.program.action_body → Seen l.initial.done (flat parts p.stmts) → (l.first ≡ line_of (row_fault (lower p).action (take l.i p.actions))) × Seen l.done (flat parts p.stmts ++ map (λ a. a.body) (take l.i p.actions)))
