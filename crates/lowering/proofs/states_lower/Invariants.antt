-- `lowering::states_lower` meets its contract: before a turn `first` is the fault of the first i states, and the marks are those of their entries and exits too. Assumes nothing.
use Rattle.std.proofs.Common.{◌≡◌, ℕ, ◌≤◌, List, ◌++◌, map, take}
use Rattle.lists.specs.Lists.{flat}
use Rattle.programs.specs.Program.{Program as Lines}
use Rattle.programs.specs.Statements.{parts}
use Rattle.soundness.specs.Asked.{bodies, lower}
use Rattle.tables.specs.Decode.{states_of}
use Rattle.faults.specs.Faults.{row_fault}
use Rattle.faults.specs.Lines.{line_of, number_of}
use Rattle.doubling.specs.Doubling.{Seen}
use Rattle.lowering.proofs.states_lower.Given as goal

abbrev pub invariant-loop-i : goal.invariant-loop-i
invariant-loop-i l = (number_of l.first ≤ l.i) × ((p : Lines) (flags : List ℕ) → p.states ≡ states_of l.program.state_of l.program.state_entry l.program.state_exit flags → Seen l.initial.done (flat parts p.stmts ++ map (λ a. a.body) p.actions) → (l.first ≡ line_of (row_fault (lower p).state (take l.i p.states))) × Seen l.done (flat parts p.stmts ++ (map (λ a. a.body) p.actions ++ flat (bodies p) (take l.i p.states))))
