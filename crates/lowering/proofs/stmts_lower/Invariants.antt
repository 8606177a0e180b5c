-- `lowering::stmts_lower` meets its contract: before a turn `first` is the fault of the first i statements, and the marks are those of their expressions and parts. Assumes nothing.
use Rattle.std.proofs.Common.{◌≡◌, ◌≤◌, [], ◌++◌, take}
use Rattle.lists.specs.Lists.{flat}
use Rattle.programs.specs.Program.{Program as Lines}
use Rattle.programs.specs.Trees.{operands}
use Rattle.programs.specs.Statements.{parts, exprs_of}
use Rattle.soundness.specs.Asked.{lower}
use Rattle.tables.specs.Decode.{stmts_of}
use Rattle.faults.specs.Faults.{row_fault}
use Rattle.faults.specs.Lines.{line_of, number_of}
use Rattle.doubling.specs.Doubling.{Seen}
use Rattle.lowering.proofs.stmts_lower.Given as goal

abbrev pub invariant-loop-i : goal.invariant-loop-i
invariant-loop-i l = (number_of l.first ≤ l.i) × ((p : Lines) → p.stmts ≡ stmts_of l.program.stmts l.program.inits → Seen l.initial.seen (flat operands p.exprs) → Seen l.initial.done [] → (l.first ≡ line_of (row_fault (lower p).stmt (take l.i p.stmts))) × Seen l.seen (flat operands p.exprs ++ flat exprs_of (take l.i p.stmts)) × Seen l.done (flat parts (take l.i p.stmts)))
