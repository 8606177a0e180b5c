-- `lowering::exprs_lower` meets its contract: before a turn `first` is the fault of the first i expressions, and the marks are those of their operands. Assumes nothing.
use Rattle.std.proofs.Common.{◌≡◌, ◌≤◌, [], take}
use Rattle.lists.specs.Lists.{flat}
use Rattle.programs.specs.Program.{Program as Lines}
use Rattle.programs.specs.Trees.{operands}
use Rattle.soundness.specs.Asked.{lower}
use Rattle.tables.specs.Decode.{exprs_of}
use Rattle.faults.specs.Faults.{row_fault}
use Rattle.faults.specs.Lines.{line_of, number_of}
use Rattle.doubling.specs.Doubling.{Seen}
use Rattle.lowering.proofs.exprs_lower.Given as goal

abbrev pub invariant-loop-i : goal.invariant-loop-i
invariant-loop-i l = (number_of l.first ≤ l.i) × ((p : Lines) → p.exprs ≡ exprs_of l.program.exprs → Seen l.initial.seen [] → (l.first ≡ line_of (row_fault (lower p).expr (take l.i p.exprs))) × Seen l.seen (flat operands (take l.i p.exprs)))
