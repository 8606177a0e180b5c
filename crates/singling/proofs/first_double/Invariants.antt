-- `singling::first_double` meets its contract: before a turn the first i moves are marked, and the first of them that doubles one is known. Assumes nothing.
use Rattle.std.proofs.Common.{◌≡◌, ◌≤◌, List, ◌++◌, take}
use Rattle.programs.specs.Program.{Move}
use Rattle.tables.specs.Decode.{moves_of}
use Rattle.faults.specs.Faults.{row_fault}
use Rattle.faults.specs.Lines.{line_of, number_of}
use Rattle.singling.specs.Marking.{Marked}
use Rattle.singling.specs.Singling.{double}
use Rattle.singling.proofs.first_double.Given as goal

abbrev pub invariant-loop-i : goal.invariant-loop-i
invariant-loop-i l = (number_of l.first ≤ l.i) × ((k : List Move) → Marked k l.initial.seen → (l.first ≡ line_of (row_fault (double k (moves_of l.program.moves l.a l.n)) (take l.i (moves_of l.program.moves l.a l.n)))) × Marked (k ++ take l.i (moves_of l.program.moves l.a l.n)) l.seen)
