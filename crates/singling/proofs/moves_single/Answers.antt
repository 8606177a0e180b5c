-- `singling::moves_single` meets its contract: the steps and then the calls are marked in one table, the acts in another. Assumes nothing.
use Rattle.std.proofs.Common.{ℕ, List, [], ◌++◌, replicate, refl, ap, ◌∙◌}
use Rattle.std.proofs.Math.ListN.{length-replicate}
use Rattle.programs.specs.Program.{Move}
use Rattle.tables.specs.Decode.{moves_of}
use Rattle.rows.specs.Pad.{zeros_get}
use Rattle.faults.specs.Faults.{row_fault}
use Rattle.faults.specs.Lines.{line_of}
use Rattle.singling.specs.Marking.{Marked, marked_none}
use Rattle.singling.specs.Singling.{double, Doubled, single_moves}
use Rattle.singling.proofs.moves_single.Goals as goal

-- what is known after all moves
known : (l ms : List Move) (seen : List ℕ) → Marked (l ++ ms) seen → Doubled l ms (row_fault (double l ms) ms) seen
known l ms seen m = record { fault = refl; marked = m }

pub returns-clause-line : goal.returns-clause-line
returns-clause-line c =
    let q = c.args.program.now in
    let none = marked_none (replicate {A = ℕ} 4225 0) (length-replicate {A = ℕ} 4225 0) (zeros_get 0 4225) in
    let one = c.first_double-s.ensures.row [] none in
    let two = c.first_double-k.ensures.row (moves_of q.moves 0 q.steps) one.1 in
    let three = c.first_double-d.ensures.row [] none in
    λ p g w.
    c.joined-2.ensures.line _ _ one.0 (c.joined.ensures.line _ _ two.0 three.0)
    ∙ rw (c.rows_from-steps.ensures, c.rows_from-calls.ensures)
    (ap line_of (single_moves p q.moves q.steps q.calls q.acts _ _ _ _ c.row_after-behind.result _ _ _ g w (known [] (moves_of q.moves 0 q.steps) _ one.1)
    (known (moves_of q.moves 0 q.steps) (moves_of q.moves q.steps q.calls) _ two.1) c.row_after-behind.ensures (known [] (moves_of q.moves c.row_after-behind.result q.acts) _ three.1) refl))
