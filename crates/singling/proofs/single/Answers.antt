-- `singling::single` meets its contract: the line of the first faulty move, behind the lines of which nothing is asked. Assumes nothing.
use Rattle.std.proofs.Common.{refl, ap, ◌∙◌, arith}
use Rattle.faults.specs.Read.{counted}
use Rattle.faults.specs.Lines.{line_of}
use Rattle.singling.specs.Singling.{low_moves, single_is}
use Rattle.singling.proofs.single.Goals as goal

pub returns : goal.returns
returns c p types inits bodies entries exits flags t g h =
    let n = c.count_rows-c in
    let q = counted t n.ensures.rows in
    c.onward.ensures.line _ (c.moves_single-m.ensures.line p g (low_moves p (omega (arith, q.states, n.ensures.rows.states)) (omega (arith, q.events, n.ensures.rows.events)) h))
    ∙ ap line_of (single_is p n.result _ _ q refl refl)
