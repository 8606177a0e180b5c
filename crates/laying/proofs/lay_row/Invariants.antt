-- `laying::lay_row` meets its contract: before turn e the first e elements stand at the row's place.
use Rattle.std.proofs.Common.{◌*◌}
use Rattle.rows.specs.Fill.{Filling}
use Rattle.laying.proofs.lay_row.Given as goal

abbrev pub invariant-loop-e : goal.invariant-loop-e
invariant-loop-e g l = Filling l.fn.from (l.fn.i * g.row.W) g.row.W l.fn.to l.to l.e
