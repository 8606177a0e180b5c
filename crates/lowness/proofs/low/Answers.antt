-- `lowness::low` meets its contract: the first fault of the expressions, or else of the statements, by the law of specs/Low.antt.
use Rattle.std.proofs.Common.{refl, ap, ◌∙◌, rules}
use Rattle.faults.specs.Lines.{line_of, finds_first}
use Rattle.lowness.specs.Low.{low_expr, low_stmt, low_line}
use Rattle.lowness.proofs.low.Goals as goal

pub returns : goal.returns
returns c p told h =
    let q = c.args.program.now in
    let heights = c.args.heights.now in
    let tall = c.expr_heights-tall.result in
    let counts = c.expr_stars-counts.result in
    let rows = c.count_rows-c.ensures.rows in
    c.onward.ensures.line _ (c.joined.ensures.line _ _ (finds_first (low_expr tall) c.first_bad-e.ensures (λ j b low high k. search rules))
    (finds_first (low_stmt heights counts q.stmts q.inits) c.first_bad-s.ensures (λ j b low high k. search rules)))
    ∙ ap line_of (low_line q.event_types q.kinds q.variable_of q.exprs q.stmts q.inits heights tall counts p told h (c.expr_heights-tall.ensures p told.same_exprs) (c.expr_stars-counts.ensures.1 p told.same_exprs)
    _ _ _ _ _ _ c.front.ensures.0 rows.exprs rows.stmts refl refl refl)
