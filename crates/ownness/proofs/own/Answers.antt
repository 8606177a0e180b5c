-- `ownness::own` meets its contract: the first fault of the expressions, or else of the statements, by the law of specs/Own.antt.
use Rattle.std.proofs.Common.{refl, ap, ◌∙◌, rules}
use Rattle.faults.specs.Lines.{line_of, finds_first}
use Rattle.ownness.specs.Own.{own_expr, own_stmt, own_line}
use Rattle.ownness.proofs.own.Goals as goal

pub returns : goal.returns
returns c p told h =
    let q = c.args.program.now in
    let served = c.args.served.now in
    let marks = c.expr_served-marks.result in
    let rows = c.count_rows-c.ensures.rows in
    c.onward.ensures.line _ (c.joined.ensures.line _ _ (finds_first (own_expr marks q.kinds q.variable_of q.exprs) c.first_bad-e.ensures (λ j b low high k. search rules))
    (finds_first (own_stmt served q.kinds q.variable_of q.stmts q.inits) c.first_bad-s.ensures (λ j b low high k. search rules)))
    ∙ ap line_of (own_line q.event_types q.kinds q.variable_of q.exprs q.stmts q.inits served marks p told c.requires h (c.expr_served-marks.ensures p told.same_exprs told.same_stmts h)
    _ _ _ _ _ _ c.front.ensures.0 rows.exprs rows.stmts refl refl refl)
