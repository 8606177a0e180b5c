-- `quietness::quiet` meets its contract: the first fault of the states, by the law of specs/Quiet.antt.
use Rattle.std.proofs.Common.{refl, ap, ◌∙◌, rules}
use Rattle.faults.specs.Lines.{line_of, finds_first}
use Rattle.quietness.specs.Quiet.{quiet_exit, quiet_line}
use Rattle.quietness.proofs.quiet.Goals as goal

pub returns : goal.returns
returns c p told =
    let q = c.args.program.now in
    let rows = c.count_rows-c.ensures.rows in
    c.onward.ensures.line _ (finds_first (quiet_exit c.loud-marks.result q.state_exit) c.first_bad-q.ensures (λ j b low high k. search rules))
    ∙ ap line_of (quiet_line q.event_types q.kinds q.variable_of q.exprs q.stmts q.action_of q.state_of q.state_exit c.loud-marks.result p told c.loud-marks.ensures
    _ _ _ _ _ _ _ c.front.ensures.0 rows.exprs rows.stmts rows.actions rows.states refl refl)
