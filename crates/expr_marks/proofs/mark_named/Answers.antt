-- `expr_marks::mark_named` meets its contract: each arm marks the expressions that it names.
use mathlib.Core.Path.{ap}
use Rattle.programs.specs.Statements.{exprs_of}
use Rattle.tables.specs.Decode.{stmt_of}
use Rattle.marks.proofs.Arms.{no_exprs, one_expr}
use Rattle.marks.specs.Flow.{marks_none, marks_one, marks_two}
use Rattle.expr_marks.proofs.mark_named.Goals as goal

pub returns-in-Assign : goal.returns-in-Assign
returns-in-Assign c =
    let a = c.args in
    marks_one a.b a.n (exprs_of (stmt_of a.inits.now a.h)) _ _ _ (one_expr a.inits.now a.h _ c.in-Assign.is) c.mark_low-in-Assign.ensures

pub returns-in-Send : goal.returns-in-Send
returns-in-Send c =
    let a = c.args in
    marks_two a.b a.n (exprs_of (stmt_of a.inits.now a.h)) _ _ _ _ _ (ap (λ h. exprs_of (stmt_of a.inits.now h)) c.in-Send.is) c.mark_low.ensures c.mark_low-in-Send.ensures

pub returns-in_default : goal.returns-in_default
returns-in_default c =
    let a = c.args in
    marks_none a.b a.n (exprs_of (stmt_of a.inits.now a.h)) _ (no_exprs a.inits.now a.h c.in_default.not-Assign c.in_default.not-New c.in_default.not-Send c.in_default.not-Raise c.in_default.not-Assert c.in_default.not-If c.in_default.not-While)
