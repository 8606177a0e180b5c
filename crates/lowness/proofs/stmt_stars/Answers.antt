-- `lowness::stmt_stars` meets its contract: each arm counts the stars of its expressions.
use mathlib.Core.Path.{ap}
use Rattle.programs.specs.Statements.{exprs_of}
use Rattle.tables.specs.Decode.{stmt_of}
use Rattle.lowness.specs.Stars.{counted, stars_none, stars_one, stars_two, stars_told}
use Rattle.marks.proofs.Arms.{no_exprs, one_expr}
use Rattle.lowness.proofs.stmt_stars.Goals as goal

pub returns-in-Assign : goal.returns-in-Assign
returns-in-Assign c =
    let a = c.args in
    stars_one a.counts.now c.requires (exprs_of (stmt_of a.inits.now a.h)) _ _ (one_expr a.inits.now a.h _ c.in-Assign.is) c.stars_at-in-Assign.ensures.0

pub returns-in-New : goal.returns-in-New
returns-in-New c =
    let a = c.args in
    stars_told a.counts.now a.inits.now a.h _ _ c.in-New.is c.init_stars.ensures

pub returns-in-Send : goal.returns-in-Send
returns-in-Send c =
    let a = c.args in
    stars_two a.counts.now c.requires (exprs_of (stmt_of a.inits.now a.h)) _ _ _ _ _ (ap (λ h. exprs_of (stmt_of a.inits.now h)) c.in-Send.is) c.stars_at.ensures.0 c.stars_at-in-Send.ensures.0 c.add_few.ensures

pub returns-in_default : goal.returns-in_default
returns-in_default c =
    let a = c.args in
    stars_none (counted a.counts.now) (exprs_of (stmt_of a.inits.now a.h)) (no_exprs a.inits.now a.h c.in_default.not-Assign c.in_default.not-New c.in_default.not-Send c.in_default.not-Raise c.in_default.not-Assert c.in_default.not-If c.in_default.not-While)
