-- `terms::expr_at` meets its contract: the expression is that of row e, and `bot` where there is no such row.
use Rattle.std.proofs.Common.{sym, ◌∙◌}
use Rattle.programs.specs.declared.Leaf.TheVariants.{Bot as bot}
use Rattle.programs.specs.declared.Expr.TheVariants.{Leaf as leaf}
use Rattle.tables.specs.Decode.{expr_in, exprs_of}
use Rattle.tables.specs.Numbered.{at_there, at_absent}
use Rattle.terms.proofs.expr_at.Goals as goal

pub returns-then-there : goal.returns-then-there
unfolding exprs_of
returns-then-there c =
    let a = c.args in
    let row = at_there (expr_in a.exprs.now) (leaf bot) a.e c.expr_count.ensures (sym c.there.ensures ∙ c.if-there.true) in
    cc

pub returns-else-there : goal.returns-else-there
unfolding exprs_of
returns-else-there c =
    let a = c.args in
    sym (at_absent (expr_in a.exprs.now) (leaf bot) a.e c.expr_count.ensures (sym c.there.ensures ∙ c.if-there.false))
