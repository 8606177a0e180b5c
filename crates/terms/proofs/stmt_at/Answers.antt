-- `terms::stmt_at` meets its contract: the statement is that of row s, and `skip` where there is no such row.
use Rattle.std.proofs.Common.{sym, ◌∙◌}
use Rattle.tables.specs.declared.Head.TheVariants.{Skip}
use Rattle.tables.specs.Decode.{head_in, heads_of}
use Rattle.tables.specs.Numbered.{at_there, at_absent}
use Rattle.terms.proofs.stmt_at.Goals as goal

pub returns-then-there : goal.returns-then-there
unfolding heads_of
returns-then-there c =
    let a = c.args in
    let row = at_there (head_in a.stmts.now) Skip a.s c.stmt_count.ensures (sym c.there.ensures ∙ c.if-there.true) in
    cc

pub returns-else-there : goal.returns-else-there
unfolding heads_of
returns-else-there c =
    let a = c.args in
    sym (at_absent (head_in a.stmts.now) Skip a.s c.stmt_count.ensures (sym c.there.ensures ∙ c.if-there.false))
