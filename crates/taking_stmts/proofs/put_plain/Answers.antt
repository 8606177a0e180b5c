-- `taking_stmts::put_plain` meets its contract. Assumes nothing.
use mathlib.Core.Path.{◌∙◌}
use Rattle.putting.specs.More.{stmt_put}
use Rattle.taking_stmts.proofs.put_plain.Goals as goal

pub returns : goal.returns
returns c h t q =
    c.put_stmt.ensures ∙ stmt_put h t (rw (c.operand-x.ensures, c.operand-y.ensures, c.operand-z.ensures) (q _))
