-- `taking_exprs::put_plain` meets its contract. Assumes nothing.
use mathlib.Core.Path.{◌∙◌}
use Rattle.putting.specs.More.{expr_put}
use Rattle.taking_exprs.proofs.put_plain.Goals as goal

pub returns : goal.returns
returns c h e q = c.put_expr.ensures ∙ expr_put h e (rw (c.from.ensures, c.operand-x.ensures, c.from-2.ensures, c.operand-y.ensures) q)
