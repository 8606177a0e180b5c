-- `naming::exprs_refer` meets its contract: what is asked of number i is what is asked of row i. Assumes nothing.
use Rattle.std.proofs.Common.{◌≡◌, ap, ◌∙◌, sym, length, rules}
use Rattle.programs.specs.declared.Leaf.TheVariants.{Bot as bot}
use Rattle.programs.specs.declared.Expr.TheVariants.{Leaf as leaf}
use Rattle.soundness.specs.Asked.{refers}
use Rattle.tables.specs.Tables.{exprs_length}
use Rattle.faults.specs.Lines.{finds_row}
use Rattle.naming.proofs.exprs_refer.Goals as goal

pub returns-clause-row : goal.returns-clause-row
returns-clause-row c = λ p v e.
    let n : length p.exprs ≡ c.expr_count-n.result = ap length e ∙ exprs_length c.args.program.now.exprs ∙ sym c.expr_count-n.ensures in
    finds_row (refers p).expr (leaf bot) p.exprs c.first_bad.ensures n
    (λ j b low high q. rw e (search rules))
