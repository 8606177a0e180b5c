-- `naming::stmts_refer` meets its contract: what is asked of number i is what is asked of row i. Assumes nothing.
use Rattle.std.proofs.Common.{ap, ◌∙◌, sym, length, rules}
use Rattle.programs.specs.Program.{skip}
use Rattle.soundness.specs.Asked.{refers}
use Rattle.tables.specs.Tables.{stmt_head, stmts_length}
use Rattle.faults.specs.Lines.{finds_row}
use Rattle.naming.proofs.stmts_refer.Goals as goal

pub returns-clause-row : goal.returns-clause-row
returns-clause-row c = λ p n v e.
    let q = c.args.program.now in
    finds_row (refers p).stmt skip p.stmts c.first_bad.ensures
    (ap length e ∙ stmts_length q.stmts q.inits ∙ sym c.stmt_count.ensures)
    (λ j b low high h. rw (e, stmt_head q.stmts q.inits j) (search rules))
