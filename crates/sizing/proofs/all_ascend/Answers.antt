-- `sizing::all_ascend` meets its contract: none is found where every init list is ascending. Assumes nothing.
use Rattle.std.proofs.Common.{ap, ◌∙◌, sym, length, rules}
use Rattle.programs.specs.Program.{skip}
use Rattle.soundness.specs.Asked.{orderly}
use Rattle.tables.specs.Tables.{stmt_head, stmts_length}
use Rattle.faults.specs.Faults.{row_fault}
use Rattle.faults.specs.Lines.{finds_row, none_is}
use Rattle.sizing.proofs.all_ascend.Goals as goal

pub returns : goal.returns
returns c = λ p e.
    let q = c.args.program.now in
    none_is c.first_bad.result (row_fault orderly.stmt p.stmts) c.is_none.result c.is_none.ensures
    (finds_row orderly.stmt skip p.stmts c.first_bad.ensures
    (ap length e ∙ stmts_length q.stmts q.inits ∙ sym c.stmt_count.ensures)
    (λ j b low high w. rw (e, stmt_head q.stmts q.inits j) (search rules)))
