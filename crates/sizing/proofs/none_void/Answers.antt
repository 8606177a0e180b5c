-- `sizing::none_void` meets its contract: none is found where no variable is void. Assumes nothing.
use Rattle.std.proofs.Common.{ap, ◌∙◌, sym, length, rules}
use Rattle.soundness.specs.Asked.{orderly}
use Rattle.tables.specs.Decode.{no_variable}
use Rattle.tables.specs.Tables.{variables_length}
use Rattle.faults.specs.Faults.{row_fault}
use Rattle.faults.specs.Lines.{finds_row, none_is}
use Rattle.sizing.proofs.none_void.Goals as goal

pub returns : goal.returns
returns c = λ p v.
    let q = c.args.program.now in
    none_is c.first_bad.result (row_fault orderly.variable p.variables) c.is_none.result c.is_none.ensures
    (finds_row orderly.variable no_variable p.variables c.first_bad.ensures
    (ap length v ∙ variables_length q.variable_of q.variable_type ∙ sym c.variable_count.ensures)
    (λ j b low high w. rw v (search rules)))
