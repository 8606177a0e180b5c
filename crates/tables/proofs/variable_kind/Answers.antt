-- `tables::variable_kind` meets its contract, whatever the types are: the kind stands in row x.
use Rattle.std.proofs.Common.{refl, ◌∙◌}
use Rattle.programs.specs.Program.{Variable}
use Rattle.tables.specs.Decode.{byte, no_variable, variable_in, variables_of}
use Rattle.tables.proofs.Column.{of_row}
use Rattle.tables.proofs.variable_kind.Goals as goal

pub returns : goal.returns
unfolding variables_of
returns c types =
    let a = c.args in
    c.byte.ensures ∙ of_row (λ (q : Variable). q.of) byte (variable_in a.kinds.now types) no_variable a.kinds.now a.x c.variable_count.ensures refl refl c.row_or.ensures
