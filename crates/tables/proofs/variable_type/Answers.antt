-- `tables::variable_type` meets its contract: the type stands in row x of the types, and the count in the kinds.
use Rattle.std.proofs.Common.{refl, ◌∙◌}
use Rattle.programs.specs.Program.{Variable}
use Rattle.tables.specs.Decode.{ty_of, no_variable, variable_in, variables_of}
use Rattle.tables.proofs.Column.{of_row}
use Rattle.tables.proofs.variable_type.Goals as goal

pub returns : goal.returns
unfolding variables_of ty_of
returns c =
    let a = c.args in
    c.ty_of.ensures ∙ of_row (λ (q : Variable). q.type) ty_of (variable_in a.kinds.now a.types.now) no_variable a.types.now a.x c.variable_count.ensures refl refl c.row_or.ensures
