-- `naming::variables_refer` meets its contract: what is asked of number i is what is asked of row i. Assumes nothing.
use Rattle.std.proofs.Common.{ap, ◌∙◌, sym, length, rules}
use Rattle.soundness.specs.Asked.{refers}
use Rattle.tables.specs.Decode.{no_variable}
use Rattle.tables.specs.Tables.{variables_length}
use Rattle.faults.specs.Lines.{finds_row}
use Rattle.naming.proofs.variables_refer.Goals as goal

pub returns-clause-row : goal.returns-clause-row
returns-clause-row c = λ p types m v.
    finds_row (refers p).variable no_variable p.variables c.first_bad.ensures
    (ap length v ∙ variables_length c.args.program.now.variable_of types ∙ sym c.variable_count.ensures)
    (λ j b low high q. rw (m, v) (search rules))
