-- `referring::states_refer` meets its contract: what is asked of number i is what is asked of row i. Assumes nothing.
use Rattle.std.proofs.Common.{ap, ◌∙◌, sym, length, rules}
use Rattle.soundness.specs.Asked.{refers}
use Rattle.tables.specs.Decode.{no_state}
use Rattle.tables.specs.Tables.{states_length}
use Rattle.faults.specs.Lines.{finds_row}
use Rattle.referring.proofs.states_refer.Goals as goal

pub returns-clause-row : goal.returns-clause-row
returns-clause-row c = λ p n h.
    let q = c.args.program.now in
    finds_row (refers p).state no_state p.states c.first_bad.ensures
    (ap length h.state ∙ states_length q.state_of q.state_entry q.state_exit q.defers ∙ sym c.state_count.ensures)
    (λ j b low high w. search rules)
