-- `referring::actions_refer` meets its contract: what is asked of number i is what is asked of row i. Assumes nothing.
use Rattle.std.proofs.Common.{ap, ◌∙◌, sym, length, rules}
use Rattle.soundness.specs.Asked.{refers}
use Rattle.tables.specs.Decode.{no_action}
use Rattle.tables.specs.Tables.{actions_length}
use Rattle.faults.specs.Lines.{finds_row}
use Rattle.referring.proofs.actions_refer.Goals as goal

pub returns-clause-row : goal.returns-clause-row
returns-clause-row c = λ p n h.
    let q = c.args.program.now in
    finds_row (refers p).action no_action p.actions c.first_bad.ensures
    (ap length h.action ∙ actions_length q.action_of q.action_body ∙ sym c.action_count.ensures)
    (λ j b low high w. rw (n.machines, n.stmts, h.action) (search rules))
