-- `referring::refers` meets its contract: the first faults of all tables, one behind the other. Assumes nothing.
use Rattle.std.proofs.Common.{refl, ap, ◌∙◌}
use Rattle.soundness.specs.Asked.{refers}
use Rattle.faults.specs.Read.{counted, states_fault_is, fault_is}
use Rattle.faults.specs.Lines.{line_of}
use Rattle.referring.proofs.refers.Goals as goal

pub returns : goal.returns
returns c = λ p h g start.
    let n = counted h c.count_rows-c.ensures.rows in
    c.onward.ensures.line _ (c.joined-all.ensures.line _ _ (c.variables_refer-v.ensures.row p c.args.program.now.variable_type h.machine h.variable)
    (c.joined-3.ensures.line _ _ (c.exprs_refer-e.ensures.row p n.variables h.expr)
    (c.joined-2.ensures.line _ _ (c.stmts_refer-s.ensures.row p n h.variable h.stmt)
    (c.joined-rest.ensures.line _ _ (c.actions_refer-a.ensures.row p n h)
    (c.joined.ensures.line _ _ (c.states_refer-q.ensures.row p n h) (c.moves_fault-m.ensures.line p n h g start))))))
    ∙ ap line_of (fault_is p (refers p) n refl refl refl (states_fault_is p (refers p) n refl refl refl refl) refl)
