-- `lowering::actions_lower` meets its contract: before a turn `first` is the fault of the first i actions, and the marks are those of their statements too. Assumes nothing.
use Rattle.std.proofs.Common.{◌≡◌, ◌+◌, List, length, refl, ap, sym, ◌∙◌, append-nil, take_all, arith}
use Rattle.lists.specs.Lists.{at, flat}
use Rattle.programs.specs.Program.{Action}
use Rattle.programs.specs.Statements.{parts}
use Rattle.soundness.specs.Asked.{lower}
use Rattle.tables.specs.Decode.{no_action}
use Rattle.tables.specs.Tables.{actions_length}
use Rattle.faults.specs.Faults.{rows_all}
use Rattle.faults.specs.Lines.{line_of}
use Rattle.lowering.specs.Turns.{action_turn}
use Rattle.lowering.proofs.actions_lower.Goals as goal

pub loop-i-init : goal.loop-i-init
loop-i-init c = (omega arith, λ p e s. (refl, rw (append-nil (flat parts p.stmts)) s))

pub loop-i-preserved : goal.loop-i-preserved
loop-i-preserved c =
    let l = c.loop-i in
    let q = c.args.program.now in (
      omega (arith, c.joined-first.ensures.next, c.fault.ensures.bound),
      λ p e t.
          let inv = l.invariant.1 p e t in
          let turn = action_turn p l.i c.body_of-s.result (ap (λ (k : List Action). (at no_action k (l.i + 1)).body) e ∙ sym c.body_of-s.ensures)
          (omega (arith, ap length e, actions_length q.action_of q.action_body, c.action_count-i-end.ensures))
          c.name-again.ensures refl refl refl inv.1 in
          (c.joined-first.ensures.line _ _ inv.0 c.fault.ensures.line ∙ ap line_of turn.0, turn.1),
    )

pub returns-clause-row : goal.returns-clause-row
returns-clause-row c =
    let l = c.loop-i in
    let q = c.args.program.now in
    λ p e t.
    let inv = l.invariant.1 p e t in
    let n : l.i ≡ length p.actions = omega (arith, ap length e, actions_length q.action_of q.action_body, c.action_count-i-end.ensures) in
    (inv.0 ∙ ap line_of (rows_all (lower p).action p.actions l.i n), rw (take_all l.i p.actions (omega arith)) at inv.1)
