-- `lowering::lower` meets its contract: the first faults of the expressions, the statements, the actions and the states, one behind the other. Assumes nothing.
use Rattle.std.proofs.Common.{ℕ, [], refl, ap, ◌∙◌, replicate}
use Rattle.std.proofs.Math.ListN.{length-replicate}
use Rattle.rows.specs.Pad.{zeros_get}
use Rattle.faults.specs.Lines.{line_of}
use Rattle.doubling.specs.Doubling.{Seen, seen_none}
use Rattle.lowering.specs.Lowering.{lower_line}
use Rattle.lowering.proofs.lower.Goals as goal

-- no marks are set at first
clean : Seen (replicate {A = ℕ} 65536 0) []
clean = seen_none (replicate {A = ℕ} 65536 0) (length-replicate {A = ℕ} 65536 0) (zeros_get 0 65536)

pub returns : goal.returns
returns c = λ p n h.
    let first = c.exprs_lower-e.ensures.row p h.same_exprs clean in
    let second = c.stmts_lower-s.ensures.row p h.same_stmts first.1 clean in
    let third = c.actions_lower-a.ensures.row p h.same_actions second.2 in
    let fourth = c.states_lower-q.ensures.row p h.flags h.same_states third.1 in
    c.onward.ensures.line _ (c.joined-all.ensures.line _ _ first.0 (c.joined-2.ensures.line _ _ second.0 (c.joined.ensures.line _ _ third.0 fourth.0)))
    ∙ ap line_of (lower_line p n refl refl refl refl refl)
