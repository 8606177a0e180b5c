-- `lowering::stmts_lower` meets its contract: before a turn `first` is the fault of the first i statements, and the marks are those of their expressions and parts. Assumes nothing.
use Rattle.std.proofs.Common.{◌≡◌, ℕ, ◌+◌, Bool, not, cond, ◌&&◌, ◌||◌, List, length, take, refl, ap, sym, ◌∙◌, append-nil, take_all, arith}
use Rattle.lists.specs.Lists.{at, flat}
use Rattle.programs.specs.Program.{Stmt, skip}
use Rattle.programs.specs.Trees.{operands}
use Rattle.soundness.specs.Asked.{lower}
use Rattle.tables.specs.Decode.{stmt_of}
use Rattle.tables.specs.Tables.{stmt_head, stmts_length}
use Rattle.faults.specs.Faults.{rows_all}
use Rattle.faults.specs.Lines.{line_of}
use Rattle.lowering.specs.Turns.{stmt_turn}
use Rattle.lowering.proofs.stmts_lower.Goals.{then-low, else-low}
use Rattle.lowering.proofs.stmts_lower.Goals as goal

pub loop-i-init : goal.loop-i-init
loop-i-init c = (omega arith, λ p e s t. (refl, rw (append-nil (flat operands p.exprs)) s, t))

pub loop-i-preserved : goal.loop-i-preserved
loop-i-preserved c =
    let l = c.loop-i in
    let q = c.args.program.now in
    let ok : c.if-low.fault ≡ c.parts_lower-low.result && not (c.name_exprs.result || c.name_parts.result) = elim c.if-low.branch [
      | then-low w ↦ rw w.if-low.true w.fault-is
      | else-low w ↦ rw w.if-low.false (w.fault-is ∙ w.if-low.false)
    ] in (
      omega (arith, c.joined-first.ensures.next, c.fault.ensures.bound),
      λ p e t u.
          let inv = l.invariant.1 p e t u in
          let turn = stmt_turn p l.i (stmt_of q.inits c.stmt_at-h.result)
          (ap (λ (k : List Stmt). at skip k (l.i + 1)) e ∙ stmt_head q.stmts q.inits (l.i + 1) ∙ ap (stmt_of q.inits) (sym c.stmt_at-h.ensures))
          (omega (arith, ap length e, stmts_length q.stmts q.inits, c.stmt_count-i-end.ensures))
          (c.parts_lower-low.ensures q.inits) c.name_exprs.ensures (c.name_parts.ensures q.inits) (ap (λ (b : Bool). cond {A = ℕ} b 0 1) ok) refl refl inv.1 inv.2 in
          (c.joined-first.ensures.line _ _ inv.0 c.fault.ensures.line ∙ ap line_of turn.0, turn.1, turn.2),
    )

pub returns-clause-row : goal.returns-clause-row
returns-clause-row c =
    let l = c.loop-i in
    let q = c.args.program.now in
    λ p e t u.
    let inv = l.invariant.1 p e t u in
    let n : l.i ≡ length p.stmts = omega (arith, ap length e, stmts_length q.stmts q.inits, c.stmt_count-i-end.ensures) in
    let all : take l.i p.stmts ≡ p.stmts = take_all l.i p.stmts (omega arith) in
    (inv.0 ∙ ap line_of (rows_all (lower p).stmt p.stmts l.i n), rw all at inv.1, rw all at inv.2)
