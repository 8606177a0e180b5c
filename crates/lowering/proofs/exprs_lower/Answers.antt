-- `lowering::exprs_lower` meets its contract: before a turn `first` is the fault of the first i expressions, and the marks are those of their operands. Assumes nothing.
use Rattle.std.proofs.Common.{◌≡◌, ℕ, ◌+◌, Bool, not, cond, ◌&&◌, List, length, refl, ap, sym, ◌∙◌, take_all, arith}
use Rattle.lists.specs.Lists.{at}
use Rattle.programs.specs.declared.Leaf.TheVariants.{Bot as bot}
use Rattle.programs.specs.declared.Expr.{Expr}
use Rattle.programs.specs.declared.Expr.TheVariants.{Leaf as leaf}
use Rattle.soundness.specs.Asked.{lower}
use Rattle.tables.specs.Tables.{exprs_length}
use Rattle.faults.specs.Faults.{rows_all}
use Rattle.faults.specs.Lines.{line_of}
use Rattle.lowering.specs.Turns.{expr_turn}
use Rattle.lowering.proofs.exprs_lower.Goals.{then-low, else-low}
use Rattle.lowering.proofs.exprs_lower.Goals as goal

pub loop-i-init : goal.loop-i-init
loop-i-init c = (omega arith, λ p e s. (refl, s))

pub loop-i-preserved : goal.loop-i-preserved
loop-i-preserved c =
    let l = c.loop-i in
    let a = c.args in
    let ok : c.if-low.fault ≡ c.operands_lower-low.result && not c.name_operands-again.result = elim c.if-low.branch [
      | then-low w ↦ rw w.if-low.true w.fault-is
      | else-low w ↦ rw w.if-low.false (w.fault-is ∙ w.if-low.false)
    ] in (
      omega (arith, c.joined-first.ensures.next, c.fault.ensures.bound),
      λ p e t.
          let inv = l.invariant.1 p e t in
          let turn = expr_turn p l.i c.expr_at-x.result (ap (λ (k : List Expr). at (leaf bot) k (l.i + 1)) e ∙ sym c.expr_at-x.ensures) (omega (arith, ap length e, exprs_length a.program.now.exprs, c.expr_count-i-end.ensures))
          c.operands_lower-low.ensures c.name_operands-again.ensures (ap (λ (b : Bool). cond {A = ℕ} b 0 1) ok) refl refl inv.1 in
          (c.joined-first.ensures.line _ _ inv.0 c.fault.ensures.line ∙ ap line_of turn.0, turn.1),
    )

pub returns-clause-row : goal.returns-clause-row
returns-clause-row c =
    let l = c.loop-i in
    let a = c.args in
    λ p e t.
    let inv = l.invariant.1 p e t in
    let n : l.i ≡ length p.exprs = omega (arith, ap length e, exprs_length a.program.now.exprs, c.expr_count-i-end.ensures) in
    (inv.0 ∙ ap line_of (rows_all (lower p).expr p.exprs l.i n), rw (take_all l.i p.exprs (omega arith)) at inv.1)
