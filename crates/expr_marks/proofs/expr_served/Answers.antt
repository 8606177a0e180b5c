-- `expr_marks::expr_served` meets its contract: the rows of the kinds, one after the other.
use Prim.Native.Nat.{ℕ, ◌+◌, ◌-◌}
use mathlib.Core.Path.{◌≡◌}
use lib.ListN.{replicate, length-replicate}
use Rattle.std.proofs.Common.{rules}
use Rattle.rows.specs.Pad.{zeros_get}
use Rattle.marks.specs.Inner.{operands_in}
use Rattle.expr_marks.specs.Naming.{rows_none, rows_more, named_all}
use native.Mathlib.Omega.{arith}
use Rattle.expr_marks.proofs.expr_served.Goals as goal

pub loop-k-init : goal.loop-k-init
loop-k-init c =
    let p = c.args.program.now in
    (omega (arith, c.expr_count-x.ensures), omega (arith, c.stmt_count-n.ensures), rows_none p.exprs p.stmts p.inits c.args.served.now c.expr_count-x.result c.stmt_count-n.result _)

pub loop-k-preserved : goal.loop-k-preserved
loop-k-preserved c =
    let l = c.loop-k in
    let p = c.args.program.now in
    let e : l.k + 1 - 1 ≡ l.k - 1 + 1 = omega arith in
    let f : l.k - 1 + 1 ≡ l.k = omega arith in (
      l.invariant.0,
      l.invariant.1,
      rw e (rows_more p.exprs p.stmts p.inits c.args.served.now c.expr_count-x.result c.stmt_count-n.result (l.k - 1) _ l.marks c.mark_roots.new.marks _ l.invariant.2
          (rw f c.mark_roots.ensures) (rw f (c.flow.ensures (operands_in p.exprs) (λ m i e. search rules)))),
    )

pub returns : goal.returns
returns c =
    let l = c.loop-k in
    let q = c.args.program.now in
    λ p e f h. named_all q.exprs q.stmts q.inits c.args.served.now p e f h (replicate {A = ℕ} 17425 0) (length-replicate {A = ℕ} 17425 0) (zeros_get 0 17425) c.expr_count-x.result c.stmt_count-n.result (l.k - 1) l.marks c.expr_count-x.ensures c.stmt_count-n.ensures (omega (arith, c.loop-k-test.false, l.auto.k-end)) l.invariant.2
