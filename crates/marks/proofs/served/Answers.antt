-- `marks::served` meets its contract: the first marks, and then the rows of the kinds, one after the other.
use Prim.Native.Nat.{ℕ, ◌+◌, ◌-◌}
use mathlib.Core.Path.{◌≡◌}
use lib.ListN.{replicate, length-replicate}
use Rattle.std.proofs.Common.{rules}
use Rattle.marks.specs.Inner.{parts_in}
use Rattle.rows.specs.Pad.{zeros_get}
use Rattle.marks.specs.Kinds.{rows_none, rows_more, served_stored}
use native.Mathlib.Omega.{arith}
use Rattle.marks.proofs.served.Goals as goal

pub loop-k-init : goal.loop-k-init
loop-k-init c = (omega (arith, c.stmt_count-n.ensures), rows_none (parts_in c.args.program.now.stmts) c.stmt_count-n.result _)

pub loop-k-preserved : goal.loop-k-preserved
loop-k-preserved c =
    let l = c.loop-k in
    let kids = parts_in c.args.program.now.stmts in
    let p : l.k + 1 - 1 ≡ l.k - 1 + 1 = omega arith in
    let q : l.k - 1 + 1 ≡ l.k = omega arith in
    (l.invariant.0, rw p (rows_more kids c.stmt_count-n.result (l.k - 1) _ l.marks _ l.invariant.1 (rw q (c.flow.ensures kids (λ m i e. search rules)))))

pub returns : goal.returns
returns c =
    let l = c.loop-k in
    let q = c.args.program.now in
    served_stored q.stmts q.action_of q.action_body q.state_of q.state_entry q.state_exit (replicate {A = ℕ} 17425 0) (length-replicate {A = ℕ} 17425 0) (zeros_get 0 17425) c.stmt_count-n.result (l.k - 1) c.stmt_count-n.ensures (omega (arith, c.loop-k-test.false, l.auto.k-end)) _ _ l.marks c.mark_bodies.ensures c.mark_ends.ensures l.invariant.1
