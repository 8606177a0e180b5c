-- `expr_marks::mark_pairs` meets its contract: the pairs that are left give what all pairs give.
use Rattle.expr_marks.specs.Naming.{pairs_first, pairs_turn, pairs_done}
use native.Mathlib.Omega.{arith}
use Rattle.expr_marks.proofs.mark_pairs.Goals as goal

pub loop-j-init : goal.loop-j-init
loop-j-init c =
    let a = c.args in
    (omega (arith, c.rows_from-j-end.ensures), pairs_first a.b a.n a.inits.now c.from-a.result c.rows_from-j-end.result a.marks.now)

pub loop-j-preserved : goal.loop-j-preserved
loop-j-preserved c =
    let l = c.loop-j in
    let a = c.args in
    (l.invariant.0, pairs_turn a.b a.n a.inits.now c.from-a.result c.rows_from-j-end.result l.j l.marks _ _ c.loop-j-test.true l.invariant.1 c.mark_low.ensures)

pub returns : goal.returns
returns c =
    let l = c.loop-j in
    let m = c.rows_from-j-end in
    let a = c.args in
    rw (← c.from-a.ensures, ← c.from.ensures) (pairs_done a.b a.n a.inits.now c.from-a.result m.result l.j c.from.result l.marks a.marks.now c.loop-j-test.false m.ensures l.invariant.1)
