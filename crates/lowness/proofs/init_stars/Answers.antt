-- `lowness::init_stars` meets its contract: before a turn the pairs behind j are counted.
use Rattle.lowness.specs.Stars.{pairs_none, pairs_more, pairs_all}
use native.Mathlib.Omega.{arith}
use Rattle.lowness.proofs.init_stars.Goals as goal

pub loop-j-init : goal.loop-j-init
loop-j-init c =
    let a = c.args in
    (omega (arith, c.rows_from-m.ensures), omega arith, pairs_none a.counts.now a.inits.now c.from-a.result c.rows_from-m.result)

pub loop-j-preserved : goal.loop-j-preserved
loop-j-preserved c =
    let l = c.loop-j in
    let m = c.rows_from-m.result in
    let a = c.args in
    (l.invariant.0, omega (arith, c.add_few-sum.ensures), pairs_more a.counts.now a.inits.now c.from-a.result m l.j l.sum _ _ (omega arith) l.auto.j l.invariant.2 c.stars_at.ensures.0 c.add_few-sum.ensures)

pub returns : goal.returns
returns c =
    let l = c.loop-j in
    let m = c.rows_from-m in
    let a = c.args in
    rw (← c.from-a.ensures, ← c.from.ensures) (pairs_all a.counts.now a.inits.now c.from-a.result m.result l.j l.sum c.from.result (omega arith) m.ensures l.invariant.2)
