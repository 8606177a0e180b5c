-- `index::store_moves` meets its contract: before a turn the moves from row a + i on are stored. Assumes nothing.
use mathlib.Core.Path.{◌≡◌}
use Prim.Native.Nat.{◌+◌, ◌-◌, min}
use native.Mathlib.Omega.{arith}
use Rattle.tables.specs.Decode.{moves_of}
use Rattle.index.specs.Saying.{stored_more, stored_none}
use Rattle.index.proofs.store_moves.Goals as goal

pub loop-i-init : goal.loop-i-init
loop-i-init c =
    let a = c.args in
    (omega (arith, c.rows_from-m.ensures), stored_none a.moves.now a.says.now a.j a.a c.rows_from-m.result)

pub loop-i-preserved : goal.loop-i-preserved
loop-i-preserved c =
    let l = c.loop-i in
    let m = c.rows_from-m.result in
    let a = c.args in (
      l.invariant.0,
      stored_more a.moves.now a.says.now a.j a.a m l.i l.says _ c.loop-i-test.true l.auto.i l.invariant.1
          (rw (c.move_at-m.ensures.from, c.move_at-m.ensures.on, c.move_at-m.ensures.to) at c.store_move.ensures),
    )

pub returns : goal.returns
unfolding moves_of
returns c =
    let l = c.loop-i in
    let a = c.args in
    let p : a.a + l.i ≡ a.a = omega (arith, c.loop-i-test.false) in
    let q : c.rows_from-m.result - l.i ≡ min a.n (4096 - a.a) = omega (arith, c.loop-i-test.false, c.rows_from-m.ensures) in
    rw (p, q) at l.invariant.1
