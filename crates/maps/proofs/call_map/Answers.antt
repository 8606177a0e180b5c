-- `maps::call_map` meets its contract: after k turns the first k of the 64 places behind the caller's map are stored.
use Prim.Native.Nat.{◌+◌}
use mathlib.Core.Path.{◌∙◌}
use Rattle.rows.specs.Fill.{filled_none, filled_all}
use Rattle.maps.specs.Maps.{map_at, called, called_length, call_more, call_zero}
use native.Mathlib.Omega.{arith}
use Rattle.maps.proofs.call_map.Goals.{then-k-events, else-k-events}
use Rattle.maps.proofs.call_map.Goals as goal

pub loop-k-init : goal.loop-k-init
loop-k-init c p entries exits t h =
    let a = c.args in
    filled_none 0 (a.from + 64) 64 (called p a.n (map_at p a.from a.maps.now)) a.maps.now (omega arith) (called_length p a.n a.from a.maps.now (omega arith) (omega arith))

pub loop-k-preserved : goal.loop-k-preserved
loop-k-preserved c p entries exits t h =
    let l = c.loop-k in
    let a = c.args in
    elim c.if-k-events.branch [
      | then-k-events w ↦ rw w.maps-is (call_more p a.n a.from a.maps.now (omega arith) (omega arith) l.maps l.k (l.invariant p entries exits t h) w.inherited.result (omega (arith, w.if-k-events.true)) (w.inherited.ensures p entries exits t))
      | else-k-events w ↦ rw w.maps-is (call_zero p a.n a.from a.maps.now (omega arith) (omega arith) l.maps l.k (l.invariant p entries exits t h) (omega (arith, w.if-k-events.false)) (omega arith))
    ]

pub returns : goal.returns
returns c p entries exits t h =
    let l = c.loop-k in
    let a = c.args in
    l.invariant p entries exits t h
    ∙ filled_all 0 (a.from + 64) 64 (called p a.n (map_at p a.from a.maps.now)) a.maps.now (omega arith) (called_length p a.n a.from a.maps.now (omega arith) (omega arith)) l.k (omega arith)
