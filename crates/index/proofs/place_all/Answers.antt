-- `index::place_all` meets its contract: before the turn of variable x the ones before it are counted and have their places. Assumes nothing.
use mathlib.Core.Path.{◌≡◌, refl, ◌∙◌}
use mathlib.Core.List.{List}
use Prim.Native.Nat.{ℕ, ◌+◌, ◌-◌, ◌≤◌, ◌<◌}
use native.Mathlib.Omega.{arith}
use lib.ListN.{get_or, set, length-replicate}
use Rattle.rows.specs.Pad.{zeros_get}
use Rattle.tables.specs.Decode.{byte}
use Rattle.index.specs.Placing.{Counting, before_le, counting_none, counting_more, counting_all}
use Rattle.index.proofs.place_all.Goals as goal
use Rattle.index.proofs.place_all.Goals.{After-from-k}

-- a kind's count is at most the variables before
count_fits : (c : After-from-k) → get_or c.loop-x.counts c.from-k.result 0 ≤ 255
count_fits c =
    let l = c.loop-x in
    let k = c.from-k.result in
    let h : k < 256 = omega (arith, c.byte.ensures, c.from-k.ensures) in
    omega (arith, c.loop-x-test.true, l.invariant.0, l.invariant.1.1.counts_are k h, before_le c.args.kinds.now k (l.x - 1))

-- one variable more
turn : (kinds counts places : List ℕ) (x k n : ℕ) → 1 ≤ x → x ≤ 256 → Counting kinds (x - 1) counts places → k ≡ byte (get_or kinds x 0) → n ≡ get_or counts k 0
    → Counting kinds x (set counts k (n + 1)) (set places x n)
turn kinds counts places x k n l h counting e q =
    let p : x - 1 + 1 ≡ x = omega arith in
    rw p at (counting_more kinds counts places (x - 1) k n counting (omega arith) (rw p e) q)

pub loop-x-init : goal.loop-x-init
loop-x-init c = (
  omega (arith, c.variable_count-n.ensures),
  (omega arith, counting_none c.args.kinds.now _ _ (length-replicate {A = ℕ} 256 0) (length-replicate {A = ℕ} 257 0) (zeros_get 0 256) (zeros_get 0 257)),
)

pub overflow_cast-places : goal.overflow_cast-places
overflow_cast-places c = omega (arith, count_fits (goal.at.overflow_cast-places c).After-from-k)

pub overflow_add-counts : goal.overflow_add-counts
overflow_add-counts c = omega (arith, count_fits (goal.at.overflow_add-counts c).After-from-k)

pub loop-x-preserved : goal.loop-x-preserved
loop-x-preserved c =
    let l = c.loop-x in
    let z : l.x + 1 - 1 ≡ l.x = omega arith in (
      l.invariant.0,
      (
        omega (arith, c.loop-x-test.true),
        rw z (turn c.args.kinds.now l.counts l.places l.x c.from-k.result _ (omega arith) (omega (arith, c.loop-x-test.true, l.invariant.0)) l.invariant.1.1 (c.from-k.ensures ∙ c.byte.ensures) refl),
      ),
    )

pub returns : goal.returns
returns c types =
    let l = c.loop-x in
    let n = c.variable_count-n in
    let z : l.x - 1 ≡ n.result = omega (arith, c.loop-x-test.false, l.invariant.1.0) in
    counting_all c.args.kinds.now l.counts l.places (l.x - 1) (z ∙ n.ensures) l.invariant.1.1 types

pub returns-2 : goal.returns-2
returns-2 c types =
    let l = c.loop-x in
    let n = c.variable_count-n in
    let z : l.x ≡ n.result = omega (arith, c.loop-x-test.true, c.if-x-n.false) in
    counting_all c.args.kinds.now _ _ l.x (z ∙ n.ensures)
    (turn c.args.kinds.now l.counts l.places l.x c.from-k.result _ (omega arith) (omega (arith, c.loop-x-test.true, l.invariant.0)) l.invariant.1.1 (c.from-k.ensures ∙ c.byte.ensures) refl) types
