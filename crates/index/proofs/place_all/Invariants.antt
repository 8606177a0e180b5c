-- `index::place_all` meets its contract: before the turn of variable x the ones before it are counted and have their places. Assumes nothing.
use Prim.Native.Nat.{◌+◌, ◌-◌, ◌≤◌}
use Rattle.index.specs.Placing.{Counting}
use Rattle.index.proofs.place_all.Given as goal

abbrev pub invariant-loop-x : goal.invariant-loop-x
invariant-loop-x l = (l.n ≤ 256) × ((l.x ≤ l.n + 1) × Counting l.kinds (l.x - 1) l.counts l.places)
