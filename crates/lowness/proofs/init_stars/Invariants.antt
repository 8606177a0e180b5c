-- `lowness::init_stars` meets its contract: before a turn the pairs behind j are counted.
use mathlib.Core.Path.{◌≡◌}
use Prim.Native.Nat.{◌+◌, ◌-◌, ◌≤◌}
use Rattle.lowness.specs.Stars.{pair_stars}
use Rattle.lowness.proofs.init_stars.Given as goal

abbrev pub invariant-loop-j : goal.invariant-loop-j
invariant-loop-j l = (l.m ≤ 15000 - l.a) × (l.sum ≤ 9) × (l.sum ≡ pair_stars l.counts l.inits (l.a + l.j) (l.m - l.j))
