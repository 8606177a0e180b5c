-- `marks::climb` meets its contract: before the turn of number s the lower ones have had theirs.
use mathlib.Core.Path.{◌≡◌}
use Prim.Native.Nat.{ℕ, ◌+◌, ◌≤◌}
use Rattle.std.proofs.Common.{length}
use Rattle.std.specs.Prelude.{replicate}
use Rattle.marks.specs.Climbs.{Climbs}
use Rattle.marks.proofs.climb.Given as goal

abbrev pub invariant-loop-s : goal.invariant-loop-s
invariant-loop-s g l = record {
  end : l.s ≤ l.n + 1;
  size : length l.items ≡ 1025;
  climbs : (m : ℕ) → l.s ≡ m + 1 → Climbs (goal.F-post g l.work) (replicate 1025 l.fn.other) m l.items;
}
