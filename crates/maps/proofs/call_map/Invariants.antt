-- `maps::call_map` meets its contract: after k turns the first k of the 64 places behind the caller's map are stored.
use Prim.Native.Nat.{ℕ, ◌+◌}
use mathlib.Core.Path.{◌≡◌}
use mathlib.Core.List.{List}
use lib.ListN.{length}
use Rattle.rows.specs.Fill.{filled}
use Rattle.programs.specs.Program.{Program}
use Rattle.maps.specs.Maps.{Tables, map_at, called}
use Rattle.maps.proofs.call_map.Given as goal

abbrev pub invariant-loop-k : goal.invariant-loop-k
invariant-loop-k l =
    (p : Program) (entries exits : List ℕ) → Tables p l.says l.program.state_of entries exits l.program.defers → length p.events ≡ l.events
    → l.maps ≡ filled (l.from + 64) 64 (called p l.n (map_at p l.from l.initial.maps)) l.initial.maps l.k
