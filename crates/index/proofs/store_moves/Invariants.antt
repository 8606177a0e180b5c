-- `index::store_moves` meets its contract: before a turn the moves from row a + i on are stored. Assumes nothing.
use mathlib.Core.Path.{◌≡◌}
use Prim.Native.Nat.{◌+◌, ◌-◌, ◌≤◌}
use Rattle.rows.specs.Seek.{table}
use Rattle.tables.specs.Decode.{move_in}
use Rattle.index.specs.Saying.{stored_all}
use Rattle.index.proofs.store_moves.Given as goal

abbrev pub invariant-loop-i : goal.invariant-loop-i
invariant-loop-i l = (l.m ≤ 4096 - l.a) × (l.says ≡ stored_all l.j (table (move_in l.moves) (l.a + l.i) (l.m - l.i)) l.initial.says)
