-- The pairs of one more statement, put behind those of the statements before it; a statement without pairs leaves the pool.
use Rattle.std.specs.Prelude.{ℕ, ◌+◌, ◌*◌, ◌≤◌, ◌≡◌}
use mathlib.Core.List.{List, [], ◌∷◌, ◌++◌, append-nil}
use Rattle.std.proofs.Common.{arith}
use Rattle.std.proofs.Math.ListN.{length}
use Rattle.lists.specs.Lists.{flat}
use Rattle.lists.specs.Keep.{flat_append, flat_snoc}
use Rattle.rows.specs.Part.{put}
use Rattle.rows.specs.Runs.{pad_run}
use Rattle.programs.specs.Program.{Stmt}
use Rattle.soundness.specs.Asked.{init_of}
use Rattle.tables.specs.Decode.{PAIRS}
use Rattle.tabled.specs.Tabled.{pair_row, init_pool}
use Rattle.putting.specs.Counts.{pair_rows}

module _ (ss : List Stmt) (s : Stmt) where
  -- its pairs, where n are before them; those of a `new x k l` are l
  pub pairs_put : (n : ℕ) → n ≡ length (flat init_of ss) → n + length (init_of s) ≤ PAIRS → put (n * 2) (flat pair_row (init_of s)) (init_pool ss) ≡ init_pool (ss ++ s ∷ [])
  unfolding init_pool
  pairs_put n e h =
      let l : length (flat pair_row (flat init_of ss)) ≡ n * 2 = omega (arith, pair_rows (flat init_of ss)) in
      rw (flat_snoc init_of ss s, flat_append pair_row (flat init_of ss) (init_of s), ← l)
      (pad_run 0 30000 (flat pair_row (flat init_of ss)) (flat pair_row (init_of s)) (omega (arith, pair_rows (init_of s))))

  -- none
  pub pairs_none : init_of s ≡ [] → init_pool ss ≡ init_pool (ss ++ s ∷ [])
  unfolding init_pool
  pairs_none h = rw (flat_snoc init_of ss s, h, append-nil (flat init_of ss))
