-- `index::say` meets its contract: the steps, the calls and the acts stored in zeros are what is said. Assumes nothing.
use mathlib.Core.Path.{◌≡◌, ap, ◌∙◌}
use Prim.Native.Nat.{ℕ, ◌+◌}
use lib.ListN.{replicate, length-replicate}
use Rattle.tables.specs.Decode.{moves_of}
use Rattle.rows.specs.Pad.{zeros_get}
use Rattle.index.specs.Saying.{said_stored, moves_cut}
use Rattle.index.proofs.say.Goals as goal

pub returns : goal.returns
returns c =
    let r = c.row_after-a in
    let a = c.args in
    let cut : moves_of a.moves.now r.result a.acts ≡ moves_of a.moves.now (a.steps + a.calls) a.acts =
    ap (λ (k : ℕ). moves_of a.moves.now k a.acts) r.ensures ∙ moves_cut a.moves.now (a.steps + a.calls) a.acts in
    said_stored _ _ _ (replicate {A = ℕ} 12675 0) (length-replicate {A = ℕ} 12675 0) (zeros_get 0 12675) _ _ _ c.store_moves.ensures c.store_moves-2.ensures
    (rw cut at c.store_moves-3.ensures)
