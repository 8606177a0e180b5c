-- A row of numbers that is written from its front, one more.
use Rattle.std.specs.Prelude.{ℕ, suc, ◌<◌, ◌≡◌, List, [], ◌∷◌, ◌++◌, length, drop, set, get_or}
use Rattle.std.proofs.Common.{ap, sym, ◌∙◌, arith, length-append, drop-cons}
use Rattle.std.proofs.Math.Seq.{set-append_seam, append_snoc}
use Rattle.handed_runs.specs.HandedRuns.{fronted}

-- one more number behind those that are written from the front
pub fronted_more : (xs row : List ℕ) (x : ℕ) → length xs < length row → set (fronted xs row) (length xs) x ≡ fronted (xs ++ x ∷ []) row
fronted_more xs row x h =
    let n : suc (length xs) ≡ length (xs ++ x ∷ []) = omega (arith, length-append xs (x ∷ [])) in
    ap (λ (l : List ℕ). set (xs ++ l) (length xs) x) (drop-cons row (length xs) 0 h)
    ∙ set-append_seam xs (get_or row (length xs) 0) (drop (suc (length xs)) row) x
    ∙ sym (append_snoc xs x (drop (suc (length xs)) row))
    ∙ ap (λ (m : ℕ). (xs ++ x ∷ []) ++ drop m row) n
