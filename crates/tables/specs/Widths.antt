-- Rows of one width that stand one behind the other, read row by row.
use Prim.Native.Nat.{ℕ, zero, suc, ◌+◌, ◌-◌, ◌*◌, ◌<◌}
use Rattle.std.specs.Prelude.{◌≡◌, get_or, replicate}
use mathlib.Core.List.{List, [], ◌∷◌, ◌++◌, append_assoc}
use Rattle.std.proofs.Math.Nat.{suc-mul}
use Rattle.std.proofs.Common.{zero-mul, not-suc-le-zero, arith, take_at}
use Rattle.std.proofs.Math.ListN.{length}
use Rattle.std.proofs.Math.Seq.{drop-append-add}
use Rattle.lists.specs.Lists.{All, flat}
use Rattle.rows.specs.Pad.{pad}
use Rattle.rows.specs.Part.{part}

module _ {A B : Type 0} (f : A → List B) (w : ℕ) (d : A) where
  -- row k of rows of one width, one behind the other
  pub flat_part : (l : List A) (r : List B) (k : ℕ) → k < length l → All (λ x. length (f x) ≡ w) l → part (k * w) w (flat f l ++ r) ≡ f (get_or l k d)
  unfolding part
  flat_part [] r k b h = absurd (not-suc-le-zero b)
  flat_part (x ∷ l) r zero b h = rw (zero-mul w, append_assoc (f x) (flat f l) r) (take_at (f x) (flat f l ++ r) w h.0)
  flat_part (x ∷ l) r (suc k) b h =
      let e : suc k * w ≡ length (f x) + k * w = omega (arith, suc-mul k w, h.0) in
      rw (e, append_assoc (f x) (flat f l) r, drop-append-add (f x) (flat f l ++ r) (k * w)) (flat_part l r k (omega arith) h.1)

  -- and of such rows with zeros behind them
  pub padded_part : (z : B) (size : ℕ) (l : List A) (k : ℕ) → k < length l → All (λ x. length (f x) ≡ w) l → part (k * w) w (pad z size (flat f l)) ≡ f (get_or l k d)
  unfolding pad
  padded_part z size l k b h = flat_part l (replicate (size - length (flat f l)) z) k b h
