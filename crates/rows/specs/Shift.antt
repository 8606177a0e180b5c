-- Taking element k out of a row that holds n elements and then zeros, by moving the later ones down: what the loop's stores make.
use Rattle.std.specs.Prelude.{◌≡◌, List, ℕ, ◌+◌, ◌≤◌, ◌<◌, length, take, get_or, set}
use Rattle.std.proofs.Math.Path.{sym}
use Rattle.std.proofs.Common.{◌∙◌, ⊎_elim, arith, length-take-le, ext_get_or}
use Rattle.std.proofs.Math.ListN.{get_or-eq_default}
use Rattle.std.proofs.Math.Seq.{get_or-take}
use Rattle.rows.specs.Pad.{below?, pad, pad_length, pad_get, without, without_length, without_low, without_high}
use Rattle.rows.specs.Front.{front, front_length, front_more, front_high, front_low, front_from}

-- the row without element k of the n that it holds
unfoldable pub shifted : {A : Type 0} → A → ℕ → ℕ → ℕ → List A → List A
shifted z size n k l = pad z size (without k (take n l))

module _ {A : Type 0} (z : A) (size n k : ℕ) (l : List A) (len : length l ≡ size) (fits : n ≤ size) (hk : k < n) where
  count : length (take n l) ≡ n
  count = length-take-le n l (omega arith)

  fewer : length (without k (take n l)) + 1 ≡ n
  fewer = without_length z k (take n l) (rw count hk) ∙ count

  pub shift_length : length (shifted z size n k l) ≡ length l
  unfolding shifted
  shift_length = pad_length z size (without k (take n l)) (omega (arith, fewer)) ∙ sym len

  low : (i : ℕ) → i < k → get_or (shifted z size n k l) i z ≡ get_or l i z
  unfolding shifted
  low i h = pad_get z size (without k (take n l)) i ∙ without_low z k (take n l) i (rw count hk) h ∙ get_or-take n l i z (omega arith)

  high : (i : ℕ) → k ≤ i → i + 1 < n → get_or (shifted z size n k l) i z ≡ get_or l (i + 1) z
  unfolding shifted
  high i h h2 = pad_get z size (without k (take n l)) i ∙ without_high z k (take n l) i (rw count hk) h ∙ get_or-take n l (i + 1) z h2

  past : (i : ℕ) → n ≤ i + 1 → get_or (shifted z size n k l) i z ≡ z
  unfolding shifted
  past i h = pad_get z size (without k (take n l)) i ∙ get_or-eq_default (without k (take n l)) z (omega (arith, fewer))

  -- before the first store
  pub shift_start : l ≡ front (shifted z size n k l) l k
  shift_start = front_from (shifted z size n k l) l k z shift_length (omega arith) low

  -- one store
  pub shift_more : (i : ℕ) → k ≤ i → i + 1 < n → set (front (shifted z size n k l) l i) i (get_or (front (shifted z size n k l) l i) (i + 1) z) ≡ front (shifted z size n k l) l (i + 1)
  shift_more i h h2 =
      let e : get_or (front (shifted z size n k l) l i) (i + 1) z ≡ get_or (shifted z size n k l) i z =
      front_high (shifted z size n k l) l i (i + 1) z shift_length (omega arith) (omega arith) ∙ sym (high i h h2) in
      rw e (front_more (shifted z size n k l) l i z shift_length (omega arith))

  -- the last store, of a zero, where the row has zeros behind its n elements
  pub shift_done : (last : ℕ) → last + 1 ≡ n → ((i : ℕ) → n ≤ i → get_or l i z ≡ z) → set (front (shifted z size n k l) l last) last z ≡ shifted z size n k l
  shift_done last e zeros =
      let t : List A = shifted z size n k l in
      let p : get_or (shifted z size n k l) last z ≡ z = past last (omega arith) in
      let q : set (front (shifted z size n k l) l last) last z ≡ front (shifted z size n k l) l (last + 1) =
      rw p at (front_more (shifted z size n k l) l last z shift_length (omega arith)) in
      q ∙ ext_get_or z _ _ (front_length (shifted z size n k l) l (last + 1) shift_length ∙ sym shift_length)
      (λ i hi. ⊎_elim
      (λ (b : i < last + 1). front_low (shifted z size n k l) l (last + 1) i z shift_length (omega arith) b)
      (λ (b : last + 1 ≤ i). front_high (shifted z size n k l) l (last + 1) i z shift_length (omega arith) b ∙ zeros i (omega arith) ∙ sym (past i (omega arith)))
      (below? i (last + 1)))
