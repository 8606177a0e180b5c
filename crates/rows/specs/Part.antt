-- A part of a flat list: the w elements from place b on; and the list with the part from b on replaced by r.
-- Row i of width w is the part at b = i * w. Everything that a loop does in a row is `put b (what the row is) xs`.
use Rattle.std.specs.Prelude.{◌≡◌, refl, List, ◌++◌, ◌⊎◌, ℕ, ◌+◌, ◌-◌, ◌*◌, ◌≤◌, ◌<◌, take, set, replicate}
use Rattle.std.proofs.Math.Path.{ap, subst}
use Rattle.std.proofs.Common.{sym, ◌∙◌, append-nil, inl, inr, ⊎_elim, mul-le-mul_right, suc-mul, zero-add, length-append, length-drop, length-set, ext_get_or, get_or-append-add, get_or-set_same, get_or-set_other}
use Rattle.std.proofs.Math.Logic.{dite}
use native.Mathlib.Omega.{arith}
use Rattle.std.proofs.Math.Decide.{ℕ_discrete}
use Rattle.std.proofs.Math.ListN.{length, drop, get_or, length-take, get_or-append}
use Rattle.std.proofs.lemmas.List.{length-replicate}
use Rattle.std.proofs.Math.Seq.{get_or-take, get_or-drop, length-take-le, take-take, drop-length}
use Rattle.rows.specs.Pad.{below?, zeros_get}

-- k is outside the n places from b on
abbrev pub Off : ℕ → ℕ → ℕ → Type 0
Off b n k = (k < b) ⊎ (b + n ≤ k)

-- two rows of one width lie apart
pub apart : (w i j : ℕ) → (j ≡ i → ⊥) → (j * w + w ≤ i * w) ⊎ (i * w + w ≤ j * w)
apart w i j n = ⊎_elim
    (λ (h : j < i). inl (omega (arith, mul-le-mul_right w h, suc-mul j w)))
    (λ (h : i ≤ j). let q : i < j = omega arith in inr (omega (arith, mul-le-mul_right w q, suc-mul i w)))
    (below? j i)

-- so a place is in one row only
pub one_row : (w i j x y : ℕ) → x < w → y < w → i * w + x ≡ j * w + y → i ≡ j
one_row w i j x y a b e = dite (ℕ_discrete i j) (λ q. q) (λ q. absurd (⊎_elim
    (λ (h : i * w + w ≤ j * w). omega arith)
    (λ (h : j * w + w ≤ i * w). omega arith)
    (apart w j i q)))

-- row i lies within the n rows
pub within : (w n i : ℕ) → i < n → i * w + w ≤ n * w
within w n i h = omega (arith, mul-le-mul_right w h, suc-mul i w)

-- a place is in the part, or off it
pub where? : (b n k : ℕ) → ((j : ℕ) × ((j < n) × (b + j ≡ k))) ⊎ Off b n k
where? b n k = ⊎_elim
    (λ (h : k < b). inr (inl h))
    (λ (h : b ≤ k). ⊎_elim
    (λ (q : k < b + n). inl (k - b, (omega arith, omega arith)))
    (λ (q : b + n ≤ k). inr (inr q))
    (below? k (b + n)))
    (below? k b)

module _ {A : Type 0} where
  unfoldable pub part : ℕ → ℕ → List A → List A
  part b w xs = take w (drop b xs)

  unfoldable pub put : ℕ → List A → List A → List A
  put b r xs = (take b xs ++ r) ++ drop (b + length r) xs

  -- a list stored over the whole of another
  pub put_over : (r xs : List A) → length r ≡ length xs → put 0 r xs ≡ r
  unfolding put
  put_over r xs e = rw (zero-add (length r), e, drop-length xs) (append-nil r)

  pub part_length : (b w : ℕ) (xs : List A) → b + w ≤ length xs → length (part b w xs) ≡ w
  unfolding part
  part_length b w xs h = simp (length-take, length-drop) (omega arith)

  pub put_length : (b : ℕ) (r xs : List A) → b + length r ≤ length xs → length (put b r xs) ≡ length xs
  unfolding put
  put_length b r xs h = simp (length-append, length-take, length-drop) (omega arith)

  pub part_get : (b w : ℕ) (xs : List A) (j : ℕ) (z : A) → j < w → get_or (part b w xs) j z ≡ get_or xs (b + j) z
  unfolding part
  part_get b w xs j z h = get_or-take w (drop b xs) j z h ∙ get_or-drop b xs j z

  -- the first n elements of a part
  pub part_front : (b w n : ℕ) (xs : List A) → n ≤ w → take n (part b w xs) ≡ part b n xs
  unfolding part
  part_front b w n xs h = take-take n w (drop b xs) h

  head_length : (b : ℕ) (r xs : List A) → b + length r ≤ length xs → length (take b xs ++ r) ≡ b + length r
  head_length b r xs h = simp (length-append, length-take) (omega arith)

  pub put_in : (b : ℕ) (r xs : List A) (j : ℕ) (z : A) → b + length r ≤ length xs → j < length r → get_or (put b r xs) (b + j) z ≡ get_or r j z
  unfolding put
  put_in b r xs j z h hj =
      let e : length (take b xs) ≡ b = length-take-le b xs (omega arith) in
      let p : b + j < length (take b xs ++ r) = omega (arith, head_length b r xs h) in
      get_or-append (take b xs ++ r) _ z (b + j) p
      ∙ subst (λ (n : ℕ). get_or (take b xs ++ r) (n + j) z ≡ get_or r j z) e (get_or-append-add (take b xs) r j z)

  pub put_out : (b : ℕ) (r xs : List A) (k : ℕ) (z : A) → b + length r ≤ length xs → Off b (length r) k → get_or (put b r xs) k z ≡ get_or xs k z
  unfolding put
  put_out b r xs k z h (inl q) =
      let e : length (take b xs) ≡ b = length-take-le b xs (omega arith) in
      let p : k < length (take b xs ++ r) = omega (arith, head_length b r xs h) in
      let p2 : k < length (take b xs) = omega arith in
      get_or-append (take b xs ++ r) _ z k p ∙ get_or-append (take b xs) r z k p2 ∙ get_or-take b xs k z q
  put_out b r xs k z h (inr q) =
      let e : length (take b xs ++ r) + (k - (b + length r)) ≡ k = omega (arith, head_length b r xs h) in
      let e2 : b + length r + (k - (b + length r)) ≡ k = omega arith in
      subst (λ (n : ℕ). get_or ((take b xs ++ r) ++ drop (b + length r) xs) n z ≡ get_or xs k z) e
      (get_or-append-add (take b xs ++ r) (drop (b + length r) xs) (k - (b + length r)) z
      ∙ get_or-drop (b + length r) xs (k - (b + length r)) z ∙ ap (λ (n : ℕ). get_or xs n z) e2)

module _ {A : Type 0} (z : A) where
  -- what is off the part is off a store in it
  pub off_set : (b w j : ℕ) (v : A) (xs : List A) → j < w → (k : ℕ) → Off b w k → get_or (set xs (b + j) v) k z ≡ get_or xs k z
  off_set b w j v xs h k o = get_or-set_other xs (b + j) k v z (λ e. ⊎_elim (λ (i : k < b). omega arith) (λ (i : b + w ≤ k). omega arith) o)

  -- a part is known by its places
  pub part_ext : (b w : ℕ) (xs ys : List A) → b + w ≤ length xs → length ys ≡ length xs → ((j : ℕ) → j < w → get_or ys (b + j) z ≡ get_or xs (b + j) z) → part b w ys ≡ part b w xs
  part_ext b w xs ys h e f =
      let l : length (part b w ys) ≡ w = part_length b w ys (omega arith) in
      ext_get_or z (part b w ys) (part b w xs) (l ∙ sym (part_length b w xs h))
      (λ j hj. let q : j < w = omega arith in part_get b w ys j z q ∙ f j q ∙ sym (part_get b w xs j z q))

  -- a list is known by its part and by what is off it
  pub put_ext : (b : ℕ) (r xs l : List A) → b + length r ≤ length xs → length l ≡ length xs
      → ((j : ℕ) → j < length r → get_or l (b + j) z ≡ get_or r j z) → ((k : ℕ) → Off b (length r) k → get_or l k z ≡ get_or xs k z) → l ≡ put b r xs
  put_ext b r xs l h e f g = ext_get_or z l (put b r xs) (e ∙ sym (put_length b r xs h))
      (λ k hk. ⊎_elim
      (λ s. subst (λ (n : ℕ). get_or l n z ≡ get_or (put b r xs) n z) s.1.1 (f s.0 s.1.0 ∙ sym (put_in b r xs s.0 z h s.1.0)))
      (λ o. g k o ∙ sym (put_out b r xs k z h o))
      (where? b (length r) k))

  pub put_part : (b w : ℕ) (xs : List A) → b + w ≤ length xs → xs ≡ put b (part b w xs) xs
  put_part b w xs h =
      let e : length (part b w xs) ≡ w = part_length b w xs h in
      put_ext b (part b w xs) xs xs (omega arith) refl (λ j hj. sym (part_get b w xs j z (omega arith))) (λ k o. refl)

  pub part_put : (b w : ℕ) (r xs : List A) → length r ≡ w → b + w ≤ length xs → part b w (put b r xs) ≡ r
  part_put b w r xs e h =
      let h2 : b + length r ≤ length xs = omega arith in
      let pl : length (put b r xs) ≡ length xs = put_length b r xs h2 in
      let l : length (part b w (put b r xs)) ≡ w = part_length b w (put b r xs) (omega arith) in
      ext_get_or z (part b w (put b r xs)) r (l ∙ sym e)
      (λ j hj. part_get b w (put b r xs) j z (omega arith) ∙ put_in b r xs j z h2 (omega arith))

  -- a part that lies apart is as it was
  pub part_off : (b w c : ℕ) (r xs : List A) → c + length r ≤ length xs → b + w ≤ length xs → (b + w ≤ c) ⊎ (c + length r ≤ b) → part b w (put c r xs) ≡ part b w xs
  part_off b w c r xs h hb a =
      let pl : length (put c r xs) ≡ length xs = put_length c r xs h in
      let l : length (part b w (put c r xs)) ≡ w = part_length b w (put c r xs) (omega arith) in
      ext_get_or z (part b w (put c r xs)) (part b w xs) (l ∙ sym (part_length b w xs hb))
      (λ j hj. part_get b w (put c r xs) j z (omega arith)
      ∙ put_out c r xs (b + j) z h (⊎_elim (λ (q : b + w ≤ c). inl (omega arith)) (λ (q : c + length r ≤ b). inr (omega arith)) a)
      ∙ sym (part_get b w xs j z (omega arith)))

  -- a store in the part
  pub put_set : (b : ℕ) (r xs : List A) (j : ℕ) (v : A) → b + length r ≤ length xs → j < length r → set (put b r xs) (b + j) v ≡ put b (set r j v) xs
  put_set b r xs j v h hj =
      let el : length (set r j v) ≡ length r = length-set r j v in
      let pl : length (put b r xs) ≡ length xs = put_length b r xs h in
      put_ext b (set r j v) xs (set (put b r xs) (b + j) v) (omega arith) (length-set (put b r xs) (b + j) v ∙ pl)
      (λ i hi. dite (ℕ_discrete i j)
      (λ q. rw q (get_or-set_same (put b r xs) (b + j) v z (omega arith) ∙ sym (get_or-set_same r j v z hj)))
      (λ n. get_or-set_other (put b r xs) (b + j) (b + i) v z (λ q. n (omega arith)) ∙ put_in b r xs i z h (omega arith) ∙ sym (get_or-set_other r j i v z n)))
      (λ k o. get_or-set_other (put b r xs) (b + j) k v z (λ q. ⊎_elim (λ (y : k < b). omega arith) (λ (y : b + length (set r j v) ≤ k). omega arith) o)
      ∙ put_out b r xs k z h (⊎_elim (λ (y : k < b). inl y) (λ (y : b + length (set r j v) ≤ k). inr (omega arith)) o))

  -- a store in a list is a store in the part that the place is in
  pub set_put : (b w : ℕ) (xs : List A) (j : ℕ) (v : A) → b + w ≤ length xs → j < w → set xs (b + j) v ≡ put b (set (part b w xs) j v) xs
  set_put b w xs j v h hj =
      let e : length (part b w xs) ≡ w = part_length b w xs h in
      ap (λ (l : List A). set l (b + j) v) (put_part b w xs h) ∙ put_set b (part b w xs) xs j v (omega arith) (omega arith)

  pub put_put : (b : ℕ) (r s xs : List A) → b + length r ≤ length xs → length s ≡ length r → put b s (put b r xs) ≡ put b s xs
  put_put b r s xs h e =
      let pl : length (put b r xs) ≡ length xs = put_length b r xs h in
      let h2 : b + length s ≤ length (put b r xs) = omega arith in
      let h3 : b + length s ≤ length xs = omega arith in
      put_ext b s xs (put b s (put b r xs)) h3 (put_length b s (put b r xs) h2 ∙ pl)
      (λ j hj. put_in b s (put b r xs) j z h2 hj)
      (λ k o. put_out b s (put b r xs) k z h2 o ∙ put_out b r xs k z h (⊎_elim (λ (y : k < b). inl y) (λ (y : b + length s ≤ k). inr (omega arith)) o))

  -- rows of a store at one place: row i has the store, every other is as it was
  module _ (w i : ℕ) (xs : List A) (h : i * w + w ≤ length xs) where
    pub row_set : (j : ℕ) (v : A) → j < w → part (i * w) w (set xs (i * w + j) v) ≡ set (part (i * w) w xs) j v
    row_set j v hj = ap (λ (l : List A). part (i * w) w l) (set_put (i * w) w xs j v h hj)
        ∙ part_put (i * w) w _ xs (length-set (part (i * w) w xs) j v ∙ part_length (i * w) w xs h) h

    -- row k after row i was put
    pub row_other : (r : List A) (k : ℕ) → length r ≡ w → k * w + w ≤ length xs → (k ≡ i → ⊥) → part (k * w) w (put (i * w) r xs) ≡ part (k * w) w xs
    row_other r k e hk n = part_off (k * w) w (i * w) r xs (omega arith) hk
        (⊎_elim (λ (q : k * w + w ≤ i * w). inl q) (λ (q : i * w + w ≤ k * w). inr (omega arith)) (apart w i k n))

    pub row_set_other : (j : ℕ) (v : A) (k : ℕ) → j < w → k * w + w ≤ length xs → (k ≡ i → ⊥) → part (k * w) w (set xs (i * w + j) v) ≡ part (k * w) w xs
    row_set_other j v k hj hk n = ap (λ (l : List A). part (k * w) w l) (set_put (i * w) w xs j v h hj)
        ∙ row_other (set (part (i * w) w xs) j v) k (length-set (part (i * w) w xs) j v ∙ part_length (i * w) w xs h) hk n

-- a part of a list of which all elements are z
pub part_replicate : {A : Type 0} (z : A) (b w n : ℕ) → b + w ≤ n → part b w (replicate n z) ≡ replicate w z
part_replicate z b w n h = ext_get_or z (part b w (replicate n z)) (replicate w z) (long ∙ sym (length-replicate w z))
    (λ j i. part_get b w (replicate n z) j z (omega (arith, long)) ∙ zeros_get z n (b + j) ∙ sym (zeros_get z w j))
  where
    long : length (part b w (replicate n z)) ≡ w
    long = part_length b w (replicate n z) (omega (arith, length-replicate n z))
