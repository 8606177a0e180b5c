-- A row of `size` places that holds the list xs and then zeros, z. With z as the default, what stands past the list's end is z too.
-- One law for every array that is used as a list with a count.
use Rattle.std.specs.Prelude.{◌≡◌, List, [], ◌∷◌, ◌++◌, ◌⊎◌, take}
use Rattle.std.proofs.Math.Path.{refl, ap, sym, subst}
use Rattle.std.proofs.Common.{◌∙◌, inl, inr, length-drop, length-set, ext_get_or, get_or-append-add, get_or-set_same, get_or-set_other}
use Rattle.std.proofs.Math.Logic.{⊎_elim, dite}
use Prim.Native.Nat.{ℕ, suc, ◌+◌, ◌-◌, ◌≤◌, ◌<◌}
use native.Mathlib.Omega.{arith}
use Rattle.std.proofs.Math.Decide.{dec_lt}
use Rattle.std.proofs.Math.ListN.{length, drop, get_or, set, replicate, length-append, length-take, get_or-append, get_or-eq_default}
use Rattle.std.proofs.lemmas.List.{length-replicate, get_or-replicate}
use Rattle.std.proofs.Math.Seq.{take_at, set-append_seam, append_snoc, get_or-take, get_or-drop, length-take-le, set-append_left}

-- the two cases of an order
pub below? : (i n : ℕ) → (i < n) ⊎ (n ≤ i)
below? i n = dite (dec_lt i n) (λ h. inl h) (λ h. inr (omega arith))

module _ {A : Type 0} (z : A) where
  unfoldable pub pad : ℕ → List A → List A
  pad size xs = xs ++ replicate (size - length xs) z

  pub pad_length : (size : ℕ) (xs : List A) → length xs ≤ size → length (pad size xs) ≡ size
  unfolding pad
  pad_length size xs h = simp (length-append, length-replicate) (omega arith)

  pub pad_take : (size : ℕ) (xs : List A) → take (length xs) (pad size xs) ≡ xs
  unfolding pad
  pad_take size xs = take_at xs _ (length xs) refl

  -- a row of zeros alone
  pub zeros_get : (n i : ℕ) → get_or (replicate n z) i z ≡ z
  zeros_get n i = ⊎_elim (λ h. get_or-replicate n i z z h) (λ h. get_or-eq_default (replicate n z) z (rw length-replicate h)) (below? i n)

  -- zeros in every place
  pub zeros_replicate : (n : ℕ) (xs : List A) → length xs ≡ n → ((k : ℕ) → k < n → get_or xs k z ≡ z) → xs ≡ replicate n z
  zeros_replicate n xs e h = ext_get_or z xs (replicate n z) (e ∙ sym (length-replicate n z)) (λ k b. h k (omega arith) ∙ sym (zeros_get n k))

  pub pad_get : (size : ℕ) (xs : List A) (i : ℕ) → get_or (pad size xs) i z ≡ get_or xs i z
  unfolding pad
  pad_get size xs i = ⊎_elim
      (λ (h : i < length xs). get_or-append xs _ z i h)
      (λ (h : length xs ≤ i).
      let e : length xs + (i - length xs) ≡ i = omega arith in
      subst (λ (k : ℕ). get_or (xs ++ replicate (size - length xs) z) k z ≡ get_or xs i z) e
      (get_or-append-add xs (replicate (size - length xs) z) (i - length xs) z ∙ zeros_get (size - length xs) (i - length xs) ∙ sym (get_or-eq_default xs z h)))
      (below? i (length xs))

  -- a row is known by its length and its elements
  pub pad_ext : (size : ℕ) (l xs : List A) → length l ≡ size → length xs ≤ size → ((i : ℕ) → i < size → get_or l i z ≡ get_or xs i z) → l ≡ pad size xs
  pad_ext size l xs e h f = ext_get_or z l (pad size xs) (e ∙ sym (pad_length size xs h)) (λ i hi. f i (omega arith) ∙ sym (pad_get size xs i))

  -- another element
  pub pad_set : (size : ℕ) (xs : List A) (i : ℕ) (a : A) → i < length xs → set (pad size xs) i a ≡ pad size (set xs i a)
  unfolding pad
  pad_set size xs i a h = set-append_left xs (replicate (size - length xs) z) i a h ∙ ap (λ (n : ℕ). set xs i a ++ replicate (size - n) z) (sym (length-set xs i a))

  -- one more at the end
  pub pad_snoc : (size : ℕ) (xs : List A) (a : A) → length xs < size → set (pad size xs) (length xs) a ≡ pad size (xs ++ (a ∷ []))
  unfolding pad
  pad_snoc size xs a h =
      let k : ℕ = size - length (xs ++ (a ∷ [])) in
      let e : size - length xs ≡ suc (size - length (xs ++ (a ∷ []))) = simp length-append (omega arith) in
      rw e (set-append_seam xs z (replicate (size - length (xs ++ (a ∷ []))) z) a ∙ sym (append_snoc xs a (replicate (size - length (xs ++ (a ∷ []))) z)))

-- the list without its element k
unfoldable pub without : {A : Type 0} → ℕ → List A → List A
without k xs = take k xs ++ drop (suc k) xs

module _ {A : Type 0} (z : A) where
  pub without_length : (k : ℕ) (xs : List A) → k < length xs → length (without k xs) + 1 ≡ length xs
  unfolding without
  without_length k xs h = simp (length-append, length-take, length-drop) (omega arith)

  -- before k as it was, from k on the next one
  pub without_low : (k : ℕ) (xs : List A) (i : ℕ) → k < length xs → i < k → get_or (without k xs) i z ≡ get_or xs i z
  unfolding without
  without_low k xs i h hi =
      let hl : i < length (take k xs) = simp length-take (omega arith) in
      get_or-append (take k xs) _ z i hl ∙ get_or-take k xs i z hi

  pub without_high : (k : ℕ) (xs : List A) (i : ℕ) → k < length xs → k ≤ i → get_or (without k xs) i z ≡ get_or xs (i + 1) z
  unfolding without
  without_high k xs i h hi =
      let el : length (take k xs) ≡ k = length-take-le k xs (omega arith) in
      let e : length (take k xs) + (i - k) ≡ i = omega arith in
      let e2 : suc k + (i - k) ≡ i + 1 = omega arith in
      subst (λ (j : ℕ). get_or (take k xs ++ drop (suc k) xs) j z ≡ get_or xs (i + 1) z) e
      (get_or-append-add (take k xs) (drop (suc k) xs) (i - k) z ∙ get_or-drop (suc k) xs (i - k) z ∙ ap (λ (j : ℕ). get_or xs j z) e2)

-- a row arr that holds its first n elements and then zeros: one more, and one less
module _ {A : Type 0} (z : A) (size n : ℕ) (arr : List A) (len : length arr ≡ size) (fits : n ≤ size) (packed : arr ≡ pad z size (take n arr)) where
  count : length (take n arr) ≡ n
  count = length-take-le n arr (omega arith)

  pub pushes : (a : A) → n < size → set arr n a ≡ pad z size (take n arr ++ (a ∷ []))
  pushes a h =
      ap (λ (l : List A). set l n a) packed ∙ ap (λ (i : ℕ). set (pad z size (take n arr)) i a) (sym count)
      ∙ pad_snoc z size (take n arr) a (rw count h)

  pub pops : (last : ℕ) → last + 1 ≡ n → set arr last z ≡ pad z size (take last (take n arr))
  pops last e =
      pad_ext z size (set arr last z) (take last (take n arr)) (length-set arr last z ∙ len) (simp length-take (omega arith))
      (λ i hi. ⊎_elim
      (λ (b : i < last). get_or-set_other arr last i z z (λ q. omega arith) ∙ sym (get_or-take last (take n arr) i z b ∙ get_or-take n arr i z (omega arith)))
      (λ (b : last ≤ i). past_last i b ∙ sym (get_or-eq_default (take last (take n arr)) z (simp length-take (omega arith))))
      (below? i last))
    where
      zeros : (i : ℕ) → n ≤ i → get_or arr i z ≡ z
      zeros i b = ap (λ (l : List A). get_or l i z) packed ∙ pad_get z size (take n arr) i ∙ get_or-eq_default (take n arr) z (omega (arith, count))

      past_last : (i : ℕ) → last ≤ i → get_or (set arr last z) i z ≡ z
      past_last i b = ⊎_elim
          (λ (c : i < n). let q : i ≡ last = omega arith in rw q (get_or-set_same arr last z z (omega arith)))
          (λ (c : n ≤ i). get_or-set_other arr last i z z (λ q. omega arith) ∙ zeros i c)
          (below? i n)
