-- Laws of rows that lie in a room's places: a part of a part, a store in it; and of a list with zeros behind it that gains or loses a run at its end.
use Rattle.std.specs.Prelude.{ℕ, ◌+◌, ◌-◌, ◌≤◌, ◌<◌, ◌≡◌, get_or, set}
use Rattle.std.proofs.Math.Path.{ap}
use Rattle.std.proofs.Common.{sym, ◌∙◌, ⊎_elim, inl, inr, length-append, ext_get_or, get_or-append-add, set-set}
use mathlib.Core.List.{List, [], ◌∷◌, ◌++◌, append_assoc}
use native.Mathlib.Omega.{arith}
use Rattle.std.proofs.Math.ListN.{length, replicate, replicate-append-replicate, get_or-append, get_or-eq_default}
use Rattle.std.proofs.lemmas.List.{length-replicate, set-get_or}
use Rattle.rows.specs.Pad.{below?, pad, pad_length, pad_get, pad_ext, pad_snoc}
use Rattle.rows.specs.Part.{Off, where?, part, put, part_length, put_length, part_get, put_in, put_out, put_ext, put_put}

-- a list that is padded fits where the row has its size
pub pad_fits : {A : Type 0} (z : A) (size : ℕ) (xs : List A) → length (pad z size xs) ≡ size → length xs ≤ size
unfolding pad
pad_fits z size xs e = omega (arith, simp (length-append, length-replicate) at e)

module _ {A : Type 0} (z : A) where
  -- A PART OF A PART
  pub part_part : (b w c v : ℕ) (xs : List A) → c + v ≤ w → b + w ≤ length xs → part c v (part b w xs) ≡ part (b + c) v xs
  part_part b w c v xs h i =
      let l : length (part b w xs) ≡ w = part_length b w xs i in
      let n : length (part c v (part b w xs)) ≡ v = part_length c v (part b w xs) (omega arith) in
      ext_get_or z (part c v (part b w xs)) (part (b + c) v xs) (n ∙ sym (part_length (b + c) v xs (omega arith)))
      (λ j q. let s : j < v = omega arith in
      let e : b + (c + j) ≡ b + c + j = omega arith in
      part_get c v (part b w xs) j z s ∙ part_get b w xs (c + j) z (omega arith) ∙ ap (λ (m : ℕ). get_or xs m z) e ∙ sym (part_get (b + c) v xs j z s))

  -- a run stored in the part
  pub part_put_inside : (b w c : ℕ) (r xs : List A) → c + length r ≤ w → b + w ≤ length xs → part b w (put (b + c) r xs) ≡ put c r (part b w xs)
  part_put_inside b w c r xs h i =
      let n : length (put (b + c) r xs) ≡ length xs = put_length (b + c) r xs (omega arith) in
      let l : length (part b w xs) ≡ w = part_length b w xs i in
      let m : length (part b w (put (b + c) r xs)) ≡ w = part_length b w (put (b + c) r xs) (omega arith) in
      put_ext z c r (part b w xs) (part b w (put (b + c) r xs)) (omega arith) (m ∙ sym l)
      (λ j q. let e : b + (c + j) ≡ b + c + j = omega arith in
      part_get b w (put (b + c) r xs) (c + j) z (omega arith) ∙ ap (λ (y : ℕ). get_or (put (b + c) r xs) y z) e ∙ put_in (b + c) r xs j z (omega arith) q)
      (λ j o. ⊎_elim
      (λ (s : j < w). part_get b w (put (b + c) r xs) j z s
      ∙ put_out (b + c) r xs (b + j) z (omega arith) (⊎_elim (λ (u : j < c). inl (omega arith)) (λ (u : c + length r ≤ j). inr (omega arith)) o) ∙ sym (part_get b w xs j z s))
      (λ (s : w ≤ j). get_or-eq_default (part b w (put (b + c) r xs)) z (omega arith) ∙ sym (get_or-eq_default (part b w xs) z (omega arith)))
      (below? j w))

  -- A LIST WITH ZEROS BEHIND IT
  -- its last element is another
  pub pad_last : (size : ℕ) (xs : List A) (a b : A) → length xs < size → set (pad z size (xs ++ a ∷ [])) (length xs) b ≡ pad z size (xs ++ b ∷ [])
  pad_last size xs a b h =
      ap (λ (l : List A). set l (length xs) b) (sym (pad_snoc z size xs a h)) ∙ set-set (pad z size xs) (length xs) a b ∙ pad_snoc z size xs b h

  -- its last element goes
  pub pad_less : (size : ℕ) (xs : List A) (a : A) → length xs < size → set (pad z size (xs ++ a ∷ [])) (length xs) z ≡ pad z size xs
  pad_less size xs a h =
      let e : get_or (pad z size xs) (length xs) z ≡ z = pad_get z size xs (length xs) ∙ get_or-eq_default xs z (omega arith) in
      ap (λ (l : List A). set l (length xs) z) (sym (pad_snoc z size xs a h)) ∙ set-set (pad z size xs) (length xs) a z
      ∙ ap (λ (y : A). set (pad z size xs) (length xs) y) (sym e) ∙ set-get_or (pad z size xs) (length xs) z

  -- a run more at its end
  pub pad_run : (size : ℕ) (xs r : List A) → length xs + length r ≤ size → put (length xs) r (pad z size xs) ≡ pad z size (xs ++ r)
  pad_run size xs r h =
      let l : length (pad z size xs) ≡ size = pad_length z size xs (omega arith) in
      let i : length xs + length r ≤ length (pad z size xs) = omega arith in
      pad_ext z size (put (length xs) r (pad z size xs)) (xs ++ r) (put_length (length xs) r (pad z size xs) i ∙ l) (simp length-append (omega arith))
      (λ j q. ⊎_elim
      (λ (s : (y : ℕ) × ((y < length r) × (length xs + y ≡ j))).
      rw (sym s.1.1) (put_in (length xs) r (pad z size xs) s.0 z i s.1.0 ∙ sym (get_or-append-add xs r s.0 z)))
      (λ (o : Off (length xs) (length r) j). put_out (length xs) r (pad z size xs) j z i o ∙ pad_get z size xs j ∙ ⊎_elim
      (λ (u : j < length xs). sym (get_or-append xs r z j u))
      (λ (u : length xs + length r ≤ j). get_or-eq_default xs z (omega arith) ∙ sym (get_or-eq_default (xs ++ r) z (simp length-append (omega arith))))
      o)
      (where? (length xs) (length r) j))

  -- zeros at its end are as good as none,
  pub pad_zeros : (size n : ℕ) (xs : List A) → length xs + n ≤ size → pad z size (xs ++ replicate n z) ≡ pad z size xs
  unfolding pad
  pad_zeros size n xs h =
      let e : size - length (xs ++ replicate n z) ≡ size - length xs - n = simp (length-append, length-replicate) (omega arith) in
      let m : n + (size - length xs - n) ≡ size - length xs = omega arith in
      append_assoc xs (replicate n z) (replicate (size - length (xs ++ replicate n z)) z)
      ∙ ap (λ (l : List A). xs ++ l) (ap (λ (k : ℕ). replicate n z ++ replicate k z) e ∙ replicate-append-replicate n (size - length xs - n) z ∙ ap (λ (k : ℕ). replicate k z) m)

  -- and zeros with zeros behind them are zeros
  pub zeros_pad : (size n : ℕ) → n ≤ size → pad z size (replicate n z) ≡ replicate size z
  unfolding pad
  zeros_pad size n h = let e : size - 0 ≡ size = omega arith in pad_zeros size n [] (omega arith) ∙ ap (λ (k : ℕ). replicate k z) e

  -- its last run is another
  pub pad_last_run : (size : ℕ) (xs r s : List A) → length xs + length r ≤ size → length s ≡ length r → put (length xs) s (pad z size (xs ++ r)) ≡ pad z size (xs ++ s)
  pad_last_run size xs r s h e =
      let l : length (pad z size xs) ≡ size = pad_length z size xs (omega arith) in
      ap (put (length xs) s) (sym (pad_run size xs r h)) ∙ put_put z (length xs) r s (pad z size xs) (omega arith) e ∙ pad_run size xs s (omega arith)

  -- its last run goes
  pub pad_less_run : (size : ℕ) (xs r : List A) → length xs + length r ≤ size → put (length xs) (replicate (length r) z) (pad z size (xs ++ r)) ≡ pad z size xs
  pad_less_run size xs r h = pad_last_run size xs r (replicate (length r) z) h (length-replicate (length r) z) ∙ pad_zeros size (length r) xs h
