-- Loops that store a part of a flat list in order: the invariant is `filled b w t xs i`, the list xs whose part of width w at b has its first i places from t.
use Rattle.std.specs.Prelude.{◌≡◌, refl, List, [], ◌∷◌, ℕ, zero, suc, ◌+◌, ◌≤◌, ◌<◌, length, get_or, set, replicate}
use Rattle.std.proofs.Common.{ap, sym, ◌∙◌, arith, length-set}
use Rattle.std.proofs.lemmas.List.{length-replicate, get_or-replicate}
use Rattle.rows.specs.Front.{front, front_length, front_none, front_more, front_all, front_high}
use Rattle.rows.specs.Shift.{shifted, shift_length, shift_start, shift_more, shift_done}
use Rattle.rows.specs.Part.{part, put, Off, part_length, put_length, part_get, put_in, put_out, put_part, put_set}

module _ {A : Type 0} where
  abbrev pub filled : ℕ → ℕ → List A → List A → ℕ → List A
  filled b w t xs i = put b (front t (part b w xs) i) xs

module _ {A : Type 0} (z : A) (b w : ℕ) (t xs : List A) (inside : b + w ≤ length xs) (e : length t ≡ w) where
  pl : length (part b w xs) ≡ w
  pl = part_length b w xs inside

  fl : (i : ℕ) → length (front t (part b w xs) i) ≡ w
  fl i = front_length t (part b w xs) i (e ∙ sym pl) ∙ pl

  pub filled_length : (i : ℕ) → length (filled b w t xs i) ≡ length xs
  filled_length i = put_length b _ xs (omega (arith, fl i))

  pub filled_none : xs ≡ filled b w t xs 0
  filled_none = put_part z b w xs inside ∙ ap (λ (r : List A). put b r xs) (front_none t (part b w xs))

  pub filled_more : (i : ℕ) → i < w → set (filled b w t xs i) (b + i) (get_or t i z) ≡ filled b w t xs (i + 1)
  filled_more i h = put_set z b (front t (part b w xs) i) xs i (get_or t i z) (omega (arith, fl i)) (omega (arith, fl i))
      ∙ ap (λ (r : List A). put b r xs) (front_more t (part b w xs) i z (e ∙ sym pl) (omega (arith, pl)))

  pub filled_all : (i : ℕ) → w ≤ i → filled b w t xs i ≡ put b t xs
  filled_all i h = ap (λ (r : List A). put b r xs) (front_all t (part b w xs) i (e ∙ sym pl) (omega (arith, pl)))

  -- what is read off the part is as it was
  pub filled_off : (i k : ℕ) → Off b w k → get_or (filled b w t xs i) k z ≡ get_or xs k z
  filled_off i k o = put_out b (front t (part b w xs) i) xs k z (omega (arith, fl i)) (rw (fl i) o)

  -- and so is what is not yet stored
  pub filled_later : (i j : ℕ) → i ≤ j → j < w → get_or (filled b w t xs i) (b + j) z ≡ get_or xs (b + j) z
  filled_later i j h hj = put_in b (front t (part b w xs) i) xs j z (omega (arith, fl i)) (omega (arith, fl i))
      ∙ front_high t (part b w xs) i j z (e ∙ sym pl) (omega (arith, pl)) h ∙ part_get b w xs j z hj

-- THE LOOP THAT STORES the elements of t from place b on: after i turns the list xs is the one it began with, its part at b with its first i places from t
pub record Filling {A : Type 0} (t : List A) (b w : ℕ) (xs₀ xs : List A) (i : ℕ) : Type 0 where
  pub turns : i ≤ w
  pub inside : b + w ≤ length xs₀
  pub whole : length t ≡ w
  pub long : length xs ≡ length xs₀
  pub stored : xs ≡ filled b w t xs₀ i

module _ {A : Type 0} (z : A) where
  -- before the first turn
  pub filling_none : {t : List A} {b w : ℕ} {xs₀ : List A} → b + w ≤ length xs₀ → length t ≡ w → Filling t b w xs₀ xs₀ 0
  filling_none {t} {b} {w} {xs₀} h e = record { turns = omega arith; inside = h; whole = e; long = refl; stored = filled_none z b w t xs₀ h e }

  -- one turn
  pub filling_more : {t : List A} {b w : ℕ} {xs₀ xs : List A} {i : ℕ} {v : A} → Filling t b w xs₀ xs i → i < w → v ≡ get_or t i z → Filling t b w xs₀ (set xs (b + i) v) (i + 1)
  filling_more {t} {b} {w} {xs₀} {xs} {i} {v} f h q = record {
    turns = omega arith;
    inside = f.inside;
    whole = f.whole;
    long = length-set xs (b + i) v ∙ f.long;
    stored = ap (λ (l : List A). set l (b + i) v) f.stored ∙ ap (set (filled b w t xs₀ i) (b + i)) q ∙ filled_more z b w t xs₀ f.inside f.whole i h;
  }

  -- after the last
  pub filling_all : {t : List A} {b w : ℕ} {xs₀ xs : List A} {i : ℕ} → Filling t b w xs₀ xs i → w ≤ i → xs ≡ put b t xs₀
  filling_all {t} {b} {w} {xs₀} {xs} {i} f h = f.stored ∙ filled_all z b w t xs₀ f.inside f.whole i h

  -- THE LOOP THAT CLEARS: it stores w zeros
  abbrev pub Clearing : ℕ → ℕ → List A → List A → ℕ → Type 0
  Clearing b w xs₀ xs i = Filling (replicate w z) b w xs₀ xs i

  -- before the first turn
  pub clearing_none : {b w : ℕ} {xs₀ : List A} → b + w ≤ length xs₀ → Clearing b w xs₀ xs₀ 0
  clearing_none {b} {w} h = filling_none h (length-replicate w z)

  -- one turn
  pub clearing_more : {b w : ℕ} {xs₀ xs : List A} {i : ℕ} → Clearing b w xs₀ xs i → i < w → Clearing b w xs₀ (set xs (b + i) z) (i + 1)
  clearing_more {b} {w} {xs₀} {xs} {i} f h = filling_more f h (sym (get_or-replicate w i z z h))

-- The same with no element at hand: before the first turn
pub filling_start : {A : Type 0} (t : List A) (b w : ℕ) (xs : List A) → b + w ≤ length xs → length t ≡ w → Filling t b w xs xs 0
unfolding front put part
filling_start t b w (x ∷ xs) h e = filling_none x h e
filling_start [] zero zero [] h e = record { turns = omega arith; inside = h; whole = e; long = refl; stored = refl }
filling_start [] zero (suc w) [] h e = absurd (omega arith)
filling_start [] (suc b) w [] h e = absurd (omega arith)
filling_start (y ∷ t) b w [] h e = absurd (omega arith)

-- and after the last
pub filling_end : {A : Type 0} (t : List A) (b w : ℕ) (xs ys : List A) (i : ℕ) → Filling t b w xs ys i → w ≤ i → ys ≡ put b t xs
unfolding put
filling_end t b w (x ∷ xs) ys i f h = filling_all x f h
filling_end [] zero w [] [] i f h = refl
filling_end [] zero w [] (y ∷ ys) i f h = absurd (omega (arith, f.long))
filling_end [] (suc b) w [] ys i f h = absurd (omega (arith, f.inside))
filling_end (y ∷ t) b w [] ys i f h = absurd (omega (arith, f.inside, f.whole))

-- taking element k out of a row of n
module _ {A : Type 0} where
  abbrev pub shifted_in : A → ℕ → ℕ → ℕ → ℕ → List A → ℕ → List A
  shifted_in z b w n k xs i = filled b w (shifted z w n k (part b w xs)) xs i

module _ {A : Type 0} (z : A) (b w n k : ℕ) (xs : List A) (inside : b + w ≤ length xs) (fits : n ≤ w) (hk : k < n) where
  len : length (part b w xs) ≡ w
  len = part_length b w xs inside

  slen : length (shifted z w n k (part b w xs)) ≡ w
  slen = shift_length z w n k (part b w xs) len fits hk ∙ len

  frl : (i : ℕ) → length (front (shifted z w n k (part b w xs)) (part b w xs) i) ≡ w
  frl i = front_length (shifted z w n k (part b w xs)) (part b w xs) i (slen ∙ sym len) ∙ len

  pub shifted_in_length : (i : ℕ) → length (shifted_in z b w n k xs i) ≡ length xs
  shifted_in_length i = filled_length z b w (shifted z w n k (part b w xs)) xs inside slen i

  pub shifted_in_start : xs ≡ shifted_in z b w n k xs k
  shifted_in_start = put_part z b w xs inside ∙ ap (λ (r : List A). put b r xs) (shift_start z w n k (part b w xs) len fits hk)

  pub shifted_in_more : (i : ℕ) → k ≤ i → i + 1 < n → set (shifted_in z b w n k xs i) (b + i) (get_or (shifted_in z b w n k xs i) (b + (i + 1)) z) ≡ shifted_in z b w n k xs (i + 1)
  shifted_in_more i h h2 =
      rw (put_in b (front (shifted z w n k (part b w xs)) (part b w xs) i) xs (i + 1) z (omega (arith, frl i)) (omega (arith, frl i)))
      (put_set z b (front (shifted z w n k (part b w xs)) (part b w xs) i) xs i _ (omega (arith, frl i)) (omega (arith, frl i))
      ∙ ap (λ (r : List A). put b r xs) (shift_more z w n k (part b w xs) len fits hk i h h2))

  pub shifted_in_done : (last : ℕ) → last + 1 ≡ n → ((i : ℕ) → n ≤ i → get_or (part b w xs) i z ≡ z)
      → set (shifted_in z b w n k xs last) (b + last) z ≡ put b (shifted z w n k (part b w xs)) xs
  shifted_in_done last q zeros =
      put_set z b (front (shifted z w n k (part b w xs)) (part b w xs) last) xs last z (omega (arith, frl last)) (omega (arith, frl last))
      ∙ ap (λ (r : List A). put b r xs) (shift_done z w n k (part b w xs) len fits hk last q zeros)
