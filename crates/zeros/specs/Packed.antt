-- A list with a count, kept as it is read or last element first: what is read of it, written with zeros behind it, is the list where the places past
-- the count are zero, and nowhere else.
use Rattle.std.specs.Prelude.{ℕ, zero, suc, ◌+◌, ◌-◌, ◌≤◌, ◌<◌, ◌≡◌, refl, length, take, get_or}
use Rattle.std.proofs.Common.{ap, sym, ◌∙◌, ⊎_elim, arith, take-suc, get_or-take, length-take-le}
use mathlib.Core.List.{List, [], ◌∷◌, ◌++◌, reverse, reverse-cons}
use Rattle.std.proofs.Math.ListN.{get_or-eq_default}
use Rattle.rows.specs.Pad.{below?, pad, pad_get, pad_ext}
use Rattle.rows.specs.Part.{part, part_length, part_get}
use Rattle.configs.specs.Decode.{down_to}
use Rattle.zeros.specs.Zeros.{Zeros}

-- what is kept last element first, in reverse, is the list's first elements
pub reverse_down : (n : ℕ) (xs : List ℕ) → n ≤ length xs → reverse (down_to (λ k. get_or xs k 0) n) ≡ take n xs
reverse_down zero xs h = refl
reverse_down (suc n) xs h =
    reverse-cons (get_or xs n 0) (down_to (λ k. get_or xs k 0) n)
    ∙ ap (λ (l : List ℕ). l ++ (get_or xs n 0 ∷ [])) (reverse_down n xs (omega arith))
    ∙ sym (take-suc xs n 0 h)

module _ (b w n : ℕ) (xs : List ℕ) (inside : b + w ≤ length xs) (fits : n ≤ w) where
  -- the row has its w places,
  row_length : length (part b w xs) ≡ w
  row_length = part_length b w xs inside

  -- and its first n are n.
  front_length : length (take n (part b w xs)) ≡ n
  front_length = length-take-le n (part b w xs) (omega (arith, row_length))

  -- zeros behind the first n of the w places from b on: the row is its first n with zeros behind them,
  pub packed : Zeros (b + n) (b + w) xs → pad 0 w (take n (part b w xs)) ≡ part b w xs
  packed z = sym (pad_ext 0 w (part b w xs) (take n (part b w xs)) row_length (omega (arith, front_length))
      (λ k h. ⊎_elim
      (λ (q : k < n). sym (get_or-take n (part b w xs) k 0 q))
      (λ (q : n ≤ k). part_get b w xs k 0 h ∙ z (b + k) (omega arith) (omega arith) ∙ sym (get_or-eq_default (take n (part b w xs)) 0 (omega (arith, front_length))))
      (below? k n)))

  -- and the other way round.
  pub unpacked : pad 0 w (take n (part b w xs)) ≡ part b w xs → Zeros (b + n) (b + w) xs
  unpacked e k h l =
      let q : b + (k - b) ≡ k = omega arith in
      ap (λ (j : ℕ). get_or xs j 0) (sym q) ∙ sym (part_get b w xs (k - b) 0 (omega arith)) ∙ ap (λ (r : List ℕ). get_or r (k - b) 0) (sym e)
      ∙ pad_get 0 w (take n (part b w xs)) (k - b) ∙ get_or-eq_default (take n (part b w xs)) 0 (omega (arith, front_length))
