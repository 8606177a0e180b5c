-- Laws of lists that a call stack in flat arrays needs: a part of a part; rows of one width, one behind the other; what holds of every element of a list
-- that is kept last element first, or of a list's first elements.
use Rattle.std.specs.Prelude.{ℕ, zero, suc, ◌+◌, ◌*◌, ◌≤◌, ◌<◌, ◌≡◌, refl, List, [], ◌∷◌, ◌++◌, map, length, take, drop, get_or}
use Rattle.std.proofs.Common.{ap, ◌∙◌, suc-mul, zero-mul, not-suc-le-zero, arith, take-add, drop-drop}
use Rattle.std.proofs.Math.Logic.{dite}
use Rattle.std.proofs.Math.Decide.{ℕ_discrete}
use Rattle.lists.specs.Lists.{All, flat}
use Rattle.rows.specs.Part.{part}
use Rattle.configs.specs.Decode.{down_to}

-- ROWS OF ONE WIDTH
-- rows that are the parts of a list, one behind the other, are the list's first places
pub rows_flat : {A : Type 0} (f : A → List ℕ) (w : ℕ) (d : A) (l : List A) (xs : List ℕ) → ((k : ℕ) → k < length l → part (k * w) w xs ≡ f (get_or l k d)) → flat f l ≡ take (length l * w) xs
unfolding part
rows_flat f w d [] xs h = rw (zero-mul w)
rows_flat f w d (x ∷ l) xs h =
    let e : suc (length l) * w ≡ w + length l * w = omega (arith, suc-mul (length l) w) in
    let first : take w xs ≡ f x = rw (zero-mul w) at (h 0 (omega arith)) in
    rw (e, take-add w (length l * w) xs, first) (ap (λ (r : List ℕ). f x ++ r) (rows_flat f w d l (drop w xs) rest))
  where
    rest : (k : ℕ) → k < length l → take w (drop (k * w) (drop w xs)) ≡ f (get_or l k d)
    rest k b = let e : suc k * w ≡ w + k * w = omega (arith, suc-mul k w) in
        ap (λ (r : List ℕ). take w r) (drop-drop (k * w) w xs) ∙ (rw e at (h (suc k) (omega arith)))

-- LAST ELEMENT FIRST
module _ {A : Type 0} (f : ℕ → A) where
  -- what holds of all of them holds of each,
  pub down_each : (P : A → Type 0) (n k : ℕ) → k < n → All P (down_to f n) → P (f k)
  down_each P zero k h a = absurd (not-suc-le-zero h)
  down_each P (suc n) k h a = dite (ℕ_discrete k n) (λ e. rw e a.0) (λ e. down_each P n k (omega arith) a.1)

  -- and the other way round.
  pub down_all : (P : A → Type 0) (n : ℕ) → ((k : ℕ) → k < n → P (f k)) → All P (down_to f n)
  down_all P zero h = tt
  down_all P (suc n) h = (h n (omega arith), down_all P n (λ k b. h k (omega arith)))

  -- a function of each of them
  pub down_map : {B : Type 0} (g : A → B) (n : ℕ) → map g (down_to f n) ≡ down_to (λ k. g (f k)) n
  down_map g zero = refl
  down_map g (suc n) = ap (λ r. g (f n) ∷ r) (down_map g n)

-- THE FIRST n ELEMENTS
module _ {A : Type 0} (g : ℕ → A) (P : A → Type 0) where
  -- what holds of all of them holds of each,
  pub take_each : (n : ℕ) (xs : List ℕ) (k : ℕ) → n ≤ length xs → k < n → All P (map g (take n xs)) → P (g (get_or xs k 0))
  take_each zero xs k h b a = absurd (not-suc-le-zero b)
  take_each (suc n) [] k h b a = absurd (not-suc-le-zero h)
  take_each (suc n) (x ∷ xs) zero h b a = a.0
  take_each (suc n) (x ∷ xs) (suc k) h b a = take_each n xs k (omega arith) (omega arith) a.1

  -- and the other way round.
  pub take_all : (n : ℕ) (xs : List ℕ) → n ≤ length xs → ((k : ℕ) → k < n → P (g (get_or xs k 0))) → All P (map g (take n xs))
  take_all zero xs h f = tt
  take_all (suc n) [] h f = absurd (not-suc-le-zero h)
  take_all (suc n) (x ∷ xs) h f = (f 0 (omega arith), take_all n xs (omega arith) (λ k b. f (suc k) (omega arith)))
