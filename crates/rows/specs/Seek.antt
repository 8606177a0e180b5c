-- The first element that passes a test, by its place; and a list given by its elements.
use Rattle.std.specs.Prelude.{◌≡◌, Bool as 𝔹, true, false, cond, length, get_or, set}
use Rattle.std.proofs.Math.Path.{refl, ap}
use Rattle.std.proofs.Common.{sym, ◌∙◌, le_of_suc-le-suc, not-suc-le-zero, zero-lt-suc, zero-add, add-zero, length-set, ext_get_or, get_or-set_same, get_or-set_other}
use mathlib.Core.List.{List, [], ◌∷◌, map}
use Rattle.std.proofs.Math.Logic.{dite}
use Prim.Native.Nat.{ℕ, zero, suc, ◌+◌, ◌<◌, suc-le-suc}
use native.Mathlib.Omega.{arith}
use Rattle.std.proofs.Math.Decide.{ℕ_discrete}

module _ {A R : Type 0} (f : A → 𝔹) (found : ℕ → R) (none : R) where
  unfoldable pub seek_from : ℕ → List A → R
  seek_from k [] = none
  seek_from k (x ∷ xs) = cond (f x) (found k) (seek_from (k + 1) xs)

  -- from place 0
  unfoldable pub seek : List A → R
  seek l = seek_from 0 l

  from_none : (d : A) (l : List A) (k : ℕ) → ((j : ℕ) → j < length l → f (get_or l j d) ≡ false) → seek_from k l ≡ none
  unfolding seek_from
  from_none d [] k h = refl
  from_none d (x ∷ xs) k h = rw (h 0 (zero-lt-suc _)) (from_none d xs (k + 1) (λ j b. h (suc j) (suc-le-suc b)))

  from_at : (d : A) (l : List A) (k i : ℕ) → i < length l → ((j : ℕ) → j < i → f (get_or l j d) ≡ false) → f (get_or l i d) ≡ true → seek_from k l ≡ found (k + i)
  unfolding seek_from
  from_at d [] k i b h t = absurd (not-suc-le-zero b)
  from_at d (x ∷ xs) k zero b h t = rw (t, add-zero)
  from_at d (x ∷ xs) k (suc i) b h t =
      let e : k + 1 + i ≡ k + suc i = omega arith in
      rw (h 0 (zero-lt-suc _)) (from_at d xs (k + 1) i (le_of_suc-le-suc b) (λ j q. h (suc j) (suc-le-suc q)) t ∙ ap found e)

  pub seek_none : (d : A) (l : List A) → ((j : ℕ) → j < length l → f (get_or l j d) ≡ false) → seek l ≡ none
  unfolding seek
  seek_none d l h = from_none d l 0 h

  pub seek_at : (d : A) (l : List A) (i : ℕ) → i < length l → ((j : ℕ) → j < i → f (get_or l j d) ≡ false) → f (get_or l i d) ≡ true → seek l ≡ found i
  unfolding seek
  seek_at d l i b h t = from_at d l 0 i b h t ∙ ap found (zero-add i)

-- f k, f (k + 1), .., n of them
unfoldable pub table : {A : Type 0} → (ℕ → A) → ℕ → ℕ → List A
table f k zero = []
table f k (suc n) = f k ∷ table f (k + 1) n

module _ {A : Type 0} where
  pub table_length : (f : ℕ → A) (k n : ℕ) → length (table f k n) ≡ n
  unfolding table
  table_length f k zero = refl
  table_length f k (suc n) = ap suc (table_length f (k + 1) n)

  pub table_get : (f : ℕ → A) (d : A) (k n i : ℕ) → i < n → get_or (table f k n) i d ≡ f (k + i)
  unfolding table
  table_get f d k zero i h = absurd (not-suc-le-zero h)
  table_get f d k (suc n) zero h = ap f (sym (add-zero k))
  table_get f d k (suc n) (suc i) h =
      let e : k + 1 + i ≡ k + suc i = omega arith in
      table_get f d (k + 1) n i (le_of_suc-le-suc h) ∙ ap f e

  pub table_at : (f : ℕ → A) (d : A) (n i : ℕ) → i < n → get_or (table f 0 n) i d ≡ f i
  table_at f d n i h = table_get f d 0 n i h ∙ ap f (zero-add i)

-- a table's image is a table
pub map_table : {A B : Type 0} (g : A → B) (f : ℕ → A) (k n : ℕ) → map g (table f k n) ≡ table (λ j. g (f j)) k n
unfolding table
map_table g f k zero = refl
map_table g f k (suc n) = rw (map_table g f (k + 1) n)

-- two functions that differ at i at most have tables that differ at i at most
pub table_set : {A : Type 0} (d : A) (f g : ℕ → A) (n i : ℕ) → i < n → ((j : ℕ) → j < n → (j ≡ i → ⊥) → g j ≡ f j) → table g 0 n ≡ set (table f 0 n) i (g i)
table_set d f g n i h o =
    ext_get_or d (table g 0 n) (set (table f 0 n) i (g i)) (table_length g 0 n ∙ sym (length-set (table f 0 n) i (g i) ∙ table_length f 0 n))
    (λ j q. let hj : j < n = omega (arith, table_length g 0 n) in
    dite (ℕ_discrete j i)
    (λ e. rw e (table_at g d n i h ∙ sym (get_or-set_same (table f 0 n) i (g i) d (omega (arith, table_length f 0 n)))))
    (λ e. table_at g d n j hj ∙ o j hj e ∙ sym (table_at f d n j hj) ∙ sym (get_or-set_other (table f 0 n) i j (g i) d e)))
