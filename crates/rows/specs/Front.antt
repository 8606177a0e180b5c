-- A list l whose first i elements have been overwritten by those of t. A loop that stores t's elements one by one from the front, or from
-- any place on where the two agree before it, has this for its invariant.
use Rattle.std.specs.Prelude.{◌≡◌, List, ◌++◌, map, ℕ, suc, ◌+◌, ◌-◌, ◌≤◌, ◌<◌, take, set}
use Rattle.std.proofs.Math.Path.{refl, ap, sym, subst}
use Rattle.std.proofs.Common.{◌∙◌, append-nil, ⊎_elim, add-one, length-append, length-drop, ext_get_or, get_or-append-add, take_all}
use Rattle.rows.specs.Pad.{below?}
use native.Mathlib.Omega.{arith}
use Rattle.std.proofs.Math.ListN.{length, drop, get_or, length-take, get_or-append, drop_of_length-le}
use Rattle.std.proofs.lemmas.List.{length-map, set_at}
use Rattle.std.proofs.Math.Seq.{get_or-take, get_or-drop, length-take-le, take-suc, drop-cons, append_snoc}

module _ {A : Type 0} where
  unfoldable pub front : List A → List A → ℕ → List A
  front t l i = take i t ++ drop i l

  pub front_length : (t l : List A) (i : ℕ) → length t ≡ length l → length (front t l i) ≡ length l
  unfolding front
  front_length t l i e = simp (length-append, length-take, length-drop) (omega arith)

  pub front_none : (t l : List A) → l ≡ front t l 0
  unfolding front
  front_none t l = refl

  pub front_all : (t l : List A) (i : ℕ) → length t ≡ length l → length l ≤ i → front t l i ≡ t
  unfolding front
  front_all t l i e h =
      let ht : length t ≤ i = omega arith in
      rw (take_all i t ht, drop_of_length-le l h) (append-nil t)

  -- one more store
  pub front_more : (t l : List A) (i : ℕ) (d : A) → length t ≡ length l → i < length l → set (front t l i) i (get_or t i d) ≡ front t l (i + 1)
  unfolding front
  front_more t l i d e h =
      let ht : i < length t = omega arith in
      rw (add-one, drop-cons l i d h, take-suc t i d ht)
      (set_at (take i t) (get_or l i d) (drop (suc i) l) (get_or t i d) i (length-take-le i t (omega arith)) ∙ sym (append_snoc (take i t) (get_or t i d) (drop (suc i) l)))

  -- what was not yet stored is as it was
  pub front_high : (t l : List A) (i j : ℕ) (d : A) → length t ≡ length l → i ≤ length l → i ≤ j → get_or (front t l i) j d ≡ get_or l j d
  unfolding front
  front_high t l i j d e hi hj =
      let el : length (take i t) ≡ i = length-take-le i t (omega arith) in
      let e1 : length (take i t) + (j - i) ≡ j = omega arith in
      let e2 : i + (j - i) ≡ j = omega arith in
      subst (λ (k : ℕ). get_or (take i t ++ drop i l) k d ≡ get_or l j d) e1
      (get_or-append-add (take i t) (drop i l) (j - i) d ∙ get_or-drop i l (j - i) d ∙ ap (λ (k : ℕ). get_or l k d) e2)

  pub front_low : (t l : List A) (i j : ℕ) (d : A) → length t ≡ length l → i ≤ length l → j < i → get_or (front t l i) j d ≡ get_or t j d
  unfolding front
  front_low t l i j d e hi hj =
      let hl : j < length (take i t) = simp length-take (omega arith) in
      get_or-append (take i t) _ d j hl ∙ get_or-take i t j d hj

  -- from k on, where the two agree before k
  pub front_from : (t l : List A) (k : ℕ) (d : A) → length t ≡ length l → k ≤ length l → ((i : ℕ) → i < k → get_or t i d ≡ get_or l i d) → l ≡ front t l k
  front_from t l k d e h f =
      ext_get_or d l (front t l k) (sym (front_length t l k e))
      (λ i hi. ⊎_elim
      (λ (b : i < k). sym (f i b) ∙ sym (front_low t l k i d e h b))
      (λ (b : k ≤ i). sym (front_high t l k i d e h b))
      (below? i k))

-- an array that is a field of a struct, and holds structs: what is known of its length is stated of the list of its elements' fields
pub length_mapped : (X Y : Type 0) (f : X → Y) (l : List X) (n : ℕ) → length (map f l) ≡ n → length l ≡ n
length_mapped X Y f l n h = sym (length-map l f) ∙ h
