-- Regrouping looks at nothing of an entry but its machine and whether it is a meeting: a map that keeps the two may be done before it or behind it.
use Prim.Native.Nat.{ℕ, zero, suc}
use Rattle.std.specs.Prelude.{◌≡◌, Bool, true, false, cond, eqb, length}
use Rattle.std.proofs.Math.Path.{refl, ap}
use Rattle.std.proofs.Common.{sym, ◌∙◌}
use Rattle.std.proofs.Math.Bool.{not}
use mathlib.Core.List.{List, [], ◌∷◌, ◌++◌, map, map-append}
use Rattle.std.proofs.lemmas.List.{length-map}
use Rattle.lists.specs.Lists.{push, keep, All}
use Rattle.lists.specs.Facts.{All-map, All-append}
use Rattle.lists.specs.Keep.{All-keep}
use Rattle.regrouping.specs.Regrouped.{mine, others, least, tails, by_number, weave, regrouped}

module _ {E F : Type 0} (f : E → F) where
  -- where two tests agree, what is kept of the images is the images of what is kept
  map_kept : (p : E → Bool) (q : F → Bool) (l : List E) → All (λ x. q (f x) ≡ p x) l → map f (keep p l) ≡ keep q (map f l)
  map_kept p q [] h = refl
  map_kept p q (x ∷ l) h = rw h.0 (go (p x) (map_kept p q l h.1))
    where
      go : (b : Bool) → map f (keep p l) ≡ keep q (map f l) → map f (push b x (keep p l)) ≡ push b (f x) (keep q (map f l))
      go true e = ap (λ m. f x ∷ m) e
      go false e = e

  module _ (own : E → ℕ) (own' : F → ℕ) where
    -- the map keeps an entry's machine
    abbrev Owns : E → Type 0
    Owns x = own' (f x) ≡ own x

    -- the entries of a machine
    pub map_mine : (k : ℕ) (l : List E) → All Owns l → map f (mine own k l) ≡ mine own' k (map f l)
    map_mine k l h = map_kept _ _ l (All-map _ _ l (λ x e. ap (λ n. eqb n k) e) h)

    -- the entries of the others
    pub map_others : (k : ℕ) (l : List E) → All Owns l → map f (others own k l) ≡ others own' k (map f l)
    map_others k l h = map_kept _ _ l (All-map _ _ l (λ x e. ap (λ n. not (eqb n k)) e) h)

    -- the least number
    map_least : (x : E) (u : List E) → All Owns (x ∷ u) → least own' (f x) (map f u) ≡ least own x u
    map_least x [] h = h.0
    map_least x (y ∷ u) h = rw (h.0, map_least y u h.1)

    -- the entries machine by machine, up to n machines
    map_tails : (n : ℕ) (u : List E) → All Owns u → map f (tails own n u) ≡ tails own' n (map f u)
    unfolding tails
    map_tails zero u h = refl
    map_tails (suc n) [] h = refl
    map_tails (suc n) (x ∷ u) h = map-append f (mine own j (x ∷ u)) _
        ∙ ap (λ m. m ++ map f (tails own n (others own j (x ∷ u)))) (map_mine j (x ∷ u) h)
        ∙ ap (λ t. mine own' j (map f (x ∷ u)) ++ t) (map_tails n (others own j (x ∷ u)) (All-keep _ (λ y. not (eqb (own y) j)) (x ∷ u) h) ∙ ap (tails own' n) (map_others j (x ∷ u) h))
        ∙ ap (λ i. mine own' i (map f (x ∷ u)) ++ tails own' n (others own' i (map f (x ∷ u)))) (sym (map_least x u h))
      where
        j : ℕ
        j = least own x u

    -- the entries machine by machine
    pub map_by_number : (u : List E) → All Owns u → map f (by_number own u) ≡ by_number own' (map f u)
    map_by_number u h = map_tails (length u) u h ∙ ap (λ n. tails own' n (map f u)) (sym (length-map u f))

    module _ (meet : E → Bool) (meet' : F → Bool) where
      -- the map keeps whether an entry is a meeting
      abbrev Meets : E → Type 0
      Meets x = meet' (f x) ≡ meet x

      -- what is written from a place of the list on
      map_weave : (k : ℕ) (u l : List E) → All Owns u → All Owns l → All Meets l → map f (weave own meet k u l) ≡ weave own' meet' k (map f u) (map f l)
      unfolding weave
      map_weave k u [] h o m = map-append f (by_number own (others own k u)) (mine own k u)
          ∙ ap (λ t. t ++ map f (mine own k u)) (map_by_number (others own k u) (All-keep _ (λ y. not (eqb (own y) k)) u h) ∙ ap (by_number own') (map_others k u h))
          ∙ ap (λ t. by_number own' (others own' k (map f u)) ++ t) (map_mine k u h)
      map_weave k u (x ∷ l) h o m = rw (m.0, o.0) (go (meet x)
          (map_weave k (others own (own x) u) l (All-keep _ (λ y. not (eqb (own y) (own x))) u h) o.1 m.1)
          (map_weave k (u ++ x ∷ []) l (All-append _ u (x ∷ []) h (o.0, tt)) o.1 m.1))
        where
          rest : List E
          rest = others own (own x) u

          go : (b : Bool) → map f (weave own meet k rest l) ≡ weave own' meet' k (map f rest) (map f l) →
              map f (weave own meet k (u ++ x ∷ []) l) ≡ weave own' meet' k (map f (u ++ x ∷ [])) (map f l) →
              map f (cond b (mine own (own x) u ++ x ∷ weave own meet k rest l) (weave own meet k (u ++ x ∷ []) l))
              ≡ cond b (mine own' (own x) (map f u) ++ f x ∷ weave own' meet' k (others own' (own x) (map f u)) (map f l)) (weave own' meet' k (map f u ++ f x ∷ []) (map f l))
          go true p q = map-append f (mine own (own x) u) (x ∷ weave own meet k rest l) ∙ ap (λ t. t ++ f x ∷ map f (weave own meet k rest l)) (map_mine (own x) u h)
              ∙ ap (λ t. mine own' (own x) (map f u) ++ f x ∷ t) (p ∙ ap (λ r. weave own' meet' k r (map f l)) (map_others (own x) u h))
          go false p q = q ∙ ap (λ r. weave own' meet' k r (map f l)) (map-append f u (x ∷ []))

      -- THE LAW, for entries of which each keeps its machine and its class
      pub map_regrouped : (k : ℕ) (l : List E) → All Owns l → All Meets l → map f (regrouped own meet k l) ≡ regrouped own' meet' k (map f l)
      map_regrouped k l o m = map_weave k [] l tt o m
