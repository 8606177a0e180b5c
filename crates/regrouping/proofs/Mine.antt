-- Laws of the entries of one machine and of those of the others, beside those of specs/Tails.antt: the next machine by number.
use Prim.Native.Nat.{ℕ, ◌≤◌, ◌<◌}
use Rattle.std.specs.Prelude.{◌≡◌, ◌≢◌, Bool, true, false, not, eqb, ltb, length}
use Rattle.std.proofs.Math.Path.{refl}
use Rattle.std.proofs.Common.{sym, ap, ◌∙◌, arith, eqb-true, ltb-true, ltb-false}
use mathlib.Core.List.{List, [], ◌∷◌, ◌++◌, cons-ne-nil}
use Rattle.std.proofs.lemmas.Bool.{eqb-false}
use Rattle.lists.specs.Lists.{push, All}
use Rattle.lists.specs.Facts.{All-map}
use Rattle.regrouping.specs.Regrouped.{mine, others, least, tails, by_number}
use Rattle.regrouping.specs.Tails.{absent, least_is, others_shorter, tails_ascend}

module _ {E : Type 0} (own : E → ℕ) where
  -- a machine that has no entry leaves the others as they are
  others_none : (k : ℕ) (l : List E) → mine own k l ≡ [] → others own k l ≡ l
  others_none k [] h = refl
  others_none k (x ∷ l) h = go (eqb (own x) k) refl h (others_none k l)
    where
      go : (b : Bool) → eqb (own x) k ≡ b → push b x (mine own k l) ≡ [] → (mine own k l ≡ [] → others own k l ≡ l) → push (not b) x (others own k l) ≡ x ∷ l
      go true e h ih = absurd (cons-ne-nil x (mine own k l) h)
      go false e h ih = ap (λ m. x ∷ m) (ih h)

  -- where a machine has no entry, every entry is another's
  mine_none : (k : ℕ) (l : List E) → mine own k l ≡ [] → All (λ y. own y ≢ k) l
  mine_none k [] h = tt
  mine_none k (x ∷ l) h = go (eqb (own x) k) refl h (mine_none k l)
    where
      go : (b : Bool) → eqb (own x) k ≡ b → push b x (mine own k l) ≡ [] → (mine own k l ≡ [] → All (λ y. own y ≢ k) l) → All (λ y. own y ≢ k) (x ∷ l)
      go true e h ih = absurd (cons-ne-nil x (mine own k l) h)
      go false e h ih = (eqb-false (own x) k e, ih h)

  -- no entry has a number below the least one
  least_below : (x : E) (u : List E) → All (λ y. least own x u ≤ own y) (x ∷ u)
  least_below x [] = (omega arith, tt)
  least_below x (y ∷ u) = (omega arith, All-map _ _ (y ∷ u) (λ z h. omega arith) (least_below y u))

  -- The entries machine by machine, where no machine below k has one: k's come first, if there are any.
  pub by_number_next : (k : ℕ) (u : List E) → ((j : ℕ) → j < k → mine own j u ≡ []) → by_number own u ≡ mine own k u ++ by_number own (others own k u)
  unfolding tails
  by_number_next k [] h = refl
  by_number_next k (x ∷ u) h = go (eqb j k) refl
    where
      j : ℕ
      j = least own x u

      -- the least number is a machine's that has an entry
      not_below : j < k → ⊥
      not_below l = least_is own (λ n. n ≢ j) x u (mine_none j (x ∷ u) (h j l)) refl

      other : j ≢ k → All (λ y. own y ≢ k) (x ∷ u)
      other d = All-map _ _ (x ∷ u) (λ y l e. by (ltb j k) refl l e) (least_below x u)
        where
          by : {y : E} (b : Bool) → ltb j k ≡ b → j ≤ own y → own y ≡ k → ⊥
          by true p l e = not_below (ltb-true j k p)
          by false p l e = d (omega (arith, ltb-false j k p))

      go : (b : Bool) → eqb j k ≡ b → by_number own (x ∷ u) ≡ mine own k (x ∷ u) ++ by_number own (others own k (x ∷ u))
      go true e = let is = eqb-true j k e in
          ap (λ i. mine own i (x ∷ u) ++ tails own (length u) (others own i (x ∷ u))) is
          ∙ ap (λ t. mine own k (x ∷ u) ++ t) (tails_ascend own (length u) (others own k (x ∷ u)) (others_shorter own k x u is))
      go false e = let gone = absent own k (x ∷ u) (other (eqb-false j k e)) in
          sym (ap (λ m. m ++ by_number own (others own k (x ∷ u))) gone ∙ ap (by_number own) (others_none k (x ∷ u) gone))
