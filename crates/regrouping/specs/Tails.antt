-- Laws of the entries of one machine, of those of the others, and of the entries machine by machine.
use Prim.Native.Nat.{ℕ, zero, suc, ◌≤◌}
use Rattle.std.specs.Prelude.{◌≡◌, ◌≢◌, Bool, true, false, length}
use Rattle.std.proofs.Math.Path.{refl, sym, ap}
use Rattle.std.proofs.Math.Bool.{not}
use mathlib.Core.List.{List, [], ◌∷◌, ◌++◌}
use native.Mathlib.Omega.{arith, min_cases}
use Rattle.std.proofs.Common.{eqb-true, ne_eqb}
use Rattle.std.proofs.lemmas.Bool.{eqb-false, not-true}
use Rattle.std.proofs.Math.Dec.{eqb}
use Rattle.lists.specs.Lists.{push, All}
use Rattle.lists.specs.Facts.{eqb_same, All-append, All-map}
use Rattle.lists.specs.Keep.{All-keep, All-kept, keep_none, keep_length}
use Rattle.regrouping.specs.Regrouped.{mine, others, least, tails, by_number}

module _ {E : Type 0} (own : E → ℕ) where
  -- the entries of machine k are its own
  pub mine_own : (k : ℕ) (l : List E) → All (λ y. own y ≡ k) (mine own k l)
  mine_own k l = All-map _ _ (mine own k l) (λ y e. eqb-true (own y) k e) (All-kept _ l)

  -- those of the others are not
  pub others_own : (k : ℕ) (l : List E) → All (λ y. own y ≢ k) (others own k l)
  others_own k l = All-map _ _ (others own k l) (λ y e. eqb-false (own y) k (not-true _ e)) (All-kept _ l)

  -- a machine that has no entry
  pub absent : (k : ℕ) (l : List E) → All (λ y. own y ≢ k) l → mine own k l ≡ []
  absent k l h = keep_none _ l (All-map _ _ l (λ y d. ne_eqb (own y) k d) h)

  -- What holds of every entry's number holds of the least one.
  pub least_is : (P : ℕ → Type 0) (x : E) (u : List E) → All (λ y. P (own y)) (x ∷ u) → P (least own x u)
  least_is P x [] h = h.0
  least_is P x (y ∷ u) h = min_cases (own x) (least own y u) _ (λ a e. rw e h.0) (λ a e. rw e (least_is P y u h.1))

  -- Without the least machine's entries the list is shorter.
  pub others_shorter : (k : ℕ) (x : E) (u : List E) → least own x u ≡ k → length (others own k (x ∷ u)) ≤ length u
  others_shorter k x [] e = rw (e, eqb_same) (omega arith)
  others_shorter k x (y ∷ u) e = go (eqb (own x) k) refl (others_shorter k y u)
    where
      go : (b : Bool) → eqb (own x) k ≡ b → (least own y u ≡ k → length (others own k (y ∷ u)) ≤ length u) → length (push (not b) x (others own k (y ∷ u))) ≤ length (y ∷ u)
      go true f h = keep_length (λ z. not (eqb (own z) k)) (y ∷ u)
      go false f h = let s = h (omega (arith, eqb-false (own x) k f)) in omega arith

  -- What holds of every entry holds of every entry machine by machine.
  pub tails_all : (P : E → Type 0) (n : ℕ) (u : List E) → All P u → All P (tails own n u)
  unfolding tails
  tails_all P zero u h = tt
  tails_all P (suc n) [] h = tt
  tails_all P (suc n) (x ∷ u) h = All-append P (mine own (least own x u) (x ∷ u)) _ (All-keep P (λ y. eqb (own y) (least own x u)) (x ∷ u) h)
      (tails_all P n _ (All-keep P (λ y. not (eqb (own y) (least own x u))) (x ∷ u) h))

  -- where no entry is, none comes
  tails_empty : (n : ℕ) → tails own n [] ≡ []
  unfolding tails
  tails_empty zero = refl
  tails_empty (suc n) = refl

  -- two bounds that are both great enough
  tails_enough : (m n : ℕ) (u : List E) → length u ≤ m → length u ≤ n → tails own m u ≡ tails own n u
  unfolding tails
  tails_enough zero n [] h k = sym (tails_empty n)
  tails_enough zero n (x ∷ u) h k = absurd (omega arith)
  tails_enough (suc m) n [] h k = sym (tails_empty n)
  tails_enough (suc m) zero (x ∷ u) h k = absurd (omega arith)
  tails_enough (suc m) (suc n) (x ∷ u) h k = let s = others_shorter _ x u refl in ap (λ t. mine own (least own x u) (x ∷ u) ++ t)
      (tails_enough m n (others own (least own x u) (x ∷ u)) (omega arith) (omega arith))

  -- Where n is at least the number of entries, the list does not depend on n.
  pub tails_ascend : (n : ℕ) (u : List E) → length u ≤ n → tails own n u ≡ by_number own u
  tails_ascend n u h = tails_enough n (length u) u h (omega arith)
