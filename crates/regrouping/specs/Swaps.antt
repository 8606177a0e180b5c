-- Regrouping moves private entries back past entries of other machines, and does nothing else; and what it is to change machine only where one may.
use Prim.Native.Nat.{ℕ, zero, suc, ◌≤◌}
use Rattle.std.specs.Prelude.{◌≡◌, ◌≢◌, ◌⊎◌, length}
use Rattle.std.proofs.Math.Path.{refl}
use Rattle.std.proofs.Common.{sym, ap, ◌∙◌, arith, eqb-true}
use mathlib.Core.Bool.{Bool, true, false, not, cond, not-not}
use mathlib.Core.List.Permᴰ
use mathlib.Core.List.{List, [], ◌∷◌, ◌++◌, append_assoc, append-nil, Permᴰ}
use Rattle.std.proofs.Math.Dec.{eqb}
use Rattle.lists.specs.Lists.{push, keep, All}
use Rattle.lists.specs.Facts.{All-append, All-map}
use Rattle.lists.specs.Keep.{All-keep, All-kept, All-both}
use Rattle.regrouping.specs.Regrouped.{mine, others, least, tails, weave}
use Rattle.regrouping.specs.Tails.{others_own, others_shorter}

module _ {E : Type 0} (own : E → ℕ) where
  -- Two lists of which the second arises from the first by moving private entries back past entries of other machines.
  pub data Swaps (meet : E → Bool) : List E → List E → Type 0 where
    none : {l : List E} → Swaps meet l l
    after : {x : E} {l m : List E} → Swaps meet l m → Swaps meet (x ∷ l) (x ∷ m)
    swap : {x y : E} {l : List E} → meet x ≡ false → own x ≢ own y → Swaps meet (x ∷ y ∷ l) (y ∷ x ∷ l)
    and_then : {l m n : List E} → Swaps meet l m → Swaps meet m n → Swaps meet l n

  module _ (meet : E → Bool) where
    -- the same moves with more before, and with more behind
    swaps_before : (p : List E) {l m : List E} → Swaps meet l m → Swaps meet (p ++ l) (p ++ m)
    swaps_before [] s = s
    swaps_before (x ∷ p) s = after (swaps_before p s)

    pub swaps_behind : {l m : List E} (r : List E) → Swaps meet l m → Swaps meet (l ++ r) (m ++ r)
    swaps_behind r none = none
    swaps_behind r (after s) = after (swaps_behind r s)
    swaps_behind r (swap p d) = swap p d
    swaps_behind r (and_then s t) = and_then (swaps_behind r s) (swaps_behind r t)

    -- a private entry moves back past entries of other machines
    back : (x : E) (l r : List E) → meet x ≡ false → All (λ y. own x ≢ own y) l → Swaps meet (x ∷ (l ++ r)) (l ++ x ∷ r)
    back x [] r p h = none
    back x (y ∷ l) r p h = and_then (swap p h.0) (after (back x l r p h.1))

    -- an entry moves forward past private entries of other machines
    front : (x : E) (l r : List E) → All (λ y. (meet y ≡ false) × (own y ≢ own x)) l → Swaps meet (l ++ x ∷ r) (x ∷ (l ++ r))
    front x [] r h = none
    front x (y ∷ l) r h = and_then (after (front x l r h.1)) (swap h.0.0 h.0.1)

    -- private entries, sorted in two by a test of the machine
    part : (p : ℕ → Bool) (l : List E) → All (λ y. meet y ≡ false) l → Swaps meet l (keep (λ x. p (own x)) l ++ keep (λ x. not (p (own x))) l)
    part p [] h = none
    part p (x ∷ l) h = go (p (own x)) refl (part p l h.1)
      where
        yes' : List E
        yes' = keep (λ y. p (own y)) l

        no' : List E
        no' = keep (λ y. not (p (own y))) l

        apart : p (own x) ≡ false → (y : E) → p (own y) ≡ true → own x ≢ own y
        apart e y f q = mathlib.Core.Bool.true≢false (sym f ∙ rw q at e)

        go : (b : Bool) → p (own x) ≡ b → Swaps meet l (yes' ++ no') → Swaps meet (x ∷ l) (push b x yes' ++ push (not b) x no')
        go true e s = after s
        go false e s = and_then (after s) (back x yes' no' h.0 (All-map _ _ yes' (apart e) (All-kept (λ y. p (own y)) l)))

    -- the others first, then machine k's
    part_last : (k : ℕ) (l : List E) → All (λ y. meet y ≡ false) l → Swaps meet l (others own k l ++ mine own k l)
    part_last k l h = simp not-not at (part (λ n. not (eqb n k)) l h)

    -- private entries, machine by machine
    swaps_tails : (n : ℕ) (u : List E) → length u ≤ n → All (λ y. meet y ≡ false) u → Swaps meet u (tails own n u)
    unfolding tails
    swaps_tails zero [] h p = none
    swaps_tails zero (x ∷ u) h p = absurd (omega arith)
    swaps_tails (suc n) [] h p = none
    swaps_tails (suc n) (x ∷ u) h p = let s = others_shorter own j x u refl in and_then (part (λ m. eqb m j) (x ∷ u) p)
        (swaps_before (mine own j (x ∷ u)) (swaps_tails n (others own j (x ∷ u)) (omega arith) (All-keep _ (λ y. not (eqb (own y) j)) (x ∷ u) p)))
      where
        j : ℕ
        j = least own x u

    -- Regrouping moves private entries back past entries of other machines, and does nothing else.
    pub swaps_weave : (k : ℕ) (l u : List E) → All (λ y. meet y ≡ false) u → Swaps meet (u ++ l) (weave own meet k u l)
    unfolding weave
    swaps_weave k [] u p = rw append-nil (and_then (part_last k u p)
        (swaps_behind (mine own k u) (swaps_tails (length (others own k u)) (others own k u) (omega arith) (All-keep _ _ u p))))
    swaps_weave k (x ∷ l) u p = go (meet x) refl (swaps_weave k l (others own (own x) u) (All-keep _ _ u p))
        (λ (e : meet x ≡ false). swaps_weave k l (u ++ x ∷ []) (All-append _ u (x ∷ []) p (e, tt)))
      where
        go : (b : Bool) → meet x ≡ b → Swaps meet (others own (own x) u ++ l) (weave own meet k (others own (own x) u) l) →
            (meet x ≡ false → Swaps meet ((u ++ x ∷ []) ++ l) (weave own meet k (u ++ x ∷ []) l)) →
            Swaps meet (u ++ x ∷ l) (cond b (mine own (own x) u ++ x ∷ weave own meet k (others own (own x) u) l) (weave own meet k (u ++ x ∷ []) l))
        go true e s t = and_then (swaps_behind (x ∷ l) (part (λ n. eqb n (own x)) u p)) (rw (← append_assoc (mine own (own x) u) (others own (own x) u) (x ∷ l)) at
            (swaps_before (mine own (own x) u) (and_then (front x (others own (own x) u) l
            (All-both _ _ (others own (own x) u) (All-keep _ _ u p) (others_own own (own x) u))) (after s))))
        go false e s t = rw append_assoc at (t e)

    -- each machine's entries keep their order
    pub swaps_mine : (k : ℕ) {l m : List E} → Swaps meet l m → mine own k m ≡ mine own k l
    swaps_mine k none = refl
    swaps_mine k (after s) = rw (swaps_mine k s)
    swaps_mine k (swap {x = x} {y = y} {l = l} p d) = go (eqb (own x) k) refl (eqb (own y) k) refl
      where
        go : (a : Bool) → eqb (own x) k ≡ a → (b : Bool) → eqb (own y) k ≡ b → push b y (push a x (mine own k l)) ≡ push a x (push b y (mine own k l))
        go true e true f = absurd (d (eqb-true (own x) k e ∙ sym (eqb-true (own y) k f)))
        go true e false f = refl
        go false e true f = refl
        go false e false f = refl
    swaps_mine k (and_then s t) = swaps_mine k t ∙ swaps_mine k s

    -- the same entries
    pub swaps_perm : {l m : List E} → Swaps meet l m → Permᴰ l m
    swaps_perm (none {l = l}) = Permᴰ.refl l
    swaps_perm (after s) = Permᴰ.cons refl (swaps_perm s)
    swaps_perm (swap p d) = Permᴰ.swap refl refl
    swaps_perm (and_then s t) = Permᴰ.trans (swaps_perm s) (swaps_perm t)

    -- as many entries
    pub swaps_length : {l m : List E} → Swaps meet l m → length m ≡ length l
    swaps_length none = refl
    swaps_length (after s) = ap suc (swaps_length s)
    swaps_length (swap p d) = refl
    swaps_length (and_then s t) = swaps_length t ∙ swaps_length s

    -- From a to what comes behind it the machine stays, or a is a meeting, or a is its machine's last entry.
    abbrev pub Calm : E → List E → Type 0
    Calm a [] = Unit {0}
    Calm a (b ∷ l) = (own a ≡ own b) ⊎ ((meet a ≡ true) ⊎ (mine own (own a) (b ∷ l) ≡ []))

    -- so from every entry of the list
    abbrev pub Tidy : List E → Type 0
    Tidy [] = Unit {0}
    Tidy (a ∷ l) = Calm a l × Tidy l

    -- so in its midst
    pub tidy_at : (l : List E) (a : E) (r : List E) → Tidy (l ++ a ∷ r) → Calm a r
    tidy_at [] a r t = t.0
    tidy_at (x ∷ l) a r t = tidy_at l a r t.1
