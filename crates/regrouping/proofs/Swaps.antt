-- What regrouping gives changes machine only where it may.
use Prim.Native.Nat.{ℕ, zero, suc}
use Rattle.std.specs.Prelude.{◌≡◌, ◌≢◌}
use Rattle.std.proofs.Math.Path.{refl}
use Rattle.std.proofs.Common.{sym, subst, ◌∙◌, inl, inr}
use mathlib.Core.Bool.{Bool, true, false, not, cond}
use mathlib.Core.List.{List, [], ◌∷◌, ◌++◌, append_assoc}
use Rattle.std.proofs.Math.Dec.{eqb}
use Rattle.lists.specs.Lists.{All}
use Rattle.lists.specs.Facts.{All-append, All-map}
use Rattle.lists.specs.Keep.{All-keep}
use Rattle.regrouping.specs.Regrouped.{mine, others, least, tails, weave}
use Rattle.regrouping.specs.Tails.{mine_own, others_own, absent, least_is, tails_all}
use Rattle.regrouping.specs.Swaps.{Calm, Tidy}

module _ {E : Type 0} (own : E → ℕ) where
  module _ (meet : E → Bool) where
    -- entries of one machine, up to a meeting
    tidy_meeting : (x : E) (b r : List E) → meet x ≡ true → All (λ y. own y ≡ own x) b → Tidy own meet r → Tidy own meet (b ++ x ∷ r)
    tidy_meeting x [] r e h t = (calm r, t)
      where
        calm : (r : List E) → Calm own meet x r
        calm [] = tt
        calm (y ∷ r) = inr (inl e)
    tidy_meeting x (a ∷ []) r e h t = (inl h.0, tidy_meeting x [] r e tt t)
    tidy_meeting x (a ∷ b ∷ l) r e h t = (inl (h.0 ∙ sym h.1.0), tidy_meeting x (b ∷ l) r e h.1 t)

    -- entries of one machine, of which none comes later
    tidy_tail : (k : ℕ) (b r : List E) → All (λ y. own y ≡ k) b → mine own k r ≡ [] → Tidy own meet r → Tidy own meet (b ++ r)
    tidy_tail k [] r h e t = t
    tidy_tail k (a ∷ []) r h e t = (calm r e, t)
      where
        calm : (r : List E) → mine own k r ≡ [] → Calm own meet a r
        calm [] e = tt
        calm (y ∷ r) e = inr (inr (subst (λ (n : ℕ). mine own n (y ∷ r) ≡ []) (sym h.0) e))
    tidy_tail k (a ∷ b ∷ l) r h e t = (inl (h.0 ∙ sym h.1.0), tidy_tail k (b ∷ l) r h.1 e t)

    -- entries of one machine, to the end
    tidy_end : (k : ℕ) (b : List E) → All (λ y. own y ≡ k) b → Tidy own meet b
    tidy_end k [] h = tt
    tidy_end k (a ∷ []) h = (tt, tt)
    tidy_end k (a ∷ b ∷ l) h = (inl (h.0 ∙ sym h.1.0), tidy_end k (b ∷ l) h.1)

    -- entries of machines other than k, machine by machine, and behind them entries of k to the end
    tidy_tails : (k n : ℕ) (u r : List E) → All (λ y. own y ≢ k) u → All (λ y. own y ≡ k) r → Tidy own meet (tails own n u ++ r)
    unfolding tails
    tidy_tails k zero u r h e = tidy_end k r e
    tidy_tails k (suc n) [] r h e = tidy_end k r e
    tidy_tails k (suc n) (x ∷ u) r h e = rw append_assoc (tidy_tail j (mine own j (x ∷ u)) (tails own n rest ++ r) (mine_own own j (x ∷ u))
        (absent own j (tails own n rest ++ r) (All-append _ (tails own n rest) r (tails_all own _ n rest (others_own own j (x ∷ u)))
        (All-map _ _ r (λ y q p. least_is own (λ m. m ≢ k) x u h (sym p ∙ q)) e)))
        (tidy_tails k n rest r (All-keep _ (λ y. not (eqb (own y) j)) (x ∷ u) h) e))
      where
        j : ℕ
        j = least own x u

        rest : List E
        rest = others own j (x ∷ u)

    -- The regrouped list changes machine only straight after a meeting or after a machine's last entry.
    pub tidy_weave : (z : E) (l u : List E) → Tidy own meet (weave own meet (own z) u l ++ z ∷ [])
    unfolding weave
    tidy_weave z [] u = rw append_assoc (tidy_tails (own z) _ (others own (own z) u) (mine own (own z) u ++ z ∷ []) (others_own own (own z) u)
        (All-append _ (mine own (own z) u) (z ∷ []) (mine_own own (own z) u) (refl, tt)))
    tidy_weave z (x ∷ l) u = go (meet x) refl (tidy_weave z l (others own (own x) u)) (tidy_weave z l (u ++ x ∷ []))
      where
        go : (b : Bool) → meet x ≡ b → Tidy own meet (weave own meet (own z) (others own (own x) u) l ++ z ∷ []) → Tidy own meet (weave own meet (own z) (u ++ x ∷ []) l ++ z ∷ []) →
            Tidy own meet (cond b (mine own (own x) u ++ x ∷ weave own meet (own z) (others own (own x) u) l) (weave own meet (own z) (u ++ x ∷ []) l) ++ z ∷ [])
        go true e s t = rw append_assoc (tidy_meeting x (mine own (own x) u) _ e (mine_own own (own x) u) s)
        go false e s t = t
