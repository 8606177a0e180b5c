-- Laws of the entries of one machine and of those of the others, beside those of specs/Tails.antt: one entry more behind the list.
use Prim.Native.Nat.{ℕ}
use Rattle.std.specs.Prelude.{◌≡◌, ◌≢◌, Bool, true, false, not, eqb}
use Rattle.std.proofs.Math.Path.{refl}
use Rattle.std.proofs.Common.{sym, ap, ◌∙◌, eqb-true, eq-eqb, ne_eqb}
use mathlib.Core.List.{List, [], ◌∷◌, ◌++◌, append-nil, cons-ne-nil}
use Rattle.lists.specs.Lists.{push}
use Rattle.lists.specs.Facts.{eqb_same}
use Rattle.lists.specs.Keep.{keep_append}
use Rattle.regrouping.specs.Regrouped.{mine, others}
use Rattle.regrouping.specs.Tails.{others_own, absent}

module _ {E : Type 0} (own : E → ℕ) where
  -- an entry of the machine, behind the list
  pub mine_with : (k : ℕ) (l : List E) (x : E) → own x ≡ k → mine own k (l ++ x ∷ []) ≡ mine own k l ++ x ∷ []
  mine_with k l x e = rw (keep_append, eq-eqb (own x) k e)

  -- an entry of another
  pub mine_without : (k : ℕ) (l : List E) (x : E) → own x ≢ k → mine own k (l ++ x ∷ []) ≡ mine own k l
  mine_without k l x d = rw (keep_append, ne_eqb (own x) k d, append-nil)

  -- one machine's entries among those of all but another
  pub mine_others : (j k : ℕ) (l : List E) → j ≢ k → mine own j (others own k l) ≡ mine own j l
  mine_others j k [] d = refl
  mine_others j k (x ∷ l) d = go (eqb (own x) k) refl (mine_others j k l d)
    where
      go : (b : Bool) → eqb (own x) k ≡ b → mine own j (others own k l) ≡ mine own j l → mine own j (push (not b) x (others own k l)) ≡ push (eqb (own x) j) x (mine own j l)
      go true e h = rw (ne_eqb (own x) j (λ q. d (sym q ∙ eqb-true (own x) k e))) h
      go false e h = ap (push (eqb (own x) j) x) h

  -- and its own among the others'
  pub mine_gone : (k : ℕ) (l : List E) → mine own k (others own k l) ≡ []
  mine_gone k l = absent own k (others own k l) (others_own own k l)

  -- where no machine has an entry, there is none
  pub none_left : (l : List E) → ((k : ℕ) → mine own k l ≡ []) → l ≡ []
  none_left [] h = refl
  none_left (x ∷ l) h = absurd (cons-ne-nil x (mine own (own x) l) (rw (eqb_same (own x)) at (h (own x))))
