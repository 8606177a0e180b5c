-- A test of every number from 1 to n, as a loop makes it from 1 on; and a test of some row of a table.
use Rattle.std.specs.Prelude.{ℕ, zero, suc, ◌+◌, ◌≤◌, ◌<◌, ◌≡◌, refl, Bool, true, false, List, [], ◌∷◌, length, get_or}
use Rattle.std.proofs.Math.Logic.{dite}
use Rattle.std.proofs.Math.Decide.{ℕ_discrete}
use Rattle.std.proofs.Common.{arith, below_more}
use Rattle.lists.specs.Lists.{up_to, any}
use Rattle.lists.specs.Facts.{and_fails}

module _ (f : ℕ → Bool) where
  -- one number more
  pub up_more : (k : ℕ) → up_to k f ≡ true → f (k + 1) ≡ true → up_to (k + 1) f ≡ true
  up_more k h t = let e : k + 1 ≡ suc k = omega arith in rw e (rw (rw e at t) h)

  -- every number passes
  pub up_passes : (n : ℕ) → ((k : ℕ) → 1 ≤ k → k ≤ n → f k ≡ true) → up_to n f ≡ true
  up_passes zero h = refl
  up_passes (suc n) h = rw (h (suc n) (omega arith) (omega arith), up_passes n (λ k a b. h k a (omega arith)))

  -- one that does not pass
  pub up_fails : (n k : ℕ) → k < n → f (k + 1) ≡ false → up_to n f ≡ false
  up_fails zero k h t = absurd (omega arith)
  up_fails (suc n) k h t = dite (ℕ_discrete k n)
      (λ q. let e : k + 1 ≡ suc n = omega arith in rw (rw e at t))
      (λ q. and_fails (f (suc n)) (up_to n f) (up_fails n k (omega arith) t))

module _ {A : Type 0} (f : A → Bool) (d : A) where
  -- none of the first i passes: what a loop keeps
  abbrev pub NoneOf : List A → ℕ → Type 0
  NoneOf l i = (j : ℕ) → j < i → f (get_or l j d) ≡ false

  -- with one more
  pub none_more : (l : List A) (i : ℕ) → NoneOf l i → f (get_or l i d) ≡ false → NoneOf l (i + 1)
  none_more l i h t = below_more (λ j. f (get_or l j d) ≡ false) i h t

  -- none passes
  pub any_none : (l : List A) (i : ℕ) → length l ≤ i → NoneOf l i → any f l ≡ false
  any_none [] i e h = refl
  any_none (x ∷ l) i e h = rw (h 0 (omega arith)) (any_none l (length l) (omega arith) (λ j b. h (suc j) (omega arith)))
