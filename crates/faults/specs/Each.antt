-- A check of every element of a list, tested in a loop: it is passed where every place passes, and not where one does not.
use Rattle.std.specs.Prelude.{ℕ, zero, suc, ◌+◌, ◌<◌, ◌≡◌, refl, Bool, true, false, List, [], ◌∷◌, length, get_or}
use Rattle.std.proofs.Common.{arith, below_more}
use Rattle.lists.specs.Facts.{and_fails}
use Rattle.lists.specs.Check.{Check, each}

-- a check that does not hold does not pass its test
pub fails : (c : Check) → (c.Holds → ⊥) → c.test ≡ false
fails c n = go c.test refl
  where
    go : (b : Bool) → c.test ≡ b → b ≡ false
    go true e = absurd (n (c.tells.holds e))
    go false e = refl

module _ {A : Type 0} (f : A → Check) (d : A) where
  -- the first i places pass: what a loop over a list keeps
  abbrev pub Passing : List A → ℕ → Type 0
  Passing l i = (j : ℕ) → j < i → (f (get_or l j d)).test ≡ true

  -- with one place more
  pub passing_more : (l : List A) (i : ℕ) → Passing l i → (f (get_or l i d)).test ≡ true → Passing l (i + 1)
  passing_more l i h t = below_more (λ j. (f (get_or l j d)).test ≡ true) i h t

  -- every place passes
  pub each_passes : (l : List A) (i : ℕ) → i ≡ length l → Passing l i → (each f l).test ≡ true
  each_passes [] i e h = refl
  each_passes (x ∷ l) i e h = rw (h 0 (omega arith)) (each_passes l (length l) refl (λ j b. h (suc j) (omega arith)))

  -- one place does not
  pub each_fails : (l : List A) (i : ℕ) → i < length l → (f (get_or l i d)).test ≡ false → (each f l).test ≡ false
  each_fails [] i h t = absurd (omega arith)
  each_fails (x ∷ l) zero h t = rw t
  each_fails (x ∷ l) (suc i) h t = and_fails (f x).test _ (each_fails l i (omega arith) t)
