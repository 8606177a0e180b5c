-- What a state defers is ascending; and the variables of an init list are where each is below the next.
use Rattle.std.specs.Prelude.{ℕ, zero, suc, ◌+◌, ◌-◌, ◌≤◌, ◌<◌, ◌≡◌, refl, Bool, true, false, List, [], ◌∷◌, ltb, length, get_or}
use Rattle.std.proofs.Common.{sym, arith, lt-ltb, below_more}
use Rattle.lists.specs.Lists.{keep, push, All}
use Rattle.lists.specs.Facts.{and_fails}
use Rattle.lists.specs.Keep.{All-keep}
use Rattle.rows.specs.Seek.{table}
use Rattle.programs.specs.Sizes.{EVENTS}
use Rattle.tables.specs.Decode.{flag, defer_of}
use Rattle.tables.specs.Numbered.{table_all}
use Rattle.soundness.specs.Asked.{ascending}
use Rattle.faults.specs.Ranges.{EachOf}

-- a number below all of an ascending list in front of it
ascends : (x : ℕ) (l : List ℕ) → All (λ y. x < y) l → ascending l ≡ true → ascending (x ∷ l) ≡ true
ascends x [] h e = refl
ascends x (y ∷ l) h e = rw (lt-ltb x y h.0) e

-- those of them that pass are ascending
kept_ascends : (f : ℕ → Bool) (k n : ℕ) → ascending (keep f (table (λ e. e) k n)) ≡ true
unfolding table
kept_ascends f k zero = refl
kept_ascends f k (suc n) = go (f k) (kept_ascends f (k + 1) n)
  where
    go : (b : Bool) → ascending (keep f (table (λ e. e) (k + 1) n)) ≡ true → ascending (push b k (keep f (table (λ e. e) (k + 1) n))) ≡ true
    go true h = ascends k (keep f (table (λ e. e) (k + 1) n)) (All-keep (λ y. k < y) f (table (λ e. e) (k + 1) n) (table_all (λ y. k < y) (λ e. e) (k + 1) n (λ y a b. omega arith))) h
    go false h = h

-- what a state defers is
pub defer_ascends : (flags : List ℕ) (n : ℕ) → ascending (defer_of flags n) ≡ true
unfolding defer_of
defer_ascends flags n = kept_ascends (flag flags n) 1 EVENTS

-- each of the first i is below the next: what a loop keeps
abbrev pub Rising : List ℕ → ℕ → Type 0
Rising l i = (j : ℕ) → j < i → ltb (get_or l j 0) (get_or l (j + 1) 0) ≡ true

-- with one more
pub rising_more : (l : List ℕ) (i : ℕ) → Rising l i → ltb (get_or l i 0) (get_or l (i + 1) 0) ≡ true → Rising l (i + 1)
rising_more l i h t = below_more (λ j. ltb (get_or l j 0) (get_or l (j + 1) 0) ≡ true) i h t

-- to the last but one
pub rising_ascends : (l : List ℕ) (i : ℕ) → length l ≤ i + 1 → Rising l i → ascending l ≡ true
rising_ascends [] i h r = refl
rising_ascends (x ∷ []) i h r = refl
rising_ascends (x ∷ y ∷ l) zero h r = absurd (omega arith)
rising_ascends (x ∷ y ∷ l) (suc i) h r =
    rw (r 0 (omega arith)) (rising_ascends (y ∷ l) i (omega arith) (λ j b. next j (r (suc j) (omega arith))))
  where
    next : (j : ℕ) → ltb (get_or (x ∷ y ∷ l) (suc j) 0) (get_or (x ∷ y ∷ l) (suc j + 1) 0) ≡ true → ltb (get_or (y ∷ l) j 0) (get_or (y ∷ l) (j + 1) 0) ≡ true
    next j e = let s : suc j + 1 ≡ suc (j + 1) = omega arith in rw s at e

-- one is not below the next
pub not_ascends : (l : List ℕ) (i : ℕ) → i + 1 < length l → ltb (get_or l i 0) (get_or l (i + 1) 0) ≡ false → ascending l ≡ false
not_ascends [] i h t = absurd (omega arith)
not_ascends (x ∷ []) i h t = absurd (omega arith)
not_ascends (x ∷ y ∷ l) zero h t = rw t
not_ascends (x ∷ y ∷ l) (suc i) h t = and_fails (ltb x y) _ (not_ascends (y ∷ l) i (omega arith) (next t))
  where
    next : ltb (get_or (x ∷ y ∷ l) (suc i) 0) (get_or (x ∷ y ∷ l) (suc i + 1) 0) ≡ false → ltb (get_or (y ∷ l) i 0) (get_or (y ∷ l) (i + 1) 0) ≡ false
    next e = let s : suc i + 1 ≡ suc (i + 1) = omega arith in rw s at e

-- each but the first is told by whether the one before is below it
pub ascends_told : (l : List ℕ) (n : ℕ) → length l ≡ n → (r : Bool) → EachOf (λ j b. 1 ≤ j → j < n → b ≡ ltb (get_or l (j - 1) 0) (get_or l j 0)) 1 n r → r ≡ ascending l
ascends_told l n e true h = sym (rising_ascends l (n - 1) (omega (arith, e)) (λ j b.
    let z : j + 1 - 1 ≡ j = omega arith in
    rw z at (sym (h (j + 1) (omega arith) (omega arith) (omega arith) (omega arith)))))
ascends_told l n e false h =
    let z : h.0 - 1 + 1 ≡ h.0 = omega (arith, h.1) in
    sym (not_ascends l (h.0 - 1) (omega (arith, h.1, h.2, e)) (rw z (sym (h.3 h.1 h.2))))
