-- What a method of std finds that gives numbers to a closure, one after the other: the first that passes, whether all do, and whether one does.
use Rattle.std.specs.Prelude.{ℕ, ◌+◌, ◌-◌, ◌≤◌, ◌<◌, ◌≡◌, refl, Bool, true, false, not, List, [], ◌∷◌, length, get_or, Option, Some, None, IfSome, IsSomeAnd, IsTrue}
use Rattle.std.proofs.Common.{ap, sym, subst, ◌∙◌, arith}
use Rattle.std.specs.Bool.{MatchBool}
use Rattle.std.specs.Option.{MatchOption, option_map}
use Rattle.std.specs.Fn.{Called, CalledAt}
use Rattle.std.specs.List.{FoldsTo}
use Rattle.std.specs.Iterator.{Yields, CallableAtEachTurn}
use Rattle.std.specs.Iterator.Runs.{Run, SomeRun, ItemsCountUp, CallKeepsClosure, AllItemsGive, AnyItemGives, NoItemPasses, EndsAtFirstPassing}
use Rattle.std.specs.Range.{range_inclusive_start, range_inclusive_end, range_inclusive_exhausted, range_inclusive_len, range_inclusive_left}
use Rattle.std.proofs.iter.Yields.{nat_range_steps}
use Rattle.std.proofs.iter.runs.Sources.{nat_range_inclusive_steps, range_runs, inclusive_listed}
use denote.Param.Members.{Mut}
use denote.Ref.{Bor}
use Rattle.lists.specs.Lists.{at, up_to, any}
use Rattle.lists.specs.Check.{Check, each}
use Rattle.lists.specs.Facts.{any_get_d}
use Rattle.faults.specs.Faults.{at_place}
use Rattle.faults.specs.Each.{each_passes, each_fails}
use Rattle.faults.specs.Upward.{up_passes, up_fails, any_none}
use Rattle.faults.specs.Lines.{Finds}

-- RANGES, by the steps that each makes
abbrev StateOf : {S A : Type 0} → (S → Option A → S → Type 0) → Type 0
StateOf {S} steps = S

-- the numbers from one on and below another
abbrev pub Below : Type 0
Below = StateOf nat_range_steps

-- the numbers from one to another
abbrev pub UpTo : Type 0
UpTo = StateOf nat_range_inclusive_steps

-- WHAT A CLOSURE MAY BE ASKED that is given the numbers from a to n: of each of them
-- how many numbers a range has left
abbrev left : UpTo → ℕ
left s = range_inclusive_left (λ x y. y - x) s

-- one is left
not_spent : (s : UpTo) → 1 ≤ left s → (range_inclusive_exhausted s ≡ false) × (range_inclusive_start s ≤ range_inclusive_end s)
not_spent s h = go (range_inclusive_exhausted s) refl h
  where
    go : (b : Bool) → range_inclusive_exhausted s ≡ b → 1 ≤ range_inclusive_len (λ x y. y - x) (range_inclusive_start s) (range_inclusive_end s) b
        → (range_inclusive_exhausted s ≡ false) × (range_inclusive_start s ≤ range_inclusive_end s)
    go true e k = absurd (omega arith)
    go false e k = (e, omega arith)

-- the numbers that are to come are from a to n
record Within (a n : ℕ) (s : UpTo) : Type 0 where
  low : range_inclusive_exhausted s ≡ false → a ≤ range_inclusive_start s
  high : range_inclusive_end s ≡ n

-- so is the next, and those behind it
within_next : (a n : ℕ) (s t : UpTo) (x : ℕ) → Within a n s → nat_range_inclusive_steps s (Some x) t → (a ≤ x) × (x ≤ n) × Within a n t
within_next a n s t x w k =
    let l : (range_inclusive_exhausted s ≡ false) × (range_inclusive_start s ≤ range_inclusive_end s) = not_spent s (omega (arith, k.1.1)) in (
      omega (arith, k.1.0, w.low l.0),
      omega (arith, k.1.0, l.1, w.high),
      record { low = λ e. omega (arith, k.1.2 e, w.low l.0); high = k.0 ∙ w.high },
    )

module _ {P : Type 0} (R : P → ℕ → P → Type 0) (Q : P → ℕ → Type 0) (p : P) (a n : ℕ) (keeps : (x : ℕ) (q : P) → R p x q → q ≡ p) (may : (x : ℕ) → a ≤ x → x ≤ n → Q p x) where
  -- wherever the range has come to
  within_all : (xs : List ℕ) (s t : UpTo) (q : P) (x : ℕ) (u : UpTo) → Within a n s → Yields nat_range_inclusive_steps s xs t → FoldsTo R p xs q
      → nat_range_inclusive_steps t (Some x) u → Q q x
  within_all [] s t q x u w y f k =
      let m : Within a n t = subst (Within a n) y w in
      let b = within_next a n t u x m k in
      subst (λ r. Q r x) f (may x b.0 b.1)
  within_all (z ∷ xs) s t q x u w y f k =
      within_all xs y.0 t q x u (within_next a n s y.0 z w y.1).2 y.2 (subst (λ r. FoldsTo R r xs q) (keeps z f.0 f.1) f.2) k

  -- from its start on
  within_first : (s : UpTo) → range_inclusive_start s ≡ a → range_inclusive_end s ≡ n → CallableAtEachTurn nat_range_inclusive_steps R Q s p
  within_first s hs he = record { at = λ xs t q x u y f k. within_all xs s t q x u (record { low = λ e. omega (arith, hs); high = he }) y f k }

-- so the closure may be asked
pub serves_within : {P : Type 0} {R : P → ℕ → P → Type 0} {Q : P → ℕ → Type 0} {s : UpTo} {p : P} {a n : ℕ} → range_inclusive_start s ≡ a → range_inclusive_end s ≡ n
    → ((x : ℕ) (q : P) → R p x q → q ≡ p) → ((x : ℕ) → a ≤ x → x ≤ n → Q p x) → CallableAtEachTurn nat_range_inclusive_steps R Q s p
serves_within {R = R} {Q = Q} {s = s} {p = p} {a = a} {n = n} hs he keeps may = within_first R Q p a n keeps may s hs he

-- THE NUMBERS that come, from a on and below b
module _ {S : Type 0} {steps : S → Option ℕ → S → Type 0} (p : Run steps) (a b : ℕ) (up : ItemsCountUp p a b) where
  -- the one in place k
  placed : (k : ℕ) → k < p.len → p.at k ≡ Some (a + k)
  placed k h = go (p.at k) (up.3 k h)
    where
      go : (o : Option ℕ) → option_map (λ y. y) o ≡ Some (a + k) → o ≡ Some (a + k)
      go None e = cc
      go (Some x) e = e

  -- what is said of each that comes is said of x,
  of_each : (P : ℕ → Type 0) (x : ℕ) → a ≤ x → x < a + p.len → IfSome (p.at (x - a)) P → P x
  of_each P x lo hi h = let e : a + (x - a) ≡ x = omega arith in rw (placed (x - a) (omega arith), e) at h

  -- or of one that is there.
  of_one : (P : ℕ → Type 0) (x : ℕ) → a ≤ x → x < a + p.len → IsSomeAnd (p.at (x - a)) P → P x
  of_one P x lo hi h = let e : a + (x - a) ≡ x = omega arith in rw (placed (x - a) (omega arith), e) at h

-- those from a to n
counts_to : (p : Run nat_range_inclusive_steps) (s : UpTo) (a n : ℕ) → p.from ≡ s → range_inclusive_start s ≡ a → range_inclusive_end s ≡ n → range_inclusive_exhausted s ≡ false
    → ItemsCountUp p a (n + 1)
counts_to p s a n e hs he hx =
    let c = inclusive_listed p p.seen in
    let up : ItemsCountUp p c.0 c.1 = (c.4 (ap range_inclusive_exhausted e ∙ hx)).0 in
    let low : c.0 ≡ a = c.2 ∙ ap range_inclusive_start e ∙ hs in
    let high : c.1 ≡ n + 1 = c.3 ∙ ap (λ (s : UpTo). range_inclusive_end s + 1) e ∙ ap (λ (k : ℕ). k + 1) he in
    rw (low, high) at up

-- THE FIRST of the numbers from 1 to n that passes
module _ {F : Type 0} {g : Mut F (Bor ℕ × Unit {0}) Bool} {f : F} (said : ℕ → Bool → Type 0) (keeps : CallKeepsClosure g f) (told : (x : ℕ) (b : Bool) → CalledAt g f x b f → said x (not b)) where
  first_run : {S : Type 0} {steps : S → Option ℕ → S → Type 0} (p : Run steps) (n : ℕ) → ItemsCountUp p 1 (n + 1) → (r : Option ℕ)
      → MatchOption r (IsTrue p.whole × NoItemPasses p g f) (EndsAtFirstPassing p g f) → Finds said n r
  first_run p n up None h = record {
    found = tt;
    before = λ x lo hi k. told x false (of_each p 1 (n + 1) up (λ y. CalledAt g f y false f) x lo (omega (arith, up.1 h.0)) (h.1 keeps (x - 1)));
  }
  first_run p n up (Some x) h =
      let e : (x ≡ 1 + h.0) × (x < n + 1) = rw h.2 at (up.2 h.0) in
      record {
        found = (omega (arith, e.0), omega (arith, e.1), told x true (h.3 keeps).0);
        before = λ y lo hi k. told y false (of_one p 1 (n + 1) up (λ z. CalledAt g f z false f) y lo (omega (arith, e.0, h.1)) ((h.3 keeps).1 (y - 1) (omega (arith, e.0))));
      }

  pub found_first : {s : UpTo} {n : ℕ} (r : Option ℕ) → range_inclusive_start s ≡ 1 → range_inclusive_end s ≡ n → range_inclusive_exhausted s ≡ false
      → SomeRun nat_range_inclusive_steps s (λ p. MatchOption r (IsTrue p.whole × NoItemPasses p g f) (EndsAtFirstPassing p g f)) → Finds said n r
  found_first {s} {n} r hs he hx run = first_run run.0 n (counts_to run.0 s 1 n run.1 hs he hx) r run.2

-- WHETHER ALL PASS of the numbers from a on and below b, and whether one does
abbrev pub EachOf : (ℕ → Bool → Type 0) → ℕ → ℕ → Bool → Type 0
EachOf said a b r = MatchBool r ((x : ℕ) → a ≤ x → x < b → said x true) ((x : ℕ) × (a ≤ x) × (x < b) × said x false)

abbrev pub OneOf : (ℕ → Bool → Type 0) → ℕ → ℕ → Bool → Type 0
OneOf said a b r = MatchBool r ((x : ℕ) × (a ≤ x) × (x < b) × said x true) ((x : ℕ) → a ≤ x → x < b → said x false)

module _ {F : Type 0} {g : Mut F (ℕ × Unit {0}) Bool} {f : F} (said : ℕ → Bool → Type 0) (keeps : CallKeepsClosure g f) (told : (x : ℕ) (b : Bool) → Called g f (x, tt) b f → said x b) where
  module _ {S : Type 0} {steps : S → Option ℕ → S → Type 0} (p : Run steps) (a b : ℕ) (up : ItemsCountUp p a b) where
    -- of a whole run the answer is one and the same,
    whole_run : (c : Bool) → IsTrue p.whole × AllItemsGive p g f c → (x : ℕ) → a ≤ x → x < b → said x c
    whole_run c h x lo hi = told x c (of_each p a b up (λ y. Called g f (y, tt) c f) x lo (omega (arith, up.1 h.0)) (h.1 keeps (x - a)))

    -- or it is given of one.
    one_run : (c : Bool) → AnyItemGives p g f c → (x : ℕ) × (a ≤ x) × (x < b) × said x c
    one_run c h =
        let k = h keeps in
        let e : a + k.0 - a ≡ k.0 = omega arith in
        (a + k.0, omega arith, omega (arith, k.1, up.0), told (a + k.0) c (of_one p a b up (λ y. Called g f (y, tt) c f) (a + k.0) (omega arith) (omega (arith, k.1)) (rw e k.2)))

    each_run : (r : Bool) → MatchBool r (IsTrue p.whole × AllItemsGive p g f true) (AnyItemGives p g f false) → EachOf said a b r
    each_run true h = whole_run true h
    each_run false h = one_run false h

    some_run : (r : Bool) → MatchBool r (AnyItemGives p g f true) (IsTrue p.whole × AllItemsGive p g f false) → OneOf said a b r
    some_run true h = one_run true h
    some_run false h = whole_run false h

  -- from a on and below b
  pub all_below : {s : Below} {a b : ℕ} (r : Bool) → s ≡ record { start = a; end = b }
      → SomeRun nat_range_steps s (λ p. MatchBool r (IsTrue p.whole × AllItemsGive p g f true) (AnyItemGives p g f false)) → EachOf said a b r
  all_below {s} {a} {b} r e run =
      let up : ItemsCountUp run.0 a b = rw (run.1 ∙ e) at (range_runs run.0 run.0.seen) in
      each_run run.0 a b up r run.2

  -- from a to n
  pub all_within : {s : UpTo} {a n : ℕ} (r : Bool) → range_inclusive_start s ≡ a → range_inclusive_end s ≡ n → range_inclusive_exhausted s ≡ false
      → SomeRun nat_range_inclusive_steps s (λ p. MatchBool r (IsTrue p.whole × AllItemsGive p g f true) (AnyItemGives p g f false)) → EachOf said a (n + 1) r
  all_within {s} {a} {n} r hs he hx run = each_run run.0 a (n + 1) (counts_to run.0 s a n run.1 hs he hx) r run.2

  pub any_within : {s : UpTo} {a n : ℕ} (r : Bool) → range_inclusive_start s ≡ a → range_inclusive_end s ≡ n → range_inclusive_exhausted s ≡ false
      → SomeRun nat_range_inclusive_steps s (λ p. MatchBool r (AnyItemGives p g f true) (IsTrue p.whole × AllItemsGive p g f false)) → OneOf said a (n + 1) r
  any_within {s} {a} {n} r hs he hx run = some_run run.0 a (n + 1) (counts_to run.0 s a n run.1 hs he hx) r run.2

-- A TEST of the numbers from 1 to n
pub up_to_told : (test : ℕ → Bool) (n : ℕ) (r : Bool) → EachOf (λ k b. b ≡ test k) 1 (n + 1) r → r ≡ up_to n test
up_to_told test n true h = sym (up_passes test n (λ k low high. sym (h k low (omega arith))))
up_to_told test n false h =
    let b : h.0 - 1 + 1 ≡ h.0 = omega (arith, h.1) in
    sym (up_fails test n (h.0 - 1) (omega (arith, h.1, h.2)) (rw b (sym h.3)))

-- A LIST told place by place
module _ {A : Type 0} (d : A) (l : List A) {n : ℕ} (e : length l ≡ n) where
  -- from 0: whether every element is as it is asked
  pub each_told : (f : A → Check) (r : Bool) → EachOf (λ i b. i < n → b ≡ (f (get_or l i d)).test) 0 n r → r ≡ (each f l).test
  each_told f true h = sym (each_passes f d l n (sym e) (λ i b. sym (h i (omega arith) b b)))
  each_told f false h = sym (each_fails f d l h.0 (omega (arith, h.2)) (sym (h.3 h.2)))

  -- from 1: whether one passes
  pub any_told : (f : A → Bool) (r : Bool) → OneOf (λ i b. b ≡ f (at d l i)) 1 (n + 1) r → r ≡ any f l
  any_told f true h =
      let b : h.0 - 1 + 1 ≡ h.0 = omega (arith, h.1) in
      sym (any_get_d f d l (h.0 - 1) (omega (arith, h.1, h.2)) (rw (← at_place d l (h.0 - 1), b) (sym h.3)))
  any_told f false h = sym (any_none f d l n (omega arith) (λ i b. rw (← at_place d l i) (sym (h (i + 1) (omega arith) (omega arith)))))
