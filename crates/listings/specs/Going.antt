-- The loop over the parts of an ascending list: the part from place a on, up to place e, is the last one that was looked at. One law for numbers and for
-- pairs: f is what a part says, key the number by which it ascends.
use Rattle.std.specs.Prelude.{ℕ, ◌+◌, ◌≤◌, ◌<◌, ◌≡◌, refl, Bool, true, false, cond, ◌&&◌, List, [], ◌∷◌, map, eqb, ltb, length}
use Rattle.std.proofs.Common.{ap, sym, ◌∙◌, true≢false, arith}
use Rattle.std.proofs.Math.Option.{Option, none, some}
use Rattle.std.proofs.Math.Bool.{and-false}
use Rattle.std.specs.Prelude.{Option as Found, Some, None, MatchOption}
use Rattle.std.specs.List.{before_first}
use Rattle.lists.specs.Lists.{on_opt, is_some}
use Rattle.soundness.specs.Asked.{ascending}
use Rattle.texts.specs.Bytes.{split, more, each, only}
use Rattle.texts.specs.Numbers.{decimal, listed, numbers, pairs}
use Rattle.numerals.specs.Splits.{span, Until}
use Rattle.listings.specs.Listings.{is_none, pair_in, number_of}
use Rattle.listings.specs.Left.{left, left_all, left_none, left_next}
use Rattle.listings.specs.Rising.{rising, rising_none, rising_low, rising_more, rising_all, number_key, variable_key, variable_number}

-- how the elements of a list ascend
pub record Ascent (A : Type 0) : Type 0 where
  pub says : List ℕ → Option A
  pub key : A → ℕ
  pub test : List A → Bool
  pub none : test [] ≡ true
  pub one : (x : A) → test (x ∷ []) ≡ true
  pub more : (x y : A) (l : List A) → test (x ∷ y ∷ l) ≡ ltb (key x) (key y) && test (y ∷ l)

-- numbers ascend by themselves
abbrev pub by_number : Ascent ℕ
by_number = record { says = decimal; key = λ n. n; test = ascending; none = refl; one = λ x. refl; more = λ x y l. refl }

-- pairs by their variables
abbrev pub by_variable : Ascent (ℕ × ℕ)
by_variable = record { says = pair_in; key = λ xe. xe.0; test = λ l. ascending (map (λ xe. xe.0) l); none = refl; one = λ x. refl; more = λ x y l. refl }

module _ {A : Type 0} (s : Ascent A) where
  -- the number by which a part ascends
  abbrev pub key_of : List ℕ → ℕ
  key_of p = on_opt (s.says p) 0 s.key

  -- every part says something, and they ascend
  abbrev pub good : List (List ℕ) → Bool
  good ps = is_some (only s.test (each s.says ps))

  -- the first part says nothing
  good_not : (p : List ℕ) (ps : List (List ℕ)) → is_some (s.says p) ≡ false → good (p ∷ ps) ≡ false
  good_not p ps h = go (s.says p) h
    where
      go : (o : Option A) → is_some o ≡ false → is_some (only s.test (more o (each s.says ps))) ≡ false
      go none h = refl
      go (some a) h = absurd (true≢false h)

  -- one part
  good_one : (p : List ℕ) → is_some (s.says p) ≡ true → good (p ∷ []) ≡ true
  good_one p h = go (s.says p) h
    where
      go : (o : Option A) → is_some o ≡ true → is_some (only s.test (more o (some []))) ≡ true
      go none h = absurd (true≢false (sym h))
      go (some a) h = rw (s.one a)

  -- two parts or more
  good_more : (p q : List ℕ) (ps : List (List ℕ)) → is_some (s.says p) ≡ true → good (p ∷ q ∷ ps) ≡ ltb (key_of p) (key_of q) && good (q ∷ ps)
  good_more p q ps h = go (s.says p) (s.says q) (each s.says ps) h
    where
      tested : (x y : A) (l : List A) (b c : Bool) → s.test (x ∷ y ∷ l) ≡ b && c → s.test (y ∷ l) ≡ c
          → is_some (cond (s.test (x ∷ y ∷ l)) (some (x ∷ y ∷ l)) none) ≡ b && is_some (cond (s.test (y ∷ l)) (some (y ∷ l)) none)
      tested x y l true true e f = rw (e, f)
      tested x y l true false e f = rw (e, f)
      tested x y l false c e f = rw e

      go : (o r : Option A) (m : Option (List A)) → is_some o ≡ true
          → is_some (only s.test (more o (more r m))) ≡ ltb (on_opt o 0 s.key) (on_opt r 0 s.key) && is_some (only s.test (more r m))
      go none r m h = absurd (true≢false (sym h))
      go (some x) none m h = sym (and-false (ltb (s.key x) 0))
      go (some x) (some y) none h = sym (and-false (ltb (s.key x) (s.key y)))
      go (some x) (some y) (some l) h = tested x y l (ltb (s.key x) (s.key y)) (s.test (y ∷ l)) (s.more x y l) refl

  -- the whole list
  abbrev pub whole : List ℕ → Bool
  whole d = is_some (only s.test (listed s.says d))

  -- `none`
  pub whole_none : (d : List ℕ) → is_none d ≡ true → whole d ≡ true
  whole_none d h = rw (h, s.none)

  -- THE LOOP
  pub record Going (d : List ℕ) (a e : ℕ) : Type 0 where
    pub ends : Until 44 d a (length d) e
    pub inside : a ≤ length d
    pub there : is_some (s.says (span a e d)) ≡ true
    pub rest : good (left a d) ≡ whole d

  -- the list that is not `none` is its parts
  whole_parts : (d : List ℕ) → is_none d ≡ false → good (left 0 d) ≡ whole d
  whole_parts d h = rw (left_all d, h)

  module _ (d : List ℕ) where
    -- the first part says something
    pub going_first : (e : ℕ) → is_none d ≡ false → Until 44 d 0 (length d) e → is_some (s.says (span 0 e d)) ≡ true → Going d 0 e
    going_first e h u t = record { ends = u; inside = omega arith; there = t; rest = whole_parts d h }

    -- it says nothing
    pub going_none : (e : ℕ) → is_none d ≡ false → Until 44 d 0 (length d) e → is_some (s.says (span 0 e d)) ≡ false → false ≡ whole d
    going_none e h u t = sym (good_not (span 0 e d) (left (e + 1) d) t) ∙ ap good (sym (left_next 0 e d (omega arith) u)) ∙ whole_parts d h

    module _ (a e : ℕ) (g : Going d a e) where
      -- the parts that are left, by the next
      next_parts : (f : ℕ) → e < length d → Until 44 d (e + 1) (length d) f → left a d ≡ span a e d ∷ span (e + 1) f d ∷ left (f + 1) d
      next_parts f h u = left_next a e d g.inside g.ends ∙ ap (λ l. span a e d ∷ l) (left_next (e + 1) f d (omega arith) u)

      -- what the next decides
      next_decides : (f : ℕ) → e < length d → Until 44 d (e + 1) (length d) f → ltb (key_of (span a e d)) (key_of (span (e + 1) f d)) && good (span (e + 1) f d ∷ left (f + 1) d) ≡ whole d
      next_decides f h u = sym (good_more (span a e d) (span (e + 1) f d) (left (f + 1) d) g.there) ∙ ap good (sym (next_parts f h u)) ∙ g.rest

      -- the next says nothing
      pub going_stop : (f : ℕ) → e < length d → Until 44 d (e + 1) (length d) f → is_some (s.says (span (e + 1) f d)) ≡ false → false ≡ whole d
      going_stop f h u t =
          sym (and-false (ltb (key_of (span a e d)) (key_of (span (e + 1) f d))))
          ∙ ap (λ r. ltb (key_of (span a e d)) (key_of (span (e + 1) f d)) && r) (sym (good_not (span (e + 1) f d) (left (f + 1) d) t)) ∙ next_decides f h u

      -- the next is not above it
      pub going_low : (f : ℕ) → e < length d → Until 44 d (e + 1) (length d) f → ltb (key_of (span a e d)) (key_of (span (e + 1) f d)) ≡ false → false ≡ whole d
      going_low f h u t = rw t at (next_decides f h u)

      -- the next is above it
      pub going_more : (f : ℕ) → e < length d → Until 44 d (e + 1) (length d) f → is_some (s.says (span (e + 1) f d)) ≡ true
          → ltb (key_of (span a e d)) (key_of (span (e + 1) f d)) ≡ true → Going d (e + 1) f
      going_more f h u t l = record {
        ends = u;
        inside = omega arith;
        there = t;
        rest = ap good (left_next (e + 1) f d (omega arith) u) ∙ (rw l at (next_decides f h u));
      }

      -- no part is left
      pub going_all : length d ≤ e → true ≡ whole d
      going_all h = sym (good_one (span a e d) g.there) ∙ ap good (sym (left_next a e d g.inside g.ends ∙ ap (λ l. span a e d ∷ l) (left_none (e + 1) d (omega arith)))) ∙ g.rest

-- THE PARTS ONE BY ONE, each with the bytes of its key, where it has one
module _ {A : Type 0} (s : Ascent A) (f : List ℕ → Found (List ℕ)) (keyed : (p : List ℕ) → MatchOption (f p) (is_some (s.says p) ≡ false) (λ k. (is_some (s.says p) ≡ true) × (key_of s p ≡ number_of k))) where
  -- a part and its key
  no_key : (p : List ℕ) → f p ≡ None → is_some (s.says p) ≡ false
  no_key p e = rw e at (keyed p)

  a_key : (p k : List ℕ) → f p ≡ Some k → (is_some (s.says p) ≡ true) × (key_of s p ≡ number_of k)
  a_key p k e = rw e at (keyed p)

  -- behind a part
  rising_behind : (p k : List ℕ) (ps : List (List ℕ)) → f p ≡ Some k → rising f (Some k) ps ≡ good s (p ∷ ps)
  rising_behind p k [] e = rising_all f (Some k) ∙ sym (good_one s p (a_key p k e).0)
  rising_behind p k (q ∷ qs) e = go (f q) refl (λ j h. rising_behind q j qs h)
    where
      decides : (j : List ℕ) → f q ≡ Some j → good s (p ∷ q ∷ qs) ≡ ltb (number_of k) (number_of j) && good s (q ∷ qs)
      decides j h = good_more s p q qs (a_key p k e).0 ∙ ap (λ (n : ℕ). ltb n (key_of s q) && good s (q ∷ qs)) (a_key p k e).1
          ∙ ap (λ (n : ℕ). ltb (number_of k) n && good s (q ∷ qs)) (a_key q j h).1

      next : (j : List ℕ) → f q ≡ Some j → rising f (Some j) qs ≡ good s (q ∷ qs) → (b : Bool) → ltb (number_of k) (number_of j) ≡ b → rising f (Some k) (q ∷ qs) ≡ good s (p ∷ q ∷ qs)
      next j h i true l = rising_more f (Some k) q qs j h l ∙ i ∙ sym (decides j h ∙ rw l)
      next j h i false l = rising_low f (Some k) q qs j h l ∙ sym (decides j h ∙ rw l)

      go : (o : Found (List ℕ)) → f q ≡ o → ((j : List ℕ) → f q ≡ Some j → rising f (Some j) qs ≡ good s (q ∷ qs)) → rising f (Some k) (q ∷ qs) ≡ good s (p ∷ q ∷ qs)
      go None h i = rising_none f (Some k) q qs h ∙ sym (good_more s p q qs (a_key p k e).0 ∙ rw (good_not s q qs (no_key q h)) (and-false (ltb (key_of s p) (key_of s q))))
      go (Some j) h i = next j h (i j h) (ltb (number_of k) (number_of j)) refl

  -- from the first on
  rising_first : (ps : List (List ℕ)) → rising f None ps ≡ good s ps
  rising_first [] = rising_all f None ∙ rw s.none
  rising_first (p ∷ ps) = go (f p) refl
    where
      go : (o : Found (List ℕ)) → f p ≡ o → rising f None (p ∷ ps) ≡ good s (p ∷ ps)
      go None h = rising_none f None p ps h ∙ sym (good_not s p ps (no_key p h))
      go (Some k) h = rising_more f None p ps k h refl ∙ rising_behind p k ps h

  -- the whole list
  pub rising_whole : (d : List ℕ) → is_none d ≡ false → rising f None (split 44 d) ≡ whole s d
  rising_whole d h = rising_first (split 44 d) ∙ ap (good s) (sym (left_all d)) ∙ whole_parts s d h

-- of numbers
pub rising_numbers : (d : List ℕ) → is_none d ≡ false → rising number_key None (split 44 d) ≡ is_some (numbers d)
rising_numbers d h = rising_whole by_number number_key keyed d h
  where
    keyed : (p : List ℕ) → MatchOption (number_key p) (is_some (decimal p) ≡ false) (λ k. (is_some (decimal p) ≡ true) × (key_of by_number p ≡ number_of k))
    keyed p = go (is_some (decimal p)) refl
      where
        go : (b : Bool) → is_some (decimal p) ≡ b → MatchOption (cond b (Some p) None) (is_some (decimal p) ≡ false) (λ k. (is_some (decimal p) ≡ true) × (key_of by_number p ≡ number_of k))
        go true e = (e, refl)
        go false e = e

-- of pairs
pub rising_pairs : (d : List ℕ) → is_none d ≡ false → rising variable_key None (split 44 d) ≡ is_some (pairs d)
rising_pairs d h = rising_whole by_variable variable_key keyed d h
  where
    keyed : (p : List ℕ) → MatchOption (variable_key p) (is_some (pair_in p) ≡ false) (λ k. (is_some (pair_in p) ≡ true) × (key_of by_variable p ≡ number_of k))
    keyed p = go (is_some (pair_in p)) refl
      where
        go : (b : Bool) → is_some (pair_in p) ≡ b → MatchOption (cond b (Some (before_first (λ c. eqb c 58) p)) None) (is_some (pair_in p) ≡ false) (λ k. (is_some (pair_in p) ≡ true) × (key_of by_variable p ≡ number_of k))
        go true e = (e, variable_number p e)
        go false e = e
