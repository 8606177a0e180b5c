-- The parts of a list between the bytes c, by their places: the first is behind none, and each other is behind a c.
use Rattle.std.specs.Prelude.{ℕ, suc, ◌+◌, ◌-◌, ◌≤◌, ◌<◌, ◌≡◌, refl, Bool, true, false, cond, ◌&&◌, ◌||◌, nat_eq, nat_lt, position, MatchOption, Option, Some, None, List, [], ◌∷◌, ◌++◌, eqb, length, take, drop, get_or}
use Rattle.std.proofs.Common.{ap, sym, ◌∙◌, true≢false, add-one, arith, eqb-true, ltb-false, ne_eqb, length-take, length-drop, take-add, take_all, drop-drop, drop-cons, get_or-take, get_or-drop}
use Rattle.std.proofs.Math.Option.{none}
use Rattle.std.specs.List.{position_or_len}
use Rattle.std.proofs.lemmas.Bool.{eqb-false}
use Rattle.std.proofs.lemmas.List.Quantifiers.{position-Some}
use Rattle.std.proofs.lemmas.List.Sums.{fails_before_first}
use Rattle.std.proofs.Math.Bool.{and-false}
use Rattle.lists.specs.Lists.{any, all, total}
use Rattle.lists.specs.Facts.{eqb_same, or_none, and_fails, range_more}
use Rattle.texts.specs.Bytes.{before, split}
use Rattle.texts.specs.Numbers.{digit, plain, decimal}

-- c is among the bytes
abbrev pub among : ℕ → List ℕ → Bool
among c l = any (λ b. eqb b c) l

-- bytes with one that is no digit are not all digits,
pub no_digits : (c : ℕ) → digit c ≡ false → (d : List ℕ) → among c d ≡ true → all digit d ≡ false
no_digits c n [] h = absurd (true≢false (sym h))
no_digits c n (b ∷ d) h = go (eqb b c) refl h (no_digits c n d)
  where
    go : (t : Bool) → eqb b c ≡ t → t || among c d ≡ true → (among c d ≡ true → all digit d ≡ false) → digit b && all digit d ≡ false
    go true e h f = rw (eqb-true b c e, n)
    go false e h f = and_fails (digit b) (all digit d) (f h)

-- and no number
pub no_decimal : (c : ℕ) → digit c ≡ false → (d : List ℕ) → among c d ≡ true → decimal d ≡ none
no_decimal c n d h = rw (no_digits c n d h, and-false (plain d))

-- Without a c there is one part.
pub split_last : (c : ℕ) (p : List ℕ) → among c p ≡ false → split c p ≡ p ∷ []
split_last c [] h = refl
split_last c (b ∷ p) h = let e = or_none (eqb b c) (among c p) h in rw (e.0, split_last c p e.1)

-- What is in front of the first c is the first part; the others are those of what is behind it.
pub split_first : (c : ℕ) (p s : List ℕ) → among c p ≡ false → split c (p ++ c ∷ s) ≡ p ∷ split c s
split_first c [] s h = rw eqb_same
split_first c (b ∷ p) s h = let e = or_none (eqb b c) (among c p) h in rw (e.0, split_first c p s e.1)

-- the bytes of the parts, with the one behind each
abbrev pub bytes_of : List (List ℕ) → ℕ
bytes_of ls = total (λ x. length x + 1) ls

-- A byte in front of the first part is one more byte.
before_total : (b : ℕ) (ls : List (List ℕ)) → 1 ≤ bytes_of ls → bytes_of (before b ls) ≡ bytes_of ls + 1
before_total b [] h = absurd (omega arith)
before_total b (l ∷ ls) h = omega arith

-- The parts have all the bytes but the c, which are one fewer than the parts.
pub split_total : (c : ℕ) (d : List ℕ) → bytes_of (split c d) ≡ length d + 1
split_total c [] = refl
split_total c (b ∷ d) = go (eqb b c) (split_total c d)
  where
    go : (t : Bool) → bytes_of (split c d) ≡ length d + 1 → bytes_of (cond t ([] ∷ split c d) (before b (split c d))) ≡ length (b ∷ d) + 1
    go true e = omega arith
    go false e = before_total b (split c d) (omega arith) ∙ omega arith

-- BY PLACES
-- the bytes from place a on, up to place e
abbrev pub span : ℕ → ℕ → List ℕ → List ℕ
span a e d = take (e - a) (drop a d)

-- the places from `from` on, up to `to`
pub record Span (d : List ℕ) (from to : ℕ) : Type 0 where
  pub ordered : from ≤ to
  pub inside : to ≤ length d

-- r is the first place of c among them, or `to` where there is none
pub record Until (c : ℕ) (d : List ℕ) (from to r : ℕ) : Type 0 where
  pub low : from ≤ r
  pub high : r ≤ to
  pub free : (k : ℕ) → from ≤ k → k < r → get_or d k 0 ≡ c → ⊥
  pub stop : r < to → get_or d r 0 ≡ c

-- as many bytes as places
pub span_length : (a e : ℕ) (d : List ℕ) → e ≤ length d → length (span a e d) ≡ e - a
span_length a e d h = simp (length-take, length-drop) (omega arith)

-- the byte at a place
pub span_get : (a e : ℕ) (d : List ℕ) (k : ℕ) → k < e - a → get_or (span a e d) k 0 ≡ get_or d (a + k) 0
span_get a e d k h = get_or-take (e - a) (drop a d) k 0 h ∙ get_or-drop a d k 0

-- up to the end
pub span_rest : (a : ℕ) (d : List ℕ) → span a (length d) d ≡ drop a d
span_rest a d = take_all (length d - a) (drop a d) (simp length-drop (omega arith))

-- all of them
pub span_whole : (d : List ℕ) → span 0 (length d) d ≡ d
span_whole d = span_rest 0 d

-- two parts and the byte between them
pub span_split : (a m e : ℕ) (d : List ℕ) → a ≤ m → m < e → e ≤ length d → span a e d ≡ span a m d ++ get_or d m 0 ∷ span (m + 1) e d
span_split a m e d h k l =
    let x : e - a ≡ m - a + suc (e - (m + 1)) = omega arith in
    let y : a + (m - a) ≡ m = omega arith in
    rw (x, take-add (m - a) (suc (e - (m + 1))) (drop a d), drop-drop (m - a) a d, y, drop-cons d m 0 (omega arith), add-one)

-- no c at any place
free_among : (c : ℕ) (l : List ℕ) → ((k : ℕ) → k < length l → get_or l k 0 ≡ c → ⊥) → among c l ≡ false
free_among c [] f = refl
free_among c (b ∷ l) f = rw (ne_eqb b c (f 0 (omega arith))) (free_among c l (λ k h. f (suc k) (omega arith)))

module _ (c : ℕ) (d : List ℕ) (from to r : ℕ) (inside : to ≤ length d) (u : Until c d from to r) where
  -- no c up to the place
  pub until_free : among c (span from r d) ≡ false
  until_free =
      let n : length (span from r d) ≡ r - from = span_length from r d (omega (arith, u.high)) in
      free_among c (span from r d) (λ k h e. u.free (from + k) (omega arith) (omega (arith, u.low)) (sym (span_get from r d k (omega arith)) ∙ e))

  -- a c at the place: the first part, and the others
  pub split_next : r < to → split c (span from to d) ≡ span from r d ∷ split c (span (r + 1) to d)
  split_next h = ap (split c) (span_split from r to d u.low h inside)
      ∙ rw (u.stop h) (split_first c (span from r d) (span (r + 1) to d) until_free)

  -- none: the only part
  pub split_end : to ≤ r → split c (span from to d) ≡ span from r d ∷ []
  split_end h = let e : to ≡ r = omega (arith, u.high) in rw e (split_last c (span from r d) until_free)

-- THE LOOP that looks for c: none up to place i
pub record Past (c : ℕ) (d : List ℕ) (from to i : ℕ) : Type 0 where
  pub low : from ≤ i
  pub high : i ≤ to
  pub free : (k : ℕ) → from ≤ k → k < i → get_or d k 0 ≡ c → ⊥

module _ (c : ℕ) (d : List ℕ) (from to : ℕ) where
  -- before the first turn
  pub past_none : from ≤ to → Past c d from to from
  past_none h = record { low = omega arith; high = h; free = λ k l m e. absurd (omega arith) }

  -- one more
  pub past_more : (i : ℕ) → Past c d from to i → i < to → (get_or d i 0 ≡ c → ⊥) → Past c d from to (i + 1)
  past_more i p h n = record {
    low = omega (arith, p.low);
    high = omega arith;
    free = range_more (λ k. get_or d k 0 ≡ c → ⊥) from i p.free n;
  }

  -- found
  pub past_found : (i : ℕ) → Past c d from to i → get_or d i 0 ≡ c → Until c d from to i
  past_found i p e = record { low = p.low; high = p.high; free = p.free; stop = λ h. e }

  -- none
  pub past_all : (i : ℕ) → Past c d from to i → to ≤ i → Until c d from to i
  past_all i p h = record { low = p.low; high = p.high; free = p.free; stop = λ k. absurd (omega arith) }

-- where `position` finds none, none passes
none_passes : (p : ℕ → Bool) (xs : List ℕ) → position p xs ≡ None → (k : ℕ) → k < length xs → p (get_or xs k 0) ≡ false
none_passes p xs e k h = go (nat_lt (position_or_len p xs) (length xs)) refl e
  where
    go : (t : Bool) → nat_lt (position_or_len p xs) (length xs) ≡ t → cond t (Some (position_or_len p xs)) None ≡ None → p (get_or xs k 0) ≡ false
    go true q z = absurd cc
    go false q z = fails_before_first p xs k 0 (omega (arith, ltb-false _ _ q))

-- The first place by the library's `position`: r is `from` and the place among the bytes of the part, or `to` where that has none.
module _ (c : ℕ) (d : List ℕ) (from to : ℕ) (s : Span d from to) where
  -- as many bytes as places
  long : length (span from to d) ≡ to - from
  long = span_length from to d s.inside

  -- no c at the places whose bytes are none
  free_at : (r i : ℕ) → r ≡ from + i → r ≤ to → ((k : ℕ) → k < i → nat_eq (get_or (span from to d) k 0) c ≡ false) → Past c d from to r
  free_at r i e h f = record {
    low = omega arith;
    high = h;
    free = λ k l m q.
        let z : from + (k - from) ≡ k = omega arith in
        eqb-false _ _ (f (k - from) (omega arith)) (rw (span_get from to d (k - from) (omega arith), z) q);
  }

  -- o is what `position` finds
  pub placed : (o : Option ℕ) (r : ℕ) → o ≡ position (λ b. nat_eq b c) (span from to d) → MatchOption o (r ≡ to) (λ i. r ≡ from + i) → Until c d from to r
  placed o r p h = go o (sym p) h
    where
      go : (o : Option ℕ) → position (λ b. nat_eq b c) (span from to d) ≡ o → MatchOption o (r ≡ to) (λ i. r ≡ from + i) → Until c d from to r
      go None e h =
          past_all c d from to r (free_at r (to - from) (omega (arith, s.ordered)) (omega arith) (λ k l. none_passes (λ b. nat_eq b c) (span from to d) e k (omega (arith, long)))) (omega arith)
      go (Some i) e h =
          let p = position-Some (λ b. nat_eq b c) (span from to d) i 0 e in
          past_found c d from to r (free_at r i h (omega (arith, p.0, long)) p.2) (rw h (sym (span_get from to d i (omega (arith, p.0, long))) ∙ eqb-true _ _ p.1))
