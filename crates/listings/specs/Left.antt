-- The parts of a list that are left from place a on: none behind the end.
use Rattle.std.specs.Prelude.{ℕ, ◌+◌, ◌≤◌, ◌<◌, ◌≡◌, refl, Bool, true, false, cond, ◌&&◌, ◌||◌, List, [], ◌∷◌, eqb, leb, length}
use Rattle.std.proofs.Common.{ap, sym, ◌∙◌, ⊎_elim, true≢false, arith, le-leb}
use Rattle.std.proofs.Math.Option.{Option, none, some}
use Rattle.std.proofs.lemmas.Bool.{lt-leb}
use Rattle.rows.specs.Pad.{below?}
use Rattle.lists.specs.Lists.{is_some, on_opt}
use Rattle.texts.specs.Bytes.{split, before, both}
use Rattle.texts.specs.Numbers.{decimal, two}
use Rattle.numerals.specs.Splits.{among, no_decimal, span, span_whole, Until, split_last, split_next, split_end}
use Rattle.listings.specs.Listings.{number_of, pair_in, pair_of}

-- the parts between the commas from place a on
unfoldable pub left : ℕ → List ℕ → List (List ℕ)
left a d = cond (leb a (length d)) (split 44 (span a (length d) d)) []

-- all of them
pub left_all : (d : List ℕ) → left 0 d ≡ split 44 d
unfolding left
left_all d = rw (le-leb 0 (length d) (omega arith)) (ap (split 44) (span_whole d))

-- behind the end
pub left_none : (a : ℕ) (d : List ℕ) → length d < a → left a d ≡ []
unfolding left
left_none a d h = rw (lt-leb a (length d) h)

-- the next part, and those behind its comma
pub left_next : (a e : ℕ) (d : List ℕ) → a ≤ length d → Until 44 d a (length d) e → left a d ≡ span a e d ∷ left (e + 1) d
unfolding left
left_next a e d h u = rw (le-leb a (length d) h) (⊎_elim
    (λ (l : e < length d). rw (le-leb (e + 1) (length d) (omega arith)) (split_next 44 d a (length d) e (omega arith) u l))
    (λ (l : length d ≤ e). rw (lt-leb (e + 1) (length d) (omega arith)) (split_end 44 d a (length d) e (omega arith) u l))
    (below? e (length d)))

-- PAIRS
-- where c is among the bytes, there are two parts or more
split_some : (c : ℕ) (s : List ℕ) → (x : List ℕ) × (l : List (List ℕ)) × (split c s ≡ x ∷ l)
split_some c [] = ([], [], refl)
split_some c (b ∷ s) = go (eqb b c) (split_some c s)
  where
    go : (t : Bool) → (x : List ℕ) × (l : List (List ℕ)) × (split c s ≡ x ∷ l) → (x : List ℕ) × (l : List (List ℕ)) × (cond t ([] ∷ split c s) (before b (split c s)) ≡ x ∷ l)
    go true r = ([], split c s, refl)
    go false r = (b ∷ r.0, r.1, rw r.2)

-- two parts
split_two : (c : ℕ) (s : List ℕ) → among c s ≡ true → (x : List ℕ) × (y : List ℕ) × (l : List (List ℕ)) × (split c s ≡ x ∷ y ∷ l)
split_two c [] h = absurd (true≢false (sym h))
split_two c (b ∷ s) h = go (eqb b c) h (split_two c s) (split_some c s)
  where
    go : (t : Bool) → t || among c s ≡ true → (among c s ≡ true → (x : List ℕ) × (y : List ℕ) × (l : List (List ℕ)) × (split c s ≡ x ∷ y ∷ l))
        → (x : List ℕ) × (l : List (List ℕ)) × (split c s ≡ x ∷ l) → (x : List ℕ) × (y : List ℕ) × (l : List (List ℕ)) × (cond t ([] ∷ split c s) (before b (split c s)) ≡ x ∷ y ∷ l)
    go true h f r = ([], r.0, r.1, rw r.2)
    go false h f r = let q = f h in (b ∷ q.0, q.1, q.2, rw q.3)

-- a number in front of a colon, and what is behind it
pub two_parts : (p s : List ℕ) → two (p ∷ split 58 s) ≡ both (decimal p) (decimal s)
two_parts p s = go (among 58 s) refl
  where
    no_second : (o : Option ℕ) → ◌≡◌ {A = Option (ℕ × ℕ)} none (both o none)
    no_second none = refl
    no_second (some a) = refl

    go : (t : Bool) → among 58 s ≡ t → two (p ∷ split 58 s) ≡ both (decimal p) (decimal s)
    go true e = let q = split_two 58 s e in rw (q.3, no_decimal 58 refl s e) (no_second (decimal p))
    go false e = rw (split_last 58 s e)

module _ (d : List ℕ) (a e m : ℕ) (inside : e ≤ length d) (u : Until 58 d a e m) where
  -- a pair: the number up to the colon, and the one behind it
  pub pair_parts : m < e → pair_in (span a e d) ≡ both (decimal (span a m d)) (decimal (span (m + 1) e d))
  pair_parts h = ap two (split_next 58 d a e m inside u h) ∙ two_parts (span a m d) (span (m + 1) e d)

  -- no colon, no pair
  pub pair_none : e ≤ m → pair_in (span a e d) ≡ none
  pair_none h = ap two (split_end 58 d a e m inside u h)

  -- it is there where both numbers are
  pub pair_there : m < e → is_some (pair_in (span a e d)) ≡ is_some (decimal (span a m d)) && is_some (decimal (span (m + 1) e d))
  pair_there h = ap is_some (pair_parts h) ∙ go (decimal (span a m d)) (decimal (span (m + 1) e d))
    where
      go : (x y : Option ℕ) → is_some (both x y) ≡ is_some x && is_some y
      go none y = refl
      go (some x) none = refl
      go (some x) (some y) = refl

  -- WHERE A PART SAYS A PAIR
  pub record Paired : Type 0 where
    pub colon : m < e
    pub first : is_some (decimal (span a m d)) ≡ true
    pub second : is_some (decimal (span (m + 1) e d)) ≡ true
    pub says : pair_of (span a e d) ≡ (number_of (span a m d), number_of (span (m + 1) e d))
    pub key : on_opt (pair_in (span a e d)) 0 (λ xe. xe.0) ≡ number_of (span a m d)

  -- of two numbers that are there
  both_there : m < e → (x y : Option ℕ) → decimal (span a m d) ≡ x → decimal (span (m + 1) e d) ≡ y → pair_in (span a e d) ≡ both x y → is_some (both x y) ≡ true → Paired
  both_there h none y p q r t = absurd (true≢false (sym t))
  both_there h (some x) none p q r t = absurd (true≢false (sym t))
  both_there h (some x) (some y) p q r t = record { colon = h; first = rw p; second = rw q; says = rw (r, p, q); key = rw (r, p) }

  -- its colon and its numbers are there
  pub paired : is_some (pair_in (span a e d)) ≡ true → Paired
  paired t = ⊎_elim
      (λ (h : m < e). both_there h (decimal (span a m d)) (decimal (span (m + 1) e d)) refl refl (pair_parts h) (rw (pair_parts h) at t))
      (λ (h : e ≤ m). absurd (true≢false (sym t ∙ ap is_some (pair_none h))))
      (below? m e)
