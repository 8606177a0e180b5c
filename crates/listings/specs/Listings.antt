-- The lists of a part of a text: `defer` has numbers, `init` pairs of numbers. What each part between the commas says, and what the whole does.
use Rattle.std.specs.Prelude.{ℕ, ◌≡◌, refl, Bool, true, false, cond, ◌&&◌, List, [], ◌∷◌, map, eqb, length, get_or}
use Rattle.std.proofs.Common.{ap, sym, ◌∙◌, true≢false, arith}
use Rattle.std.proofs.Math.Option.{Option, none, some}
use Rattle.std.proofs.Math.Bool.{and-true}
use Rattle.lists.specs.Lists.{on_opt, is_some, all, same}
use Rattle.lists.specs.Facts.{same_equal}
use Rattle.texts.specs.Bytes.{bytes, split, more, each, only}
use Rattle.texts.specs.Numbers.{digit, value, plain, decimal, listed, numbers, two, pairs}

-- what is there, or else z
abbrev pub or_else : {A : Type 0} → A → Option A → A
or_else z o = on_opt o z (λ a. a)

-- `none`, the list of nothing
abbrev pub is_none : List ℕ → Bool
is_none d = same d (bytes "none")

-- the numbers of a list; none where the bytes are no list of numbers
abbrev pub list_of : List ℕ → List ℕ
list_of d = or_else [] (numbers d)

-- the pairs of a list; none where the bytes are no list of pairs
abbrev pub pair_list : List ℕ → List (ℕ × ℕ)
pair_list d = or_else [] (pairs d)

-- the number that a part says, 0 where it says none
abbrev pub number_of : List ℕ → ℕ
number_of x = or_else 0 (decimal x)

-- the pair that a part says: `3:7`
abbrev pub pair_in : List ℕ → Option (ℕ × ℕ)
pair_in x = two (split 58 x)

-- the pair, of two zeros where it says none
abbrev pub pair_of : List ℕ → ℕ × ℕ
pair_of x = or_else (0, 0) (pair_in x)

-- A NUMBER IN ITS DIGITS
pub record Written (x : List ℕ) : Type 0 where
  pub lead : plain x ≡ true
  pub digits : all digit x ≡ true
  pub says : number_of x ≡ value 0 x

-- where a part says a number
pub written : (x : List ℕ) → is_some (decimal x) ≡ true → Written x
written x h = go (plain x) (all digit x) refl refl h
  where
    go : (p q : Bool) → plain x ≡ p → all digit x ≡ q → is_some (cond (p && q) (some (value 0 x)) none) ≡ true → Written x
    go true true e f h = record { lead = e; digits = f; says = rw (e, f) }
    go true false e f h = absurd (true≢false (sym h))
    go false q e f h = absurd (true≢false (sym h))

-- what is there: so a list that is there is `list_of`, or `pair_list`
pub some_is : {A : Type 0} (z : A) (o : Option A) → is_some o ≡ true → o ≡ some (or_else z o)
some_is z none h = absurd (true≢false (sym h))
some_is z (some a) h = refl

-- WHAT EVERY PART SAYS
module _ {A : Type 0} (f : List ℕ → Option A) (z : A) where
  -- where all of the parts say something, the list has what each says
  pub each_says : (ps : List (List ℕ)) → is_some (each f ps) ≡ true → each f ps ≡ some (map (λ p. or_else z (f p)) ps)
  each_says [] h = refl
  each_says (p ∷ ps) h = go (f p) (each f ps) refl refl h (each_says ps)
    where
      go : (o : Option A) (m : Option (List A)) → f p ≡ o → each f ps ≡ m → is_some (more o m) ≡ true
          → (is_some m ≡ true → m ≡ some (map (λ q. or_else z (f q)) ps)) → more o m ≡ some (or_else z o ∷ map (λ q. or_else z (f q)) ps)
      go none m e g h ih = absurd (true≢false (sym h))
      go (some a) none e g h ih = absurd (true≢false (sym h))
      go (some a) (some l) e g h ih = ap (more (some a)) (ih refl)

  -- the first of the parts, and the others
  pub each_parts : (p : List ℕ) (ps : List (List ℕ)) → is_some (each f (p ∷ ps)) ≡ true → (is_some (f p) ≡ true) × (is_some (each f ps) ≡ true)
  each_parts p ps h = go (f p) (each f ps) h
    where
      go : (o : Option A) (m : Option (List A)) → is_some (more o m) ≡ true → (is_some o ≡ true) × (is_some m ≡ true)
      go none m h = absurd (true≢false (sym h))
      go (some a) none h = absurd (true≢false (sym h))
      go (some a) (some l) h = (refl, refl)

-- what passes a test is what was there
only_there : {A : Type 0} (t : A → Bool) (o : Option A) → is_some (only t o) ≡ true → (is_some o ≡ true) × (only t o ≡ o)
only_there t none h = absurd (true≢false (sym h))
only_there t (some a) h = go (t a) h
  where
    go : (b : Bool) → is_some (cond b (some a) none) ≡ true → (true ≡ true) × (cond b (some a) none ≡ some a)
    go true h = (refl, refl)
    go false h = absurd (true≢false (sym h))

-- A list that is there and not `none` has what each of its parts says.
module _ {A : Type 0} (f : List ℕ → Option A) (z : A) (t : List A → Bool) (d : List ℕ) (n : is_none d ≡ false) where
  -- each part says something,
  pub listed_there : is_some (only t (listed f d)) ≡ true → is_some (each f (split 44 d)) ≡ true
  listed_there h = rw n at (only_there t (listed f d) h).0

  -- and that is the list.
  pub listed_says : is_some (only t (listed f d)) ≡ true → or_else [] (only t (listed f d)) ≡ map (λ p. or_else z (f p)) (split 44 d)
  listed_says h =
      let e : listed f d ≡ some (map (λ p. or_else z (f p)) (split 44 d)) = rw n (each_says f z (split 44 d) (listed_there h)) in
      ap (or_else []) ((only_there t (listed f d) h).1 ∙ e)

-- `none` is the list of nothing
pub none_lists : {A : Type 0} (f : List ℕ → Option A) (t : List A → Bool) (d : List ℕ) → t [] ≡ true → is_none d ≡ true → only t (listed f d) ≡ some []
none_lists f t d e n = rw (n, e)

-- A list that is not there has nothing.
pub none_there : {A : Type 0} (o : Option (List A)) → is_some o ≡ false → or_else [] o ≡ []
none_there none h = refl
none_there (some l) h = absurd (true≢false h)

-- THE BYTES `none`
-- not four
pub none_four : (d : List ℕ) → (length d ≡ 4 → ⊥) → is_none d ≡ false
none_four d h = go (is_none d) refl
  where
    go : (t : Bool) → is_none d ≡ t → t ≡ false
    go true e = absurd (h (ap length (same_equal d (bytes "none") e)))
    go false e = refl

-- four: each is one of them
pub none_each : (d : List ℕ) → length d ≡ 4 → is_none d ≡ eqb (get_or d 0 0) 110 && (eqb (get_or d 1 0) 111 && (eqb (get_or d 2 0) 110 && eqb (get_or d 3 0) 101))
none_each [] h = absurd (omega arith)
none_each (a ∷ []) h = absurd (omega arith)
none_each (a ∷ b ∷ []) h = absurd (omega arith)
none_each (a ∷ b ∷ c ∷ []) h = absurd (omega arith)
none_each (a ∷ b ∷ c ∷ e ∷ []) h = ap (λ t. eqb a 110 && (eqb b 111 && (eqb c 110 && t))) (and-true (eqb e 101))
none_each (a ∷ b ∷ c ∷ e ∷ f ∷ d) h = absurd (omega arith)
