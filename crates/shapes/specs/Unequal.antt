-- Bytes with a '=' (61) among them are no value of any form: no number, no list, no pairs, and no word that has none.
use Rattle.std.specs.Prelude.{ℕ, ◌≡◌, refl, Bool, true, false, cond, ◌||◌, List, [], ◌∷◌, eqb}
use Rattle.std.proofs.Common.{ap, sym, ◌∙◌, true≢false, eqb-true, eq-eqb}
use Rattle.std.proofs.Math.Option.{Option, none, some}
use Rattle.lists.specs.Lists.{any, same}
use Rattle.lists.specs.Facts.{same_other}
use Rattle.texts.specs.Bytes.{bytes, before, split, both, more, each}
use Rattle.texts.specs.Numbers.{decimal, signed, two, numbers, pairs}
use Rattle.texts.specs.Forms.{value_of}
use Rattle.numerals.specs.Splits.{among, no_decimal}

-- the same on both sides of a test
pub cond_same : {A : Type 0} (p : Bool) (x : A) → cond p x x ≡ x
cond_same true x = refl
cond_same false x = refl

-- bytes with a '=' are not `none`
not_none : (d : List ℕ) → among 61 d ≡ true → same d (bytes "none") ≡ false
not_none d h = same_other d (bytes "none") (λ e. true≢false (sym h ∙ ap (among 61) e))

-- no number with a minus
no_signed : (d : List ℕ) → among 61 d ≡ true → signed d ≡ none
no_signed [] h = refl
no_signed (b ∷ d) h = go (eqb b 45) refl
  where
    go : (p : Bool) → eqb b 45 ≡ p → signed (b ∷ d) ≡ none
    go true e =
        let n : eqb b 61 ≡ false = rw (eqb-true b 45 e) in
        let k : among 61 d ≡ true = rw n at h in
        rw (e, no_decimal 61 refl d k)
    go false e = rw (e, no_decimal 61 refl (b ∷ d) h)

-- where a test fails for one element, it fails for all
each_none : {A : Type 0} (f : List ℕ → Option A) (l : List (List ℕ)) → ((x : List ℕ) → among 61 x ≡ true → f x ≡ none) → any (among 61) l ≡ true → each f l ≡ none
each_none f [] k h = absurd (true≢false (sym h))
each_none {A} f (x ∷ l) k h = go (among 61 x) refl h (each_none f l k)
  where
    go : (p : Bool) → among 61 x ≡ p → p || any (among 61) l ≡ true → (any (among 61) l ≡ true → each f l ≡ none) → more (f x) (each f l) ≡ none
    go true e h i = rw (k x e)
    go false e h i = rw (i h) (last (f x))
      where
        last : (o : Option A) → more o none ≡ none
        last none = refl
        last (some a) = refl

-- a byte stands in one of the parts between others
part_holds : (c : ℕ) → eqb c 61 ≡ false → (d : List ℕ) → among 61 d ≡ true → any (among 61) (split c d) ≡ true
part_holds c n [] h = absurd (true≢false (sym h))
part_holds c n (b ∷ d) h = go (eqb b c) (eqb b 61) refl refl h (part_holds c n d)
  where
    first : (l : List (List ℕ)) → eqb b 61 ≡ true → any (among 61) (before b l) ≡ true
    first [] e = rw e
    first (x ∷ l) e = rw e

    next : (l : List (List ℕ)) → any (among 61) l ≡ true → any (among 61) (before b l) ≡ true
    next [] e = absurd (true≢false (sym e))
    next (x ∷ l) e = front (eqb b 61) e
      where
        front : (p : Bool) → among 61 x || any (among 61) l ≡ true → p || among 61 x || any (among 61) l ≡ true
        front true e = refl
        front false e = e

    go : (p q : Bool) → eqb b c ≡ p → eqb b 61 ≡ q → q || among 61 d ≡ true → (among 61 d ≡ true → any (among 61) (split c d) ≡ true) → any (among 61) (cond p ([] ∷ split c d) (before b (split c d))) ≡ true
    go true true e f h k = absurd (true≢false (sym (eq-eqb c 61 (sym (eqb-true b c e) ∙ eqb-true b 61 f)) ∙ n))
    go true false e f h k = k h
    go false true e f h k = first (split c d) f
    go false false e f h k = next (split c d) (k h)

-- no list
no_numbers : (d : List ℕ) → among 61 d ≡ true → numbers d ≡ none
no_numbers d h = rw (not_none d h, each_none decimal (split 44 d) (no_decimal 61 refl) (part_holds 44 refl d h))

-- no pair
no_two : (x : List ℕ) → among 61 x ≡ true → two (split 58 x) ≡ none
no_two x h = go (split 58 x) (part_holds 58 refl x h)
  where
    go : (l : List (List ℕ)) → any (among 61) l ≡ true → two l ≡ none
    go [] e = refl
    go (a ∷ []) e = refl
    go (a ∷ b ∷ c ∷ l) e = refl
    go (a ∷ b ∷ []) e = two_parts (among 61 a) (among 61 b) refl refl e
      where
        two_parts : (p q : Bool) → among 61 a ≡ p → among 61 b ≡ q → p || (q || false) ≡ true → two (a ∷ b ∷ []) ≡ none
        two_parts true q f g e = rw (no_decimal 61 refl a f)
        two_parts false true f g e = rw (no_decimal 61 refl b g) (last (decimal a))
          where
            last : (o : Option ℕ) → both {B = ℕ} o none ≡ none
            last none = refl
            last (some a) = refl
        two_parts false false f g e = absurd (true≢false (sym e))

-- no pairs
no_pairs : (d : List ℕ) → among 61 d ≡ true → pairs d ≡ none
no_pairs d h = rw (not_none d h, each_none (λ x. two (split 58 x)) (split 44 d) no_two (part_holds 44 refl d h))

-- NO VALUE of a form whose own has no '='
pub no_value : (h d : List ℕ) → among 61 h ≡ false → among 61 d ≡ true → value_of h d ≡ none
no_value h d p q = rw (no_decimal 61 refl d q, no_signed d q, no_numbers d q, no_pairs d q, same_other h d (λ e. true≢false (sym q ∙ ap (among 61) (sym e) ∙ p))) (simp cond_same)
