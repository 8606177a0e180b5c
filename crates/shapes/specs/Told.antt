-- THE VALUES of a line in a form, as crates/texts has them, are those that are read byte by byte.
use Rattle.std.specs.Prelude.{ℕ, ◌≡◌, refl, Bool, true, false, not, cond, ◌&&◌, ◌||◌, List, [], ◌∷◌, eqb}
use Rattle.std.proofs.Common.{ap, sym, ◌∙◌, true≢false, eqb-true, eq-eqb, ne_eqb}
use Rattle.std.proofs.Math.Option.{Option, none, some}
use Rattle.std.proofs.lemmas.Bool.{eqb-false, not-true}
use Rattle.lists.specs.Lists.{same}
use Rattle.lists.specs.Facts.{and_parts, or_none}
use Rattle.texts.specs.Forms.{Val, value_of, field_of, fields, values_of}
use Rattle.numerals.specs.Splits.{among, split_last}
use Rattle.shapes.specs.Parts.{till, later, split_parts}
use Rattle.shapes.specs.Reads.{hole, after, joined, reads, Place, key, value, word, end, plain, formed}
use Rattle.shapes.specs.Fields.{tails, first, keyed, fields_first, values_keyed, first_on, first_equals, tails_on, first_space, tails_space, field_early, field_late, field_on, field_value, joined_nil, joined_cond}

-- what a plain byte is not
record Plain (c : ℕ) : Type 0 where
  free : hole c ≡ false
  unequal : eqb c 61 ≡ false
  near : eqb c 32 ≡ false

-- by its test
is_plain : (c : ℕ) → plain c ≡ true → Plain c
is_plain c h =
    let b = and_parts (not (hole c) && not (eqb c 61)) (not (eqb c 32)) h in
    let d = and_parts (not (hole c)) (not (eqb c 61)) b.0 in
    record { free = not-true (hole c) d.0; unequal = not-true (eqb c 61) d.1; near = not-true (eqb c 32) b.1 }

-- two bytes of which one is x and the other not
differ : (c b x : ℕ) → eqb c x ≡ false → eqb b x ≡ true → eqb c b ≡ false
differ c b x e f = ne_eqb c b (λ g. eqb-false c x e (g ∙ eqb-true b x f))

-- the same with the sides changed
differ' : (c b x : ℕ) → eqb c x ≡ true → eqb b x ≡ false → eqb c b ≡ false
differ' c b x e f = ne_eqb c b (λ g. eqb-false b x f (sym g ∙ eqb-true c x e))

-- IN A KEY: one byte more
key_on : (c : ℕ) (t : List ℕ) → Plain c → ((l : List ℕ) → keyed t l ≡ reads t l) → (l : List ℕ) → keyed (c ∷ t) l ≡ reads (c ∷ t) l
unfolding reads
key_on c t p k [] =
    rw (p.free, first_on c t p.near p.unequal, field_early c (till 61 (till 32 t)) (later 61 (till 32 t)) [])
key_on c t p k (b ∷ l) = go (eqb b 32) (eqb b 61) refl refl
  where
    go : (x y : Bool) → eqb b 32 ≡ x → eqb b 61 ≡ y → keyed (c ∷ t) (b ∷ l) ≡ reads (c ∷ t) (b ∷ l)
    go true y e f =
        rw (first_on c t p.near p.unequal, first_space b l e, field_early c (till 61 (till 32 t)) (later 61 (till 32 t)) [], p.free, differ c b 32 p.near e)
    go false true e f =
        rw (first_on c t p.near p.unequal, first_equals b l e f, field_early c (till 61 (till 32 t)) (later 61 (till 32 t)) (first l), p.free, differ c b 61 p.unequal f)
    go false false e f =
        rw (
          first_on c t p.near p.unequal,
          first_on b l e f,
          field_on c (till 61 (till 32 t)) (later 61 (till 32 t)) b (till 61 (till 32 l)) (later 61 (till 32 l)),
          tails_on c t p.near,
          tails_on b l e,
          p.free,
          ← split_parts 61 (till 32 t),
          ← split_parts 61 (till 32 l),
        )
        (joined_cond (eqb c b) (field_of (first t) (first l)) (values_of (tails t) (tails l)) ∙ ap (λ x. cond (eqb c b) x none) (k l))

-- AT THE '=' of the form, where its value has no other
equals_on : (c : ℕ) (t : List ℕ) → eqb c 61 ≡ true → among 61 (till 32 t) ≡ false → ((l : List ℕ) → joined (value_of (till 32 t) (till 32 l)) (values_of (tails t) (tails l)) ≡ reads t l)
    → (l : List ℕ) → keyed (c ∷ t) l ≡ reads (c ∷ t) l
unfolding reads
equals_on c t q n k l = over l
  where
    far : eqb c 32 ≡ false
    far = rw (eqb-true c 61 q)

    free : hole c ≡ false
    free = rw (eqb-true c 61 q)

    two : first (c ∷ t) ≡ [] ∷ till 32 t ∷ []
    two = rw (first_equals c t far q, split_last 61 (till 32 t) n)

    over : (l : List ℕ) → keyed (c ∷ t) l ≡ reads (c ∷ t) l
    over [] = rw (two, free)
    over (b ∷ l) = go (eqb b 32) (eqb b 61) refl refl
      where
        go : (x y : Bool) → eqb b 32 ≡ x → eqb b 61 ≡ y → keyed (c ∷ t) (b ∷ l) ≡ reads (c ∷ t) (b ∷ l)
        go true y e f =
            let g : eqb b 61 ≡ false = rw (eqb-true b 32 e) in
            rw (two, first_space b l e, free, differ' c b 61 q g)
        go false true e f =
            rw (two, first_equals b l e f, field_value (till 32 t) (till 32 l) n, tails_on c t far, tails_on b l e, free, eq-eqb c b (eqb-true c 61 q ∙ sym (eqb-true b 61 f))) (k l)
        go false false e f = rw (two, first_on b l e f, field_late (till 32 t) b (till 61 (till 32 l)) (later 61 (till 32 l)), free, differ' c b 61 q f)

-- BEHIND A HOLE, at the form's end
end_none : (l : List ℕ) → values_of [] (tails l) ≡ reads [] (after l)
unfolding reads
end_none [] = refl
end_none (b ∷ l) = go (eqb b 32) refl (end_none l)
  where
    go : (x : Bool) → eqb b 32 ≡ x → values_of [] (tails l) ≡ reads [] (after l) → values_of [] (tails (b ∷ l)) ≡ reads [] (after (b ∷ l))
    go true e h = rw (tails_space b l e, fields_first l, e)
    go false e h = rw (tails_on b l e, e) h

-- and at a space of it
end_more : (c : ℕ) (t : List ℕ) → eqb c 32 ≡ true → ((l : List ℕ) → values_of (fields t) (fields l) ≡ reads t l) → (l : List ℕ) → values_of (tails (c ∷ t)) (tails l) ≡ reads (c ∷ t) (after l)
unfolding reads
end_more c t q k [] =
    let free : hole c ≡ false = rw (eqb-true c 32 q) in
    rw (tails_space c t q, fields_first t, free)
end_more c t q k (b ∷ l) = go (eqb b 32) refl (end_more c t q k l)
  where
    free : hole c ≡ false
    free = rw (eqb-true c 32 q)

    go : (x : Bool) → eqb b 32 ≡ x → values_of (tails (c ∷ t)) (tails l) ≡ reads (c ∷ t) (after l) → values_of (tails (c ∷ t)) (tails (b ∷ l)) ≡ reads (c ∷ t) (after (b ∷ l))
    go true e h = rw (tails_space c t q, tails_space b l e, e, free, eq-eqb c b (eqb-true c 32 q ∙ sym (eqb-true b 32 e))) (k l)
    go false e h = rw (tails_on b l e, e) h

-- IN A WORD: the values of the others where the words are the same
abbrev worded : List ℕ → List ℕ → Option (List Val)
worded t l = joined (cond (same (till 32 t) (till 32 l)) (some []) none) (values_of (tails t) (tails l))

-- at the form's end
word_none : (l : List ℕ) → worded [] l ≡ reads [] l
unfolding reads
word_none [] = refl
word_none (b ∷ l) = go (eqb b 32) refl
  where
    go : (x : Bool) → eqb b 32 ≡ x → worded [] (b ∷ l) ≡ reads [] (b ∷ l)
    go true e = rw (tails_space b l e, fields_first l, e)
    go false e = rw e

-- at a space of it
word_space : (c : ℕ) (t : List ℕ) → eqb c 32 ≡ true → ((l : List ℕ) → values_of (fields t) (fields l) ≡ reads t l) → (l : List ℕ) → worded (c ∷ t) l ≡ reads (c ∷ t) l
unfolding reads
word_space c t q k [] =
    let free : hole c ≡ false = rw (eqb-true c 32 q) in
    rw (tails_space c t q, fields_first t, q, free)
word_space c t q k (b ∷ l) = go (eqb b 32) refl
  where
    free : hole c ≡ false
    free = rw (eqb-true c 32 q)

    go : (x : Bool) → eqb b 32 ≡ x → worded (c ∷ t) (b ∷ l) ≡ reads (c ∷ t) (b ∷ l)
    go true e = rw (tails_space c t q, tails_space b l e, e, q, free, eq-eqb c b (eqb-true c 32 q ∙ sym (eqb-true b 32 e))) (joined_nil (values_of (fields t) (fields l)) ∙ k l)
    go false e = rw (e, q, free, differ' c b 32 q e)

-- at another byte
word_on : (c : ℕ) (t : List ℕ) → Plain c → ((l : List ℕ) → worded t l ≡ reads t l) → (l : List ℕ) → worded (c ∷ t) l ≡ reads (c ∷ t) l
unfolding reads
word_on c t p k [] = rw (p.near, p.free)
word_on c t p k (b ∷ l) = go (eqb b 32) refl
  where
    split_test : (x y : Bool) → joined (cond (x && y) (some []) none) (values_of (tails t) (tails l)) ≡ cond x (joined (cond y (some []) none) (values_of (tails t) (tails l))) none
    split_test true y = refl
    split_test false y = refl

    go : (x : Bool) → eqb b 32 ≡ x → worded (c ∷ t) (b ∷ l) ≡ reads (c ∷ t) (b ∷ l)
    go true e = rw (p.near, e, p.free, differ c b 32 p.near e)
    go false e = rw (tails_on c t p.near, tails_on b l e, p.near, e, p.free) (split_test (eqb c b) (same (till 32 t) (till 32 l)) ∙ ap (λ x. cond (eqb c b) x none) (k l))

-- a hole is no byte x that is none
hole_other : (c x : ℕ) → hole x ≡ false → hole c ≡ true → eqb c x ≡ false
hole_other c x n h = go (eqb c x) refl
  where
    go : (y : Bool) → eqb c x ≡ y → y ≡ false
    go true e = absurd (true≢false (sym h ∙ ap hole (eqb-true c x e) ∙ n))
    go false e = refl

-- behind a hole the value ends
ended : (t : List ℕ) → formed end t ≡ true → till 32 t ≡ []
unfolding formed
ended [] h = refl
ended (c ∷ t) h = rw (and_parts (eqb c 32) (formed key t) h).0

-- a word has no '='
word_lone : (t : List ℕ) → formed word t ≡ true → among 61 (till 32 t) ≡ false
unfolding formed
word_lone [] h = refl
word_lone (c ∷ t) h = go (eqb c 32) refl h (word_lone t)
  where
    go : (x : Bool) → eqb c 32 ≡ x → cond x (formed key t) (plain c && formed word t) ≡ true → (formed word t ≡ true → among 61 (till 32 t) ≡ false) → among 61 (till 32 (c ∷ t)) ≡ false
    go true e h k = rw e
    go false e h k =
        let p = and_parts (plain c) (formed word t) h in
        rw (e, (is_plain c p.0).unequal) (k p.1)

-- a value has none
value_lone : (t : List ℕ) → formed value t ≡ true → among 61 (till 32 t) ≡ false
unfolding formed
value_lone [] h = absurd (true≢false (sym h))
value_lone (c ∷ t) h = go (hole c) refl h
  where
    go : (x : Bool) → hole c ≡ x → cond x (formed end t) (plain c && formed word t) ≡ true → among 61 (till 32 (c ∷ t)) ≡ false
    go true e h = rw (hole_other c 32 refl e, ended t h, hole_other c 61 refl e)
    go false e h =
        let p = and_parts (plain c) (formed word t) h in
        let q = is_plain c p.0 in
        rw (q.near, q.unequal) (word_lone t p.1)

-- a value that begins with no hole stands for itself
value_word : (c : ℕ) (h d : List ℕ) → hole c ≡ false → value_of (c ∷ h) d ≡ cond (same (c ∷ h) d) (some []) none
value_word c h d n =
    let a = or_none (eqb c 35 || eqb c 126 || eqb c 64) (eqb c 37) n in
    let b = or_none (eqb c 35 || eqb c 126) (eqb c 64) a.0 in
    let e = or_none (eqb c 35) (eqb c 126) b.0 in
    rw (e.0, e.1, b.1, a.1)

-- what is to be told at each place of a form
abbrev Tells : Place → List ℕ → Type 0
Tells key t = (l : List ℕ) → keyed t l ≡ reads t l
Tells value t = (l : List ℕ) → joined (value_of (till 32 t) (till 32 l)) (values_of (tails t) (tails l)) ≡ reads t l
Tells word t = (l : List ℕ) → worded t l ≡ reads t l
Tells end t = (l : List ℕ) → values_of (tails t) (tails l) ≡ reads t (after l)

-- AT A VALUE: a hole
value_hole : (c : ℕ) (t : List ℕ) → hole c ≡ true → till 32 t ≡ [] → Tells end t → Tells value (c ∷ t)
unfolding reads
value_hole c t h e k l =
    let far : eqb c 32 ≡ false = hole_other c 32 refl h in
    rw (tails_on c t far, far, e, h) (ap (joined (value_of (c ∷ []) (till 32 l))) (k l))

-- or a word
value_plain : (c : ℕ) (t : List ℕ) → Plain c → Tells word t → Tells value (c ∷ t)
value_plain c t p k l =
    let e : value_of (till 32 (c ∷ t)) (till 32 l) ≡ cond (same (till 32 (c ∷ t)) (till 32 l)) (some []) none = rw p.near (value_word c (till 32 t) (till 32 l) p.free) in
    ap (λ x. joined x (values_of (tails (c ∷ t)) (tails l))) e ∙ word_on c t p k l

-- at every place
tells : (m : Place) (t : List ℕ) → formed m t ≡ true → Tells m t
unfolding formed
tells key [] h = absurd (true≢false (sym h))
tells key (c ∷ t) h = go (eqb c 61) refl h (tells value t) (tells key t)
  where
    go : (x : Bool) → eqb c 61 ≡ x → cond x (formed value t) (plain c && formed key t) ≡ true → (formed value t ≡ true → Tells value t) → (formed key t ≡ true → Tells key t) → Tells key (c ∷ t)
    go true e h v k = equals_on c t e (value_lone t h) (v h)
    go false e h v k = let p = and_parts (plain c) (formed key t) h in key_on c t (is_plain c p.0) (k p.1)
tells value [] h = absurd (true≢false (sym h))
tells value (c ∷ t) h = go (hole c) refl h (tells end t) (tells word t)
  where
    go : (x : Bool) → hole c ≡ x → cond x (formed end t) (plain c && formed word t) ≡ true → (formed end t ≡ true → Tells end t) → (formed word t ≡ true → Tells word t) → Tells value (c ∷ t)
    go true e h v k = value_hole c t e (ended t h) (v h)
    go false e h v k = let p = and_parts (plain c) (formed word t) h in value_plain c t (is_plain c p.0) (k p.1)
tells word [] h = word_none
tells word (c ∷ t) h = go (eqb c 32) refl h (tells key t) (tells word t)
  where
    go : (x : Bool) → eqb c 32 ≡ x → cond x (formed key t) (plain c && formed word t) ≡ true → (formed key t ≡ true → Tells key t) → (formed word t ≡ true → Tells word t) → Tells word (c ∷ t)
    go true e h v k = word_space c t e (λ l. values_keyed t l ∙ v h l)
    go false e h v k = let p = and_parts (plain c) (formed word t) h in word_on c t (is_plain c p.0) (k p.1)
tells end [] h = end_none
tells end (c ∷ t) h =
    let p = and_parts (eqb c 32) (formed key t) h in
    let k = tells key t p.1 in
    end_more c t p.0 (λ l. values_keyed t l ∙ k l)

-- THE VALUES of a line in a form of fields
pub values_read : (t l : List ℕ) → formed key t ≡ true → values_of (fields t) (fields l) ≡ reads t l
values_read t l h = values_keyed t l ∙ tells key t h l
