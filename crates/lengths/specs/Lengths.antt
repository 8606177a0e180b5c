-- A line takes its bytes: one that says a step, a call or an act has at least 15, and a `new` with n pairs at least 4 n - 1. So the lines of a text, each with the
-- LF behind it, say no more moves than a 16th of its bytes, and no more pairs than a quarter.
use Rattle.std.specs.Prelude.{ℕ, ◌+◌, ◌*◌, ◌≤◌, ◌≡◌, refl, ◌⊎◌, Bool, true, ◌&&◌, ◌||◌, List, [], ◌∷◌, eqb, leb, length, get_or}
use Rattle.std.proofs.Common.{inl, inr, arith, eqb-true, leb-true}
use Rattle.std.proofs.Math.Option.{Option, none, some, some-injective, none-ne-some}
use Rattle.lists.specs.Lists.{on_opt, all}
use Rattle.lists.specs.Facts.{eqb_same, or_right, or_cases, and_parts, and_both, All-get_d}
use Rattle.texts.specs.Bytes.{bytes}
use Rattle.texts.specs.Forms.{Said, Val, a_number, Form, forms, fields, values_of, pairs_at_in, said_as, said}
use Rattle.lengths.specs.Counted.{moves_in, pairs_in}
use Rattle.lengths.specs.Weights.{line_bytes, fields_bytes, form_least, Few, line_takes}

-- n bytes are enough for what a line says: a move takes 16 of them, a pair 4
abbrev Enough : ℕ → Said → Type 0
Enough n x = (16 * moves_in x ≤ n) × (4 * pairs_in x ≤ n)

-- how many pairs value 3 has
abbrev fourth : List Val → ℕ
fourth v = length (pairs_at_in (get_or v 3 (a_number 0)))

-- WHAT A FORM SAYS, whatever the values: where it says a move, its lines have 16 bytes with the one behind,
abbrev moves_fit : List Val → Form → Bool
moves_fit v f = leb (16 * moves_in (f.1 v)) (form_least (fields (bytes f.0)))

-- and it says no pairs, or those of value 3
abbrev pairs_fit : List Val → Form → Bool
pairs_fit v f = eqb (pairs_in (f.1 v)) 0 || eqb (pairs_in (f.1 v)) (fourth v)

-- both tests
abbrev fits : List Val → Form → Bool
fits v f = moves_fit v f && pairs_fit v f

-- a number that is 0 or n is at most n
none_or : (m n : ℕ) → eqb m 0 || eqb m n ≡ true → m ≤ n
none_or m n h = go (or_cases (eqb m 0) (eqb m n) h)
  where
    go : (eqb m 0 ≡ true) ⊎ (eqb m n ≡ true) → m ≤ n
    go (inl e) = omega (arith, eqb-true m 0 e)
    go (inr e) = omega (arith, eqb-true m n e)

-- it is so of the 44 forms
forms_fit : (v : List Val) → all (fits v) forms ≡ true
forms_fit v = let n = fourth v in and_both (eqb n 0 || eqb n n) true (or_right (eqb n 0) (eqb n n) (eqb_same n)) refl

-- A line in one of such forms has enough bytes;
as_bytes : (fs : List Form) (g : List (List (List ℕ))) (x : Said) → ((v : List Val) → all (fits v) fs ≡ true) → said_as fs g ≡ some x → Enough (line_bytes g) x
as_bytes [] g x h e = absurd (none-ne-some _ e)
as_bytes (f ∷ fs) g x h e = go (values_of (fields (bytes f.0)) g) refl (as_bytes fs g x (λ v. (and_parts (fits v f) (all (fits v) fs) (h v)).1)) e
  where
    go : (o : Option (List Val)) → values_of (fields (bytes f.0)) g ≡ o → (said_as fs g ≡ some x → Enough (line_bytes g) x)
        → on_opt o (said_as fs g) (λ v. some (f.1 v)) ≡ some x → Enough (line_bytes g) x
    go none a k e = k e
    go (some v) a k e =
        let t = line_takes (fields (bytes f.0)) g v a in
        let s = and_parts (moves_fit v f) (pairs_fit v f) (and_parts (fits v f) (all (fits v) fs) (h v)).0 in
        let p = All-get_d (Few (line_bytes g)) (a_number 0) v 3 (omega arith) t.pairs in
        rw (← some-injective _ _ e) (omega (arith, t.bytes, leb-true (16 * moves_in (f.1 v)) (form_least (fields (bytes f.0))) s.0), omega (arith, p, none_or (pairs_in (f.1 v)) (fourth v) s.1))

-- so has every line. THE BYTES OF A LINE, by what it says
pub said_bytes : (l : List ℕ) (x : Said) → said l ≡ some x → (16 * moves_in x ≤ length l + 1) × (4 * pairs_in x ≤ length l + 1)
unfolding said
said_bytes l x e = rw fields_bytes at (as_bytes forms (fields l) x forms_fit e)
