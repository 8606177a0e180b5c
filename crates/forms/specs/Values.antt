-- What a line says by the values at their places, where each is known to be there.
use Rattle.std.specs.Prelude.{ℕ, zero, suc, ◌+◌, ◌<◌, ◌≡◌, refl, Bool, true, false, cond, ◌||◌, List, [], ◌∷◌, map, eqb, pos, length, drop, get_or}
use Rattle.std.proofs.Common.{sym, ◌∙◌, subst, ⊎_elim, arith, eqb-true}
use Rattle.std.proofs.Math.Option.{Option, none, some}
use Rattle.lists.specs.Facts.{and_parts, or_cases}
use Rattle.lists.specs.Lists.{on_opt, is_some, push, keep, all}
use Rattle.texts.specs.Bytes.{bytes}
use Rattle.texts.specs.Numbers.{decimal, signed, numbers, pairs}
use Rattle.texts.specs.Forms.{Val, a_number, an_integer, a_list, some_pairs, one, value_of, Said, start_line, Form as Shape, forms, said}
use Rattle.readers.specs.Words.{word}
use Rattle.shapes.specs.Reads.{hole, joined}
use Rattle.shapes.specs.Lines.{line_of}
use Rattle.shapes.specs.Scan.{held}
use Rattle.scans.specs.Holes.{at_list, at_pairs}
use Rattle.forms.specs.declared.Form.{Form}
use Rattle.forms.specs.Recognised.{holes, row_holes, spoken_as, Recognised}

-- the value of the bytes d for the hole h; 0 or nothing where they are none
abbrev pub value_as : ℕ → List ℕ → Val
value_as h d =
    let number = a_number (on_opt (decimal d) 0 (λ n. n)) in
    let integer = an_integer (on_opt (signed d) (pos 0) (λ z. z)) in
    let list = a_list (on_opt (numbers d) [] (λ l. l)) in
    let several = some_pairs (on_opt (pairs d) [] (λ l. l)) in
    cond (eqb h 35) number (cond (eqb h 126) integer (cond (eqb h 64) list several))

-- the values at the places p of the text s, the first at place number n
abbrev pub values_as : List ℕ → List ℕ → List ℕ → ℕ → List Val
values_as [] s p n = []
values_as (h ∷ hs) s p n = value_as h (word (drop (get_or p n 0) s)) ∷ values_as hs s p (n + 1)

-- what a line in the form f says
abbrev pub saying : List ℕ → List ℕ → Shape → Said
saying s p f = f.1 (values_as (holes f) s p 0)

-- a value that is there
one_there : {A : Type 0} (f : A → Val) (d : A) (o : Option A) → is_some (one f o) ≡ true → one f o ≡ some (f (on_opt o d (λ a. a)) ∷ [])
one_there f d none h = absurd (let z : ◌≡◌ {A = ℕ} 0 1 = cc in omega arith)
one_there f d (some a) h = refl

-- for a hole h
abbrev There : List ℕ → ℕ → Type 0
There d h = is_some (value_of (h ∷ []) d) ≡ true → value_of (h ∷ []) d ≡ some (value_as h d ∷ [])

-- for each of the four
value_there : (h : ℕ) (d : List ℕ) → hole h ≡ true → There d h
value_there h d k = ⊎_elim
    (λ x. ⊎_elim
    (λ y. ⊎_elim
    (λ z. subst (There d) (sym (eqb-true h 35 z)) (one_there a_number 0 (decimal d)))
    (λ z. subst (There d) (sym (eqb-true h 126 z)) (one_there an_integer (pos 0) (signed d)))
    (or_cases (eqb h 35) (eqb h 126) y))
    (λ y. subst (There d) (sym (eqb-true h 64 y)) (one_there a_list [] (numbers d)))
    (or_cases (eqb h 35 || eqb h 126) (eqb h 64) x))
    (λ x. subst (There d) (sym (eqb-true h 37 x)) (one_there some_pairs [] (pairs d)))
    (or_cases (eqb h 35 || eqb h 126 || eqb h 64) (eqb h 37) k)

-- both values are there where they are joined
joined_there : (x y : Option (List Val)) → is_some (joined x y) ≡ true → (is_some x ≡ true) × (is_some y ≡ true)
joined_there none y h = absurd (let z : ◌≡◌ {A = ℕ} 0 1 = cc in omega arith)
joined_there (some v) none h = absurd (let z : ◌≡◌ {A = ℕ} 0 1 = cc in omega arith)
joined_there (some v) (some w) h = (refl, refl)

-- all values that are there
held_there : (hs s p : List ℕ) (n : ℕ) → all hole hs ≡ true → is_some (held hs s p n) ≡ true → held hs s p n ≡ some (values_as hs s p n)
held_there [] s p n a h = refl
held_there (h ∷ hs) s p n a t =
    let b = and_parts (hole h) (all hole hs) a in
    let q = joined_there (value_of (h ∷ []) (word (drop (get_or p n 0) s))) (held hs s p (n + 1)) t in
    rw (value_there h (word (drop (get_or p n 0) s)) b.0 q.0, held_there hs s p (n + 1) b.1 q.1)

-- the holes of a form are holes
all_holes : (t : List ℕ) → all hole (keep hole t) ≡ true
all_holes [] = refl
all_holes (c ∷ t) = go (hole c) refl (all_holes t)
  where
    go : (x : Bool) → hole c ≡ x → all hole (keep hole t) ≡ true → all hole (push x c (keep hole t)) ≡ true
    go true e h = rw (e, h)
    go false e h = h

-- what form number k says
spoken_there : (fs : List Shape) (s : List ℕ) (k : ℕ) (p : List ℕ) → k < length fs → is_some (held (row_holes fs k) s p 0) ≡ true → spoken_as fs s k p ≡ some (get_or (map (saying s p) fs) k (start_line 0))
spoken_there [] s k p l h = absurd (omega arith)
spoken_there (f ∷ fs) s zero p l h = rw (held_there (holes f) s p 0 (all_holes (bytes f.0)) h)
spoken_there (f ∷ fs) s (suc k) p l h = spoken_there fs s k p (omega arith) h

-- WHAT A LINE SAYS, by the number of its form and the places of its values
pub line_says : (s : List ℕ) (a e : ℕ) (r : Form) → Recognised s a e r → r.row < 44 → said (line_of s a e) ≡ some (get_or (map (saying s r.at) forms) r.row (start_line 0))
line_says s a e r w h = w.says ∙ spoken_there forms s r.row r.at h (w.each h)

-- and that it is in no form
pub line_none : (s : List ℕ) (a e : ℕ) (r : Form) → Recognised s a e r → r.row ≡ 44 → said (line_of s a e) ≡ none
line_none s a e r w h = w.says ∙ rw h

-- each value that is held
held_each : (hs s p : List ℕ) (n i : ℕ) → is_some (held hs s p n) ≡ true → i < length hs → is_some (value_of (get_or hs i 0 ∷ []) (word (drop (get_or p (n + i) 0) s))) ≡ true
held_each [] s p n i t l = absurd (omega arith)
held_each (h ∷ hs) s p n zero t l =
    let e : n + zero ≡ n = omega arith in
    rw e (joined_there (value_of (h ∷ []) (word (drop (get_or p n 0) s))) (held hs s p (n + 1)) t).0
held_each (h ∷ hs) s p n (suc i) t l =
    let e : n + suc i ≡ n + 1 + i = omega arith in
    rw e (held_each hs s p (n + 1) i (joined_there (value_of (h ∷ []) (word (drop (get_or p n 0) s))) (held hs s p (n + 1)) t).1 (omega arith))

-- EACH VALUE of a line is there: value number i of the holes of its form
pub value_held : (s : List ℕ) (a e : ℕ) (r : Form) → Recognised s a e r → r.row < 44 → (i : ℕ) → i < length (row_holes forms r.row)
    → is_some (value_of (get_or (row_holes forms r.row) i 0 ∷ []) (word (drop (get_or r.at i 0) s))) ≡ true
value_held s a e r w h i l =
    let z : 0 + i ≡ i = omega arith in
    rw z at (held_each (row_holes forms r.row) s r.at 0 i (w.each h) l)

-- of a state's line the list `defer`
pub defer_held : (s : List ℕ) (a e : ℕ) (r : Form) → Recognised s a e r → r.row ≡ 37 → is_some (numbers (word (drop (get_or r.at 2 0) s))) ≡ true
defer_held s a e r w h = at_list 64 (word (drop (get_or r.at 2 0) s)) refl ∙ (rw h at (value_held s a e r w (omega arith) 2)) (omega arith)

-- of a `new` its pairs `init`
pub init_held : (s : List ℕ) (a e : ℕ) (r : Form) → Recognised s a e r → r.row ≡ 29 → is_some (pairs (word (drop (get_or r.at 3 0) s))) ≡ true
init_held s a e r w h = at_pairs 37 (word (drop (get_or r.at 3 0) s)) refl (λ x. omega arith) (λ x. omega arith) (λ x. omega arith) ∙ (rw h at (value_held s a e r w (omega arith) 3)) (omega arith)
