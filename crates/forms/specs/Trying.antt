-- The forms tried one by one, by a loop over their numbers.
use Prim.Native.Nat.{ℕ, zero, suc, ◌+◌, ◌≤◌, ◌<◌}
use Prim.Native.String.{[] as empty}
use Rattle.std.specs.Prelude.{◌≡◌, refl, Bool, true, false, not, cond, ◌&&◌, eqb, leb, ltb, drop, get_or, Option, Some, None}
use Rattle.std.proofs.Math.Path.{ap}
use Rattle.std.proofs.Common.{sym, ◌∙◌, subst, ⊎_elim, true≢false, add-zero, eqb-true, leb-true, lt-ltb, le-ltb, drop_of_length-le, length-drop}
use Rattle.std.proofs.Math.Option.{Option as Maybe, none, some}
use mathlib.Core.List.{List, [], ◌∷◌, ◌++◌}
use Rattle.std.proofs.Math.Numerals.{add-one}
use native.Mathlib.Omega.{arith}
use Rattle.std.proofs.lemmas.Bool.{not-true}
use Rattle.std.proofs.Math.ListN.{length}
use Rattle.std.proofs.lemmas.List.{length-map}
use Rattle.std.proofs.Math.Seq.{drop-cons}
use Rattle.lists.specs.Facts.{and_parts, or_none, eqb_same}
use Rattle.rows.specs.Pad.{below?}
use Rattle.lists.specs.Lists.{all, keep}
use Rattle.texts.specs.Bytes.{bytes, text}
use Rattle.texts.specs.Forms.{Form as Shape, start_line, forms}
use Rattle.numerals.specs.Splits.{among}
use Rattle.shapes.specs.Parts.{till}
use Rattle.shapes.specs.Reads.{hole, key, value, plain, formed}
use Rattle.shapes.specs.Scan.{zeros, scan}
use Rattle.scans.specs.declared.Taken.{Taken}
use Rattle.scans.specs.Fits.{taken_at, fit_of, holes_at}
use Rattle.forms.specs.declared.Form.{Form}
use Rattle.forms.specs.Laid.{begins, begins_at, sound}
use Rattle.forms.specs.Rows.{names, later, row_of}

-- till the first c, where what stands before it has none
till_first : (c : ℕ) (p s : List ℕ) → among c p ≡ false → till c (p ++ c ∷ s) ≡ p
till_first c [] s h = rw (eqb_same c)
till_first c (b ∷ p) s h = let e = or_none (eqb b c) (among c p) h in rw (e.0, till_first c p s e.1)

-- there is room for the holes of form number r
pub row_room : (fs : List Shape) (r : ℕ) → all (λ f. sound (bytes f.0)) fs ≡ true → r < length fs → length (keep hole (till 10 (text (names (drop r fs))))) ≤ 5
row_room [] r h k = absurd (omega arith)
row_room (f ∷ fs) zero h k =
    let p = and_parts (sound (bytes f.0)) (all (λ f. sound (bytes f.0)) fs) h in
    let q = and_parts (formed key (bytes f.0) && not (among 10 (bytes f.0))) (leb (length (keep hole (bytes f.0))) 5) p.0 in
    let n = and_parts (formed key (bytes f.0)) (not (among 10 (bytes f.0))) q.0 in
    rw (till_first 10 (bytes f.0) (text (names fs)) (not-true (among 10 (bytes f.0)) n.1)) (leb-true (length (keep hole (bytes f.0))) 5 q.1)
row_room (f ∷ fs) (suc r) h k = row_room fs r (and_parts (sound (bytes f.0)) (all (λ f. sound (bytes f.0)) fs) h).1 (omega arith)

-- the forms from r on as they are written
names_drop : (fs : List Shape) (r : ℕ) → drop r (names fs) ≡ names (drop r fs)
names_drop fs zero = refl
names_drop [] (suc r) = refl
names_drop (f ∷ fs) (suc r) = names_drop fs r

-- they stand where form number r begins
pub from_begin : (fs : List Shape) (t : List ℕ) (r : ℕ) → t ≡ text (names fs) → r < length fs → drop (get_or (begins 0 (names fs)) r 0) t ≡ text (names (drop r fs))
from_begin fs t r e h = rw e (begins_at (names fs) [] 0 r refl (omega (arith, length-map fs (λ (f : Shape). f.0))) ∙ ap text (names_drop fs r))

-- a form that is r further
abbrev pub further : ℕ → Form → Form
further r x = record { row = r + x.row; at = x.at }

-- what is known before the turn at form number r: the first of the forms from r on is the first of all
pub record Turn (fs : List Shape) (s : List ℕ) (a e r : ℕ) : Type 0 where
  pub same : further r (row_of (drop r fs) s a e) ≡ row_of fs s a e
  pub high : r ≤ length fs

-- no form
abbrev blank : Shape
blank = (empty, λ v. start_line 0)

module _ (fs : List Shape) (s : List ℕ) (a e : ℕ) where
  -- the line is in the first of some forms
  row_found : (gs : List Shape) (v : List ℕ) → 0 < length gs → scan (text (names gs)) s e a 0 zeros ≡ some v → row_of gs s a e ≡ record { row = 0; at = v }
  unfolding row_of
  row_found [] v h q = absurd (omega arith)
  row_found (f ∷ gs) v h q = rw q

  -- before the first turn
  pub turn_none : Turn fs s a e 0
  turn_none = record { same = from_zero (row_of fs s a e); high = omega arith }
    where
      from_zero : (x : Form) → further 0 x ≡ x
      from_zero x = ap (λ (k : ℕ). record { row = k; at = x.at }) (let z : 0 + x.row ≡ x.row = omega arith in z)

  module _ (r : ℕ) (t : Turn fs s a e r) where
    -- the line is in form r
    pub turn_found : r < length fs → (v : List ℕ) → scan (text (names (drop r fs))) s e a 0 zeros ≡ some v → ◌≡◌ {A = Form} (record { row = r; at = v }) (row_of fs s a e)
    turn_found h v q =
        ap (λ (k : ℕ). record { row = k; at = v }) (sym (add-zero r)) ∙ ap (further r) (sym (row_found (drop r fs) v (omega (arith, length-drop r fs)) q)) ∙ t.same

    -- it is not
    pub turn_more : r < length fs → scan (text (names (drop r fs))) s e a 0 zeros ≡ none → Turn fs s a e (r + 1)
    unfolding row_of
    turn_more h q =
        let d = drop-cons fs r blank h in
        let next : row_of (drop r fs) s a e ≡ later (row_of (drop (suc r) fs) s a e) = rw d (rw (rw d at q)) in
        record { same = rw add-one (one_more (row_of (drop (suc r) fs) s a e) ∙ ap (further r) (sym next) ∙ t.same); high = omega arith }
      where
        one_more : (x : Form) → further (suc r) x ≡ further r (later x)
        one_more x = ap (λ (k : ℕ). record { row = k; at = x.at }) (let z : suc r + x.row ≡ r + suc x.row = omega arith in z)

    -- it is in none
    pub turn_all : length fs ≤ r → ◌≡◌ {A = Form} (record { row = length fs; at = zeros }) (row_of fs s a e)
    unfolding row_of
    turn_all h =
        let z : length fs ≡ r + 0 = omega (arith, t.high) in
        let none_left : row_of (drop r fs) s a e ≡ record { row = 0; at = zeros } = rw (drop_of_length-le fs h) in
        ap (λ (k : ℕ). record { row = k; at = zeros }) z ∙ ap (further r) (sym none_left) ∙ t.same

-- THE FIRST BYTE
-- at b of t and at a of s stands the same byte
abbrev pub alike : List ℕ → ℕ → List ℕ → ℕ → Bool
alike t b s a = ltb b (length t) && ltb a (length s) && eqb (get_or t b 0) (get_or s a 0)

-- a text begins with a byte that stands for itself
record Plain (d : List ℕ) : Type 0 where
  no_hole : hole (get_or d 0 0) ≡ false
  no_end : eqb (get_or d 0 0) 10 ≡ false

-- as a form does,
front_plain : (d w : List ℕ) → formed key d ≡ true → among 10 d ≡ false → Plain (d ++ w)
unfolding formed
front_plain [] w h n = absurd (true≢false (sym h))
front_plain (c ∷ d) w h n = record { no_hole = go (eqb c 61) refl h; no_end = (or_none (eqb c 10) (among 10 d) n).0 }
  where
    go : (x : Bool) → eqb c 61 ≡ x → cond x (formed value d) (plain c && formed key d) ≡ true → hole c ≡ false
    go true e h = rw (eqb-true c 61 e) refl
    go false e h =
        let p = and_parts (plain c) (formed key d) h in
        let q = and_parts (not (hole c) && not (eqb c 61)) (not (eqb c 32)) p.0 in
        not-true (hole c) (and_parts (not (hole c)) (not (eqb c 61)) q.0).0

-- each of those from form number r on
row_plain : (fs : List Shape) (r : ℕ) → all (λ f. sound (bytes f.0)) fs ≡ true → r < length fs → Plain (text (names (drop r fs)))
row_plain [] r h k = absurd (omega arith)
row_plain (f ∷ fs) zero h k =
    let p = and_parts (sound (bytes f.0)) (all (λ f. sound (bytes f.0)) fs) h in
    let q = and_parts (formed key (bytes f.0) && not (among 10 (bytes f.0))) (leb (length (keep hole (bytes f.0))) 5) p.0 in
    let n = and_parts (formed key (bytes f.0)) (not (among 10 (bytes f.0))) q.0 in
    front_plain (bytes f.0) (10 ∷ text (names fs)) n.0 (not-true (among 10 (bytes f.0)) n.1)
row_plain (f ∷ fs) (suc r) h k = row_plain fs r (and_parts (sound (bytes f.0)) (all (λ f. sound (bytes f.0)) fs) h).1 (omega arith)

module _ (s : List ℕ) (a e : ℕ) (inside : e ≤ length s) where
  -- a line that begins with another byte is not in the form
  scan_front : (c : ℕ) (u : List ℕ) → hole c ≡ false → eqb c 10 ≡ false → (a < length s → eqb c (get_or s a 0) ≡ false) → scan (c ∷ u) s e a 0 zeros ≡ none
  unfolding scan
  scan_front c u h n d = rw (n, h) (⊎_elim (λ (l : a < e). rw (lt-ltb a e l, d (omega arith)) refl) (λ (l : e ≤ a). rw (le-ltb a e l) refl) (below? a e))

  scan_other : (t : List ℕ) (b : ℕ) → Plain (drop b t) → alike t b s a ≡ false → scan (drop b t) s e a 0 zeros ≡ none
  unfolding scan
  scan_other t b p h = ⊎_elim
      (λ (l : b < length t).
      let d = drop-cons t b 0 l in
      rw d (scan_front (get_or t b 0) (drop (suc b) t) (rw d at p.no_hole) (rw d at p.no_end) (λ k. rw (lt-ltb b (length t) l, lt-ltb a (length s) k) at h)))
      (λ (l : length t ≤ b). rw (drop_of_length-le t l) refl)
      (below? b (length t))

-- what is asked of the forms' text t and of the line's: t is the forms, the line is in its text, and the word known for a number is what it is said to be
pub record Tried (t s : List ℕ) (e : ℕ) (first : Taken) : Type 0 where
  pub written : t ≡ text (names forms)
  pub inside : e ≤ length s
  pub known : first ≡ taken_at 35 s first.at

-- what a scan found
fit_some : (o : Maybe (List ℕ)) (x : Option (List ℕ)) (v : List ℕ) → x ≡ fit_of o → x ≡ Some v → o ≡ some v
fit_some none x v e h = absurd cc
fit_some (some w) x v e h = cc

-- or did not
fit_none : (o : Maybe (List ℕ)) (x : Option (List ℕ)) → x ≡ fit_of o → x ≡ None → o ≡ none
fit_none none x e h = refl
fit_none (some w) x e h = absurd cc

module _ (fs : List Shape) (t s : List ℕ) (a e r : ℕ) (w : t ≡ text (names fs)) (h : r < length fs) where
  -- the form that begins there finds room
  pub begin_room : all (λ f. sound (bytes f.0)) fs ≡ true → length (holes_at t (get_or (begins 0 (names fs)) r 0)) ≤ 5
  begin_room k = rw (from_begin fs t r w h) (row_room fs r k h)

  -- it begins with another byte than the line, which is not in it
  pub begin_other : all (λ f. sound (bytes f.0)) fs ≡ true → e ≤ length s → Turn fs s a e r → alike t (get_or (begins 0 (names fs)) r 0) s a ≡ false → Turn fs s a e (r + 1)
  begin_other k inside p q =
      let b = from_begin fs t r w h in
      turn_more fs s a e r p h (rw b at (scan_other s a e inside t (get_or (begins 0 (names fs)) r 0) (subst Plain (sym b) (row_plain fs r k h)) q))

  module _ (x : Option (List ℕ)) (is : x ≡ fit_of (scan (drop (get_or (begins 0 (names fs)) r 0) t) s e a 0 zeros)) (p : Turn fs s a e r) where
    -- it is the line's
    pub begin_found : (v : List ℕ) → x ≡ Some v → ◌≡◌ {A = Form} (record { row = r; at = v }) (row_of fs s a e)
    begin_found v q = turn_found fs s a e r p h v (fit_some (scan (text (names (drop r fs))) s e a 0 zeros) x v (rw (from_begin fs t r w h) at is) q)

    -- it is not
    pub begin_more : x ≡ None → Turn fs s a e (r + 1)
    begin_more q = turn_more fs s a e r p h (fit_none (scan (text (names (drop r fs))) s e a 0 zeros) x (rw (from_begin fs t r w h) at is) q)

-- the word at a place that is known
pub known_first : (s : List ℕ) (q : ℕ) (x : Taken) → x ≡ taken_at 35 s q → x ≡ taken_at 35 s x.at
known_first s q x e = e ∙ ap (taken_at 35 s) (sym (ap (λ y. y.at) e))
