-- WHAT IS TOLD OF A LINE: the form that it is in, and where its values are.
use Rattle.std.specs.Prelude.{ℕ, zero, suc, ◌≤◌, ◌<◌, ◌≡◌, refl, ◌&&◌, leb, length, get_or, Option, Some, None, MatchOption}
use Rattle.std.proofs.Common.{sym, subst, arith}
use Rattle.std.proofs.Math.Option.{Option as Maybe, none, some}
use Rattle.std.proofs.Math.Bool.{true, not}
use mathlib.Core.List.{List, [], ◌∷◌}
use borrow.Author.Tests.{leb-true, not-true}
use Rattle.rows.specs.Pad.{zeros_get}
use Rattle.lists.specs.Facts.{and_parts}
use Rattle.lists.specs.Lists.{on_opt, is_some, all, keep}
use Rattle.texts.specs.Bytes.{bytes, text}
use Rattle.texts.specs.Forms.{Val, Said, Form as Shape, forms, fields, said_as, said}
use Rattle.numerals.specs.Splits.{among}
use Rattle.shapes.specs.Reads.{hole, key, formed}
use Rattle.shapes.specs.Told.{values_read}
use Rattle.shapes.specs.Lines.{line_of, LineAt}
use Rattle.shapes.specs.Scan.{zeros, scan, held}
use Rattle.shapes.specs.Found.{Found, scan_found}
use Rattle.forms.specs.declared.Form.{Form}
use Rattle.forms.specs.Laid.{sound}
use Rattle.forms.specs.Rows.{names, later, row_of, formless}

-- the holes of a form
abbrev pub holes : Shape → List ℕ
holes f = keep hole (bytes f.0)

-- the holes of form number k
abbrev pub row_holes : List Shape → ℕ → List ℕ
row_holes [] k = []
row_holes (f ∷ fs) zero = holes f
row_holes (f ∷ fs) (suc k) = row_holes fs k

-- what a line in form number k says whose values are at the places p of the text s; none where there is no such form
abbrev pub spoken_as : List Shape → List ℕ → ℕ → List ℕ → Maybe Said
spoken_as [] s k p = none
spoken_as (f ∷ fs) s zero p = on_opt (held (holes f) s p 0) none (λ v. some (f.1 v))
spoken_as (f ∷ fs) s (suc k) p = spoken_as fs s k p

-- what a line in one of the forms fs says, if r is the form that it is in
record Told (fs : List Shape) (s : List ℕ) (a e : ℕ) (r : Form) : Type 0 where
  low : r.row ≤ length fs
  says : said_as fs (fields (line_of s a e)) ≡ spoken_as fs s r.row r.at
  each : r.row < length fs → is_some (held (row_holes fs r.row) s r.at 0) ≡ true
  inside : (i : ℕ) → get_or r.at i 0 ≤ e

module _ (s : List ℕ) (a e : ℕ) (l : LineAt s a e) where
  -- the first of the forms is not the line's
  told_later : (f : Shape) (fs : List Shape) → formed key (bytes f.0) ≡ true → Found (bytes f.0) s e a 0 zeros none → (r : Form) → Told fs s a e r → Told (f ∷ fs) s a e (later r)
  told_later f fs k n r t = record {
    low = omega arith;
    says = rw (values_read (bytes f.0) (line_of s a e) k, n) t.says;
    each = λ h. t.each (omega arith);
    inside = t.inside;
  }

  -- it is
  told_here : (f : Shape) (fs : List Shape) → formed key (bytes f.0) ≡ true → (v : List ℕ) → Found (bytes f.0) s e a 0 zeros (some v) → Told (f ∷ fs) s a e (record { row = 0; at = v })
  told_here f fs k v t = record {
    low = omega arith;
    says = rw (values_read (bytes f.0) (line_of s a e) k, t.says) (other (held (holes f) s v 0) t.each);
    each = λ h. t.each;
    inside = t.inside;
  }
    where
      other : (o : Maybe (List Val)) → is_some o ≡ true → on_opt o (said_as fs (fields (line_of s a e))) (λ v. some (f.1 v)) ≡ on_opt o none (λ v. some (f.1 v))
      other none h = absurd (let z : ◌≡◌ {A = ℕ} 0 1 = cc in omega arith)
      other (some w) h = refl

  -- the first that the scans find
  told : (fs : List Shape) → all (λ f. sound (bytes f.0)) fs ≡ true → Told fs s a e (row_of fs s a e)
  unfolding row_of
  told [] h = record { low = omega arith; says = refl; each = λ h. absurd (omega arith); inside = λ i. omega (arith, zeros_get {A = ℕ} 0 5 i) }
  told (f ∷ fs) h =
      let p = and_parts (sound (bytes f.0)) (all (λ f. sound (bytes f.0)) fs) h in
      let q = and_parts (formed key (bytes f.0) && not (among 10 (bytes f.0))) (leb (length (keep hole (bytes f.0))) 5) p.0 in
      let k = and_parts (formed key (bytes f.0)) (not (among 10 (bytes f.0))) q.0 in
      go k.0 (told fs p.1) (scan (text (names (f ∷ fs))) s e a 0 zeros)
      (scan_found s e (bytes f.0) (text (names fs)) (not-true (among 10 (bytes f.0)) k.1) a 0 zeros l (omega (arith, leb-true (length (keep hole (bytes f.0))) 5 q.1)) (λ i. omega (arith, zeros_get {A = ℕ} 0 5 i)))
    where
      go : formed key (bytes f.0) ≡ true → Told fs s a e (row_of fs s a e) → (o : Maybe (List ℕ)) → Found (bytes f.0) s e a 0 zeros o
          → Told (f ∷ fs) s a e (on_opt o (later (row_of fs s a e)) (λ v. record { row = 0; at = v }))
      go k t none n = told_later f fs k n (row_of fs s a e) t
      go k t (some v) n = told_here f fs k v n

-- every form can be scanned
pub forms_sound : all (λ f. sound (bytes f.0)) forms ≡ true
unfolding formed
forms_sound = refl

-- what is told of a line by the number of its form and the places of its values
abbrev pub spoken : List ℕ → Form → Maybe Said
spoken s r = spoken_as forms s r.row r.at

-- WHAT IS TOLD of the line from a to e of the text s: the first form that a scan finds it in; what the line says is what that form says of the words at the
-- places; each hole has its value there; and the places are in the line
pub record Recognised (s : List ℕ) (a e : ℕ) (r : Form) : Type 0 where
  pub is : r ≡ row_of forms s a e
  pub low : r.row ≤ 44
  pub says : said (line_of s a e) ≡ spoken s r
  pub each : r.row < 44 → is_some (held (row_holes forms r.row) s r.at 0) ≡ true
  pub inside : (i : ℕ) → get_or r.at i 0 ≤ e

-- that form is told
pub recognised : (s : List ℕ) (a e : ℕ) (r : Form) → LineAt s a e → r ≡ row_of forms s a e → Recognised s a e r
unfolding said
recognised s a e r l q =
    let t : Told forms s a e r = subst (Told forms s a e) (sym q) (told s a e l forms forms_sound) in
    record { is = q; low = t.low; says = t.says; each = t.each; inside = t.inside }

-- by the first form that is found, or none
pub recognised_as : (s : List ℕ) (a e : ℕ) (o : Option Form) → LineAt s a e → MatchOption o (formless ≡ row_of forms s a e) (λ r. (r ≡ row_of forms s a e) × (r.row < 44))
    → MatchOption o (Recognised s a e formless) (λ r. Recognised s a e r × (r.row < 44))
recognised_as s a e None l q = recognised s a e formless l q
recognised_as s a e (Some r) l q = (recognised s a e r l q.0, q.1)
