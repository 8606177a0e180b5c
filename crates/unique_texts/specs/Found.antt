-- What is found in a text and stored of it, and what is judged of the tables: each contract says a definition of the arguments, or the first place.
use Rattle.std.specs.Prelude.{ℕ, ◌≤◌, ◌<◌, ◌≡◌, refl, List, [], Option, Some, None, MatchOption, Result}
use Rattle.std.proofs.Common.{ap, sym, ◌∙◌, ⊎_elim, arith}
use Rattle.std.specs.Borrow.{Bor}
use Rattle.rows.specs.Pad.{below?}
use Rattle.programs.specs.Program.{Program}
use Rattle.texts.specs.Reading.{kind}
use Rattle.texts.specs.Verdict.{verdict}
use Rattle.numerals.specs.Splits.{Until}
use Rattle.readers.specs.declared.LineReader.{LineReader}
use Rattle.forms.specs.declared.Form.{Form}
use Rattle.forms.specs.Rows.{formless}
use Rattle.forms.specs.Recognised.{Recognised}
use Rattle.spoken.specs.Spoken.{line_at}
use Rattle.listed.specs.Pool.{Pooled}
use Rattle.answers.specs.declared.Refusal.{Refusal}
use Rattle.judging.specs.Judging.{result_of}

-- `numerals::until`: the first place, or the last where there is none
pub until_one : (c : ℕ) (d : List ℕ) (from to r s : ℕ) → Until c d from to r → Until c d from to s → r ≡ s
until_one c d from to r s h k = ⊎_elim
    (λ (a : r < s). absurd (k.free r h.low a (h.stop (omega (arith, k.high)))))
    (λ (a : s ≤ r). ⊎_elim
    (λ (b : s < r). absurd (h.free s k.low b (k.stop (omega (arith, h.high)))))
    (λ (b : r ≤ s). omega arith)
    (below? s r))
    (below? r s)

-- `LineReader::new`
pub reader_one : (text : Bor (List ℕ)) (at : ℕ) (r s : LineReader) → (r.text ≡ text) × (r.at ≡ at) → (s.text ≡ text) × (s.at ≡ at) → r ≡ s
reader_one text at r s h k = λ i. record { text = (h.0 ∙ sym k.0) i; at = (h.1 ∙ sym k.1) i }

-- `forms::form_of`: the form that is told of a line,
pub form_one : (s : List ℕ) (a e : ℕ) (r t : Form) → Recognised s a e r → Recognised s a e t → r ≡ t
form_one s a e r t h k = h.is ∙ sym k.is

-- and the answer, where a line may be in none
pub form_if_one : (s : List ℕ) (a e : ℕ) (r t : Option Form) → MatchOption r (Recognised s a e formless) (λ x. Recognised s a e x × (x.row < 44))
    → MatchOption t (Recognised s a e formless) (λ x. Recognised s a e x × (x.row < 44)) → r ≡ t
form_if_one s a e None None h k = refl
form_if_one s a e None (Some t) h k = absurd (omega (arith, k.1, ap (λ (x : Form). x.row) (h.is ∙ sym k.0.is)))
form_if_one s a e (Some r) None h k = absurd (omega (arith, h.1, ap (λ (x : Form). x.row) (k.is ∙ sym h.0.is)))
form_if_one s a e (Some r) (Some t) h k = ap Some (h.0.is ∙ sym k.0.is)

-- `spoken::kind_of`: whatever the text and the places
pub kind_one : (row r t : ℕ) → ((s places : List ℕ) → r ≡ kind (line_at s places row)) → ((s places : List ℕ) → t ≡ kind (line_at s places row)) → r ≡ t
kind_one row r t h k = h [] [] ∙ sym (k [] [])

-- `listed::put_pairs`
pub pooled_one : (d xs : List ℕ) (n r s : ℕ) (ys zs : List ℕ) → Pooled d xs n r ys → Pooled d xs n s zs → (r ≡ s) × (ys ≡ zs)
pooled_one d xs n r s ys zs h k = (h.count ∙ sym k.count, h.stored ∙ sym k.stored)

-- `judging::judge`
pub judge_one : (p : Program) (r s : Result (Unit {0}) Refusal) → r ≡ result_of (verdict p) → s ≡ result_of (verdict p) → r ≡ s
judge_one p r s h k = h ∙ sym k
