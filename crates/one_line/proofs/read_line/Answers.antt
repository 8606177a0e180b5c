-- `reading::read_line` meets its contract: the line is found, recognised, tested and taken. Assumes nothing.
use mathlib.Core.Path.{refl, ◌∙◌}
use Rattle.std.specs.Prelude.{ℕ, ◌<◌, ◌≡◌, List, Option, None, Some, Err, MatchOption}
use Rattle.std.proofs.Common.{rules}
use Rattle.answers.specs.declared.Answer.TheVariants.{NotInForm}
use Rattle.forms.specs.declared.Form.{Form}
use Rattle.forms.specs.Recognised.{Recognised}
use native.Mathlib.Omega.{arith}
use Rattle.forms.specs.Rows.{formless}
use Rattle.forms.specs.Values.{line_none}
use Rattle.one_line.specs.Turns.{read_cut, read_formless, read_disordered}
use Rattle.one_line.specs.Loop.{line_at}
use Rattle.one_line.specs.LineRead.{says, line_asked, line_unranged, line_read, ordered_told}
use Rattle.one_line.proofs.read_line.Goals as goal

-- the form that was found
recognised : (s : List ℕ) (a e : ℕ) {o : Option Form} (r : Form) → o ≡ Some r → MatchOption o (Recognised s a e formless) (λ r. Recognised s a e r × (r.row < 44))
    → Recognised s a e r × (r.row < 44)
recognised s a e r q h = rw q at h

-- none was
unrecognised : (s : List ℕ) (a e : ℕ) {o : Option Form} → o ≡ None → MatchOption o (Recognised s a e formless) (λ r. Recognised s a e r × (r.row < 44)) → Recognised s a e formless
unrecognised s a e q h = rw q at h

pub returns-then-s-e : goal.returns-then-s-e
returns-then-s-e c =
    let a = c.args in
    λ h. record { same = λ n. read_cut a.s.now a.last h.lines n a.at _ c.until-e.ensures h.inside c.if-s-e.true; gathered = h.gathered }

pub form_of-requires : goal.form_of-requires
form_of-requires c = line_at _ _ _ c.until-e.ensures

pub returns-in_err-form : goal.returns-in_err-form
returns-in_err-form c =
    let a = c.args in
    let none : c.from_residual.result ≡ Err NotInForm = search rules in
    let f = unrecognised a.s.now a.at c.until-e.result c.in_err-form.ensures.ok_part c.form_of.ensures in
    λ h. rw none (record {
      same = λ n. read_formless a.s.now a.last h.lines n a.at _ c.until-e.ensures c.if-s-e.false (line_none a.s.now a.at _ formless f refl);
      gathered = h.gathered;
    })

pub returns-then-not-in_order : goal.returns-then-not-in_order
returns-then-not-in_order c =
    let a = c.args in
    let r = c.in_ok-form.form in
    let f = recognised a.s.now a.at c.until-e.result r c.in_ok-form.ensures.ok_part c.form_of.ensures in
    let u = c.until-e.ensures in
    λ h. record {
      same = λ n. read_disordered a.s.now a.last h.lines n a.at _ u c.if-s-e.false _ (says a.s.now a.last a.at h _ u c.if-s-e.false r f.0 f.1)
          (ordered_told a.s.now a.last r.row r.at c.kind_of-kind.ensures c.in_order.ensures ∙ c.if-not-in_order.true);
      gathered = h.gathered;
    }

pub take_line-requires : goal.take_line-requires
take_line-requires c =
    let a = c.args in
    let r = c.in_ok-form.form in
    let f = recognised a.s.now a.at c.until-e.result r c.in_ok-form.ensures.ok_part c.form_of.ensures in
    let u = c.until-e.ensures in
    line_asked a.s.now a.last a.at c.requires _ u c.if-s-e.false r f.0 f.1
    (ordered_told a.s.now a.last r.row r.at c.kind_of-kind.ensures c.in_order.ensures ∙ c.if-not-in_order.false)

pub returns-then-not-take_line : goal.returns-then-not-take_line
returns-then-not-take_line c =
    let a = c.args in
    let r = c.in_ok-form.form in
    let f = recognised a.s.now a.at c.until-e.result r c.in_ok-form.ensures.ok_part c.form_of.ensures in
    let u = c.until-e.ensures in
    let o = ordered_told a.s.now a.last r.row r.at c.kind_of-kind.ensures c.in_order.ensures ∙ c.if-not-in_order.false in
    λ h. line_unranged a.s.now a.last a.at h _ u c.if-s-e.false r f.0 f.1 o
    (c.take_line.ensures (line_asked a.s.now a.last a.at h _ u c.if-s-e.false r f.0 f.1 o)) (c.if-not-take_line.true)

pub overflow_add-result : goal.overflow_add-result
overflow_add-result c =
    omega (arith, c.if-s-e.false, c.requires.short)

pub returns : goal.returns
returns c =
    let a = c.args in
    let r = c.in_ok-form.form in
    let f = recognised a.s.now a.at c.until-e.result r c.in_ok-form.ensures.ok_part c.form_of.ensures in
    let u = c.until-e.ensures in
    let o = ordered_told a.s.now a.last r.row r.at c.kind_of-kind.ensures c.in_order.ensures ∙ c.if-not-in_order.false in
    λ h. line_read a.s.now a.last a.at h _ u c.if-s-e.false r f.0 f.1 o (c.kind_of-kind.ensures a.s.now r.at)
    (c.take_line.ensures (line_asked a.s.now a.last a.at h _ u c.if-s-e.false r f.0 f.1 o)) (c.if-not-take_line.false)
