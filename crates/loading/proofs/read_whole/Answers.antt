-- `loading::read_whole` meets its contract: the text is read and judged, and the lines hold what is handed out. Assumes nothing.
use Prim.Native.Nat.{ℕ}
use mathlib.Core.Path.{ap, refl, ◌∙◌}
use native.Mathlib.Omega.{arith}
use Rattle.std.proofs.lemmas.Result.{err_from_is_err_and}
use Rattle.answers.specs.declared.Answer.{Answer}
use Rattle.texts.specs.Reading.{refused}
use Rattle.tabled.specs.Tabled.{loads}
use Rattle.judging.specs.Judging.{result_ok, result_err}
use Rattle.loading.specs.Loading.{read_refused, kinds_fit, absent_fits, absent_refused, judged_refused, handed_out}
use Rattle.loading.proofs.read_whole.Goals as goal

pub read_lines-requires : goal.read_lines-requires
read_lines-requires c = c.requires.begun

pub returns-in_err-start : goal.returns-in_err-start
returns-in_err-start c =
    let p = err_from_is_err_and c.from_residual.result c.from_residual.ensures.1 in
    record {
      refused = rw (p.1, p.2) (ap loads (read_refused c.args.text.now c.requires.short _ _ c.in_err-start.ensures));
      handed = λ e. let q = p.1 in cc;
    }

pub overflow_add-result-in-Some : goal.overflow_add-result-in-Some
overflow_add-result-in-Some c =
    let s = c.args.text.now in
    let w = c.in_ok-start.ensures in
    omega (arith, c.event_count-events.ensures, kinds_fit s c.requires.short w, absent_fits s c.requires.short w _ c.in-Some.is)

pub returns-in-Some : goal.returns-in-Some
returns-in-Some c = record {
  refused = ap loads (absent_refused c.args.text.now c.requires.short c.in_ok-start.ensures _ c.in-Some.is _ c.event_count-events.ensures);
  handed = λ e. cc;
}

pub overflow_cast-lines : goal.overflow_cast-lines
overflow_cast-lines c =
    record { fits = omega (arith, kinds_fit c.args.text.now c.requires.short c.in_ok-start.ensures) }

pub judge-requires : goal.judge-requires
judge-requires c = kinds_fit c.args.text.now c.requires.short c.in_ok-start.ensures

pub returns-in_err-judge : goal.returns-in_err-judge
returns-in_err-judge c =
    let p = err_from_is_err_and c.from_residual-in_err-judge.result c.from_residual-in_err-judge.ensures.1 in
    let q = result_err _ _ _ c.in_err-judge.ensures refl in
    record {
      refused = rw (p.1, p.2) (ap (λ (v : Answer × ℕ). loads (refused v.0 v.1)) q.1 ∙ ap loads (judged_refused c.args.text.now c.requires.short c.in_ok-start.ensures c.in_default.is _ refl q.0));
      handed = λ e. let r = p.1 in cc;
    }

pub returns : goal.returns
returns c =
    let q = result_ok _ _ _ c.in_ok-judge.ensures refl in
    record { refused = record {}; handed = λ e. handed_out c.args.text.now c.requires.short c.in_ok-start.ensures c.in_default.is _ refl q }
