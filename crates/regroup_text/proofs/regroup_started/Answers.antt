-- `regroup_text::regroup_started` meets its contract: a text that is started is regrouped, and 22 is written alone, or the lines of the regrouped list and 0.
-- Assumes nothing.
use Rattle.std.specs.Prelude.{ℕ, ◌≤◌, ◌≡◌, List, Bool, true, false, eqb, Ok, Err, take, length, replicate, refl}
use Rattle.std.proofs.Common.{ap, sym, ◌∙◌, subst, arith, length-take-le}
use Rattle.std.proofs.lemmas.Bool.{eqb-true, eqb-false}
use Rattle.answers.specs.Number.{number}
use Rattle.answers.specs.declared.Answer.{Answer}
use Rattle.programs.specs.Sizes.{CHOICES}
use Rattle.output_lines.specs.OutputLines.{answer_line}
use Rattle.configs.specs.declared.Config.{Config}
use Rattle.starting.specs.Started.{start_of}
use Rattle.grouping.specs.Grouping.{refusal_of}
use Rattle.handed_runs.specs.HandedRuns.{regroup_of, numbers_of, fronted}
use Rattle.writing.specs.Wrote.{Room, Wrote}
use Rattle.handed_out.specs.Called.{words_count, words_within, table_length}
use Rattle.handed_out.specs.Starts.{started, starts_handed, starts_configured}
use Rattle.regroup_text.specs.Calls.{answer_room, refused_answers, list_within, choices_room, last_room, list_answers, done_as}
use Rattle.regroup_text.proofs.regroup_started.Goals as goal

-- THE REGROUPER: where it does not refuse, its answer is 0,
none : (a : Answer) → Ok tt ≡ refusal_of a → number a ≡ 0
none a h = go (eqb (number a) 0) refl h
  where
    go : (b : Bool) → eqb (number a) 0 ≡ b → Ok tt ≡ refusal_of a → number a ≡ 0
    go true e h = eqb-true (number a) 0 e
    go false e h = let k = rw e at h in cc

-- and a refusal is its answer, which is not 0
some : (a b : Answer) → Err b ≡ refusal_of a → (b ≡ a) × (number b ≡ 0 → ⊥)
some a b h = go (eqb (number a) 0) refl h
  where
    go : (t : Bool) → eqb (number a) 0 ≡ t → Err b ≡ refusal_of a → (b ≡ a) × (number b ≡ 0 → ⊥)
    go true e h = let k = rw e at h in cc
    go false e h = let k = rw e at h in let q : b ≡ a = cc in (q, λ z. eqb-false (number a) 0 e (sym (ap number q) ∙ z))

pub shared_ref_as_front-choices : goal.shared_ref_as_front-choices
shared_ref_as_front-choices c =
    let t = c.requires.0 in
    let e = starts_handed t (started c.args.lines.now c.args.config.now) c.requires.1 in
    let h : (started c.args.lines.now c.args.config.now).loaded.count ≤ 4096 = omega (arith, words_within t e refl, table_length t e refl) in
    h

pub slice_bounds-choices-end : goal.slice_bounds-choices-end
slice_bounds-choices-end c = words_count c.requires.0 (starts_handed c.requires.0 (started c.args.lines.now c.args.config.now) c.requires.1) refl

pub write_answer-requires : goal.write_answer-requires
write_answer-requires c = answer_room c.in-Err.answer c.args.out.now (omega (arith, c.told-out))

pub returns-in-Err : goal.returns-in-Err
returns-in-Err c t is =
    let e = starts_handed t (started c.args.lines.now c.args.config.now) is in
    let k = starts_configured t (started c.args.lines.now c.args.config.now) is in
    let q = (started c.args.lines.now c.args.config.now).loaded in
    let l : List ℕ = take q.count q.choices in
    let n : ℕ = length (replicate {A = ℕ} CHOICES 0) in
    let w = c.regroup.ensures.1 ∙ ap (λ (d : Config). fronted (numbers_of (regroup_of q.program d l n)) (replicate CHOICES 0)) k in
    let p = some _ c.in-Err.answer (sym c.in-Err.is ∙ c.regroup.ensures.0 ∙ ap (λ (d : Config). refusal_of (regroup_of q.program d l n).answer) k) in
    refused_answers t e refl {s = start_of q.program} refl p.0 w p.1 c.write_answer.ensures

pub slice_bounds-list-end : goal.slice_bounds-list-end
slice_bounds-list-end c =
    let t = c.requires.0 in
    let is = c.requires.1 in
    let e = starts_handed t (started c.args.lines.now c.args.config.now) is in
    let k = starts_configured t (started c.args.lines.now c.args.config.now) is in
    let q = (started c.args.lines.now c.args.config.now).loaded in
    let l : List ℕ = take q.count q.choices in
    let n : ℕ = length (replicate {A = ℕ} CHOICES 0) in
    let w = c.regroup.ensures.1 ∙ ap (λ (d : Config). fronted (numbers_of (regroup_of q.program d l n)) (replicate CHOICES 0)) k in
    let a : Answer = (regroup_of q.program (start_of q.program).config l n).answer in
    let i : a ≡ a = refl in
    let z = none a (sym c.in_default.is ∙ c.regroup.ensures.0 ∙ ap (λ (d : Config). refusal_of (regroup_of q.program d l n).answer) k) in
    list_within t e refl {s = start_of q.program} refl i w z

pub slice_bounds-regrouped-end : goal.slice_bounds-regrouped-end
slice_bounds-regrouped-end c =
    let t = c.requires.0 in
    let is = c.requires.1 in
    let e = starts_handed t (started c.args.lines.now c.args.config.now) is in
    let k = starts_configured t (started c.args.lines.now c.args.config.now) is in
    let q = (started c.args.lines.now c.args.config.now).loaded in
    let l : List ℕ = take q.count q.choices in
    let n : ℕ = length (replicate {A = ℕ} CHOICES 0) in
    let w = c.regroup.ensures.1 ∙ ap (λ (d : Config). fronted (numbers_of (regroup_of q.program d l n)) (replicate CHOICES 0)) k in
    let a : Answer = (regroup_of q.program (start_of q.program).config l n).answer in
    let i : a ≡ a = refl in
    let z = none a (sym c.in_default.is ∙ c.regroup.ensures.0 ∙ ap (λ (d : Config). refusal_of (regroup_of q.program d l n).answer) k) in
    sym (length-take-le _ _ (list_within t e refl {s = start_of q.program} refl i w z))

pub tell_choices-place-requires : goal.tell_choices-place-requires
tell_choices-place-requires c =
    let t = c.requires.0 in
    let is = c.requires.1 in
    let e = starts_handed t (started c.args.lines.now c.args.config.now) is in
    let k = starts_configured t (started c.args.lines.now c.args.config.now) is in
    let q = (started c.args.lines.now c.args.config.now).loaded in
    let l : List ℕ = take q.count q.choices in
    let n : ℕ = length (replicate {A = ℕ} CHOICES 0) in
    let w = c.regroup.ensures.1 ∙ ap (λ (d : Config). fronted (numbers_of (regroup_of q.program d l n)) (replicate CHOICES 0)) k in
    let a : Answer = (regroup_of q.program (start_of q.program).config l n).answer in
    let i : a ≡ a = refl in
    let z = none a (sym c.in_default.is ∙ c.regroup.ensures.0 ∙ ap (λ (d : Config). refusal_of (regroup_of q.program d l n).answer) k) in
    choices_room t e refl {s = start_of q.program} refl i w z c.args.out.now c.told-out

pub write_answer-requires-2 : goal.write_answer-requires-2
write_answer-requires-2 c =
    let t = c.requires.0 in
    let is = c.requires.1 in
    let e = starts_handed t (started c.args.lines.now c.args.config.now) is in
    let k = starts_configured t (started c.args.lines.now c.args.config.now) is in
    let q = (started c.args.lines.now c.args.config.now).loaded in
    let l : List ℕ = take q.count q.choices in
    let n : ℕ = length (replicate {A = ℕ} CHOICES 0) in
    let w = c.regroup.ensures.1 ∙ ap (λ (d : Config). fronted (numbers_of (regroup_of q.program d l n)) (replicate CHOICES 0)) k in
    let a : Answer = (regroup_of q.program (start_of q.program).config l n).answer in
    let i : a ≡ a = refl in
    let z = none a (sym c.in_default.is ∙ c.regroup.ensures.0 ∙ ap (λ (d : Config). refusal_of (regroup_of q.program d l n).answer) k) in
    subst (λ (v : Answer). Room (answer_line v) c.tell_choices-place.result c.tell_choices-place.new.out)
    (done_as t e refl {s = start_of q.program} refl i w z)
    (last_room t e refl {s = start_of q.program} refl i w z c.args.out.now c.told-out c.tell_choices-place.ensures)

pub returns : goal.returns
returns c t is =
    let e = starts_handed t (started c.args.lines.now c.args.config.now) is in
    let k = starts_configured t (started c.args.lines.now c.args.config.now) is in
    let q = (started c.args.lines.now c.args.config.now).loaded in
    let l : List ℕ = take q.count q.choices in
    let n : ℕ = length (replicate {A = ℕ} CHOICES 0) in
    let w = c.regroup.ensures.1 ∙ ap (λ (d : Config). fronted (numbers_of (regroup_of q.program d l n)) (replicate CHOICES 0)) k in
    let a : Answer = (regroup_of q.program (start_of q.program).config l n).answer in
    let i : a ≡ a = refl in
    let z = none a (sym c.in_default.is ∙ c.regroup.ensures.0 ∙ ap (λ (d : Config). refusal_of (regroup_of q.program d l n).answer) k) in
    list_answers t e refl {s = start_of q.program} refl i w z c.args.out.now c.told-out c.tell_choices-place.ensures
    (subst (λ (v : Answer). Wrote (answer_line v) c.tell_choices-place.result c.tell_choices-place.new.out c.write_answer-2.result c.write_answer-2.new.out)
    (sym (done_as t e refl {s = start_of q.program} refl i w z)) c.write_answer-2.ensures)
