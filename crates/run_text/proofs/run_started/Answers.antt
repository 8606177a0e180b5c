-- `run_text::run_started` meets its contract: a text that is started is run, and its step lines and its end line are written.
-- Assumes nothing.
use Rattle.std.specs.Prelude.{ℕ, ◌≤◌, List, take, replicate, refl}
use Rattle.std.proofs.Common.{ap, sym, ◌∙◌, arith, length-take-le}
use Rattle.programs.specs.Sizes.{CHOICES}
use Rattle.configs.specs.declared.Config.{Config}
use Rattle.starting.specs.Started.{start_of}
use Rattle.handed_runs.specs.HandedRuns.{run_of, rules_of, fronted}
use Rattle.handed_out.specs.Called.{words_count, words_within, table_length}
use Rattle.handed_out.specs.Starts.{started, starts_handed, starts_configured}
use Rattle.run_text.specs.Calls.{steps_within, steps_room, ending_room, run_answers}
use Rattle.run_text.proofs.run_started.Goals as goal

pub shared_ref_as_front-choices : goal.shared_ref_as_front-choices
shared_ref_as_front-choices c =
    let t = c.requires.0 in
    let e = starts_handed t (started c.args.lines.now c.args.config.now) c.requires.1 in
    let h : (started c.args.lines.now c.args.config.now).loaded.count ≤ 4096 = omega (arith, words_within t e refl, table_length t e refl) in
    h

pub slice_bounds-choices-end : goal.slice_bounds-choices-end
slice_bounds-choices-end c = words_count c.requires.0 (starts_handed c.requires.0 (started c.args.lines.now c.args.config.now) c.requires.1) refl

pub slice_bounds-rules-end : goal.slice_bounds-rules-end
slice_bounds-rules-end c =
    let t = c.requires.0 in
    let is = c.requires.1 in
    let k = starts_configured t (started c.args.lines.now c.args.config.now) is in
    let q = (started c.args.lines.now c.args.config.now).loaded in
    let l : List ℕ = take q.count q.choices in
    steps_within t (starts_handed t (started c.args.lines.now c.args.config.now) is) refl {s = start_of q.program} refl
    (c.run_from-ran.ensures.0 ∙ ap (λ (d : Config). run_of q.program d l) k)
    (c.run_from-ran.ensures.1 ∙ ap (λ (d : Config). fronted (rules_of q.program d l) (replicate CHOICES 0)) k)

pub slice_bounds-taken-end : goal.slice_bounds-taken-end
slice_bounds-taken-end c =
    let t = c.requires.0 in
    let is = c.requires.1 in
    let k = starts_configured t (started c.args.lines.now c.args.config.now) is in
    let q = (started c.args.lines.now c.args.config.now).loaded in
    let l : List ℕ = take q.count q.choices in
    sym (length-take-le _ _
    (steps_within t (starts_handed t (started c.args.lines.now c.args.config.now) is) refl {s = start_of q.program} refl
    (c.run_from-ran.ensures.0 ∙ ap (λ (d : Config). run_of q.program d l) k)
    (c.run_from-ran.ensures.1 ∙ ap (λ (d : Config). fronted (rules_of q.program d l) (replicate CHOICES 0)) k)))

pub tell_steps-place-requires : goal.tell_steps-place-requires
tell_steps-place-requires c =
    let t = c.requires.0 in
    let is = c.requires.1 in
    let k = starts_configured t (started c.args.lines.now c.args.config.now) is in
    let q = (started c.args.lines.now c.args.config.now).loaded in
    let l : List ℕ = take q.count q.choices in
    steps_room t (starts_handed t (started c.args.lines.now c.args.config.now) is) refl {s = start_of q.program} refl
    (c.run_from-ran.ensures.0 ∙ ap (λ (d : Config). run_of q.program d l) k)
    (c.run_from-ran.ensures.1 ∙ ap (λ (d : Config). fronted (rules_of q.program d l) (replicate CHOICES 0)) k)
    c.args.out.now c.told-out

pub write_ending-requires : goal.write_ending-requires
write_ending-requires c =
    let t = c.requires.0 in
    let is = c.requires.1 in
    let k = starts_configured t (started c.args.lines.now c.args.config.now) is in
    let q = (started c.args.lines.now c.args.config.now).loaded in
    let l : List ℕ = take q.count q.choices in
    ending_room t (starts_handed t (started c.args.lines.now c.args.config.now) is) refl {s = start_of q.program} refl
    (c.run_from-ran.ensures.0 ∙ ap (λ (d : Config). run_of q.program d l) k)
    (c.run_from-ran.ensures.1 ∙ ap (λ (d : Config). fronted (rules_of q.program d l) (replicate CHOICES 0)) k)
    c.args.out.now c.told-out c.tell_steps-place.ensures c.live_machines-live.ensures

pub returns : goal.returns
returns c t is =
    let k = starts_configured t (started c.args.lines.now c.args.config.now) is in
    let q = (started c.args.lines.now c.args.config.now).loaded in
    let l : List ℕ = take q.count q.choices in
    run_answers t (starts_handed t (started c.args.lines.now c.args.config.now) is) refl {s = start_of q.program} refl
    (c.run_from-ran.ensures.0 ∙ ap (λ (d : Config). run_of q.program d l) k)
    (c.run_from-ran.ensures.1 ∙ ap (λ (d : Config). fronted (rules_of q.program d l) (replicate CHOICES 0)) k)
    c.args.out.now c.told-out c.tell_steps-place.ensures c.live_machines-live.ensures c.write_ending.ensures
