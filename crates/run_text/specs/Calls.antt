-- What the calls of the run program leave, each of what the ones before it left: the loaded text, its start, its run, its step lines and its end line.
use Rattle.std.specs.Prelude.{ℕ, ◌+◌, ◌≤◌, ◌≡◌, List, ◌++◌, map, length, take, drop, replicate}
use Rattle.std.proofs.Common.{ap, ◌∙◌, subst, arith, length-append, length-drop}
use Rattle.std.proofs.lemmas.List.{length-replicate}
use Rattle.answers.specs.Number.{number}
use Rattle.programs.specs.Sizes.{CHOICES}
use Rattle.programs.specs.Program.{Program}
use Rattle.machines.specs.Config.{Choice}
use Rattle.machines.specs.Rooms.{live}
use Rattle.choices.specs.Choices.{choice_word}
use Rattle.labels.specs.Labels.{rule_number}
use Rattle.public.specs.Public.{ran}
use Rattle.outputs.specs.Programs.{refusal, step_lines, end_line, run_program}
use Rattle.configs.specs.Decode.{config_of}
use Rattle.tabled.specs.Tabled.{Loaded}
use Rattle.tabled.specs.Tabled.{load_of}
use Rattle.handed_runs.specs.declared.Ran.{Ran}
use Rattle.handed_runs.specs.HandedRuns.{ran_as, run_of, rules_of, fronted}
use Rattle.handed_out.specs.HandedOut.{Loads, choices_back}
use Rattle.handed_out.specs.Called.{loads, words, table_length, starts}
use Rattle.starting.specs.Started.{Started}
use Rattle.starting.specs.Started.{start_of}
use Rattle.writing.specs.Wrote.{Room, Wrote, room_first, room_second, wrote_both, wrote_front}
use Rattle.output_lines.specs.OutputLines.{ending}
use Rattle.telling.specs.Rows.{OUTPUT, step_rows, rows_are_lines}
use Rattle.telling.specs.Turns.{StepsAsked}
use Rattle.run_text.specs.RunText.{refused_text, ended, applied, loaded_text, run_is, rules_are, steps_are, steps_few, rules_first, step_lines_are, live_is, all_fits}

-- the row for the rules, before the run
abbrev no_rules : List ℕ
no_rules = replicate CHOICES 0

-- WHAT THE RUN PROGRAM WRITES stands in the buffer from its front on, and r is its length
abbrev pub Answers : List ℕ → List ℕ → ℕ → List ℕ → Type 0
Answers t old r new = (r ≡ length (run_program t)) × (new ≡ fronted (run_program t) old)

-- what was written from the front on is that
answers : (t : List ℕ) {bs old : List ℕ} {r : ℕ} {new : List ℕ} → bs ≡ run_program t → Wrote bs 0 old r new → Answers t old r new
answers t {bs} {old} {r} {new} e w = subst (λ (l : List ℕ). (r ≡ length l) × (new ≡ fronted l old)) e (wrote_front w)

module _ (t : List ℕ) {x : Loaded} (e : x ≡ load_of t) where
  -- A REFUSAL is what is written
  pub refusal_answers : (number x.answer ≡ 0 → ⊥) → {out : List ℕ} {r : ℕ} {new : List ℕ} → Wrote (refusal x.answer x.line) 0 out r new → Answers t out r new
  refusal_answers h w = answers t (rw e (refused_text t (rw e at h))) w

  module _ (done : number x.answer ≡ 0) where
    -- the loaded text
    abbrev text : Loads t
    text = loads t e done

    module _ {s : Started} (b : s ≡ start_of x.program) {r : Ran} {ruled : List ℕ}
        (ran_is : r ≡ run_of x.program s.config (take x.count x.choices)) (ruled_is : ruled ≡ fronted (rules_of x.program s.config (take x.count x.choices)) no_rules) where
      -- THE RUN is the definition's,
      ran_as_lem : r ≡ ran_as (ran (ended t text))
      ran_as_lem = ran_is ∙ rw (words t e done, starts t e done b, e) (run_is t text)

      -- its rules are
      ruled_as : ruled ≡ fronted (map rule_number (applied t text)) no_rules
      ruled_as = ruled_is ∙ rw (words t e done, starts t e done b, e, rules_are t text)

      -- their row keeps its length
      pub ruled_length : length ruled ≡ CHOICES
      ruled_length =
          let xs = map rule_number (applied t text) in
          rw ruled_as (omega (arith, length-replicate {A = ℕ} CHOICES 0, steps_are t text, steps_few t text, length-append xs (drop (length xs) no_rules), length-drop (length xs) no_rules))

      -- its steps are
      steps_as : r.end.steps ≡ (ended t text).steps
      steps_as = ap (λ (y : Ran). y.end.steps) ran_as_lem

      -- THE STEP LINES are the definition's,
      rows_as : step_rows 1 (take x.count x.choices) (take r.end.steps ruled) ≡ step_lines 1 text.choices (applied t text)
      rows_as =
          rw (words t e done, steps_as, ruled_as, rules_first t text no_rules)
          (rows_are_lines 1 (map choice_word text.choices) (applied t text) ∙ ap (λ (l : List Choice). step_lines 1 l (applied t text)) (choices_back t text))

      -- those of the whole table of choices too,
      rows_whole : step_rows 1 x.choices (take r.end.steps ruled) ≡ step_lines 1 text.choices (applied t text)
      rows_whole = rw (steps_as, ruled_as, rules_first t text no_rules, e) (step_lines_are t text)

      -- they are within their row,
      pub steps_within : r.end.steps ≤ length ruled
      steps_within = omega (arith, ruled_length, steps_as, steps_few t text)

      module _ (out : List ℕ) (size : length out ≡ OUTPUT) where
        -- all that is written has room
        whole_room : Room (step_lines 1 text.choices (applied t text) ++ end_line (ended t text)) 0 out
        whole_room = record { fits = omega (arith, size, all_fits t text) }

        -- and so have they
        pub steps_room : Room (step_rows 1 (take x.count x.choices) (take r.end.steps ruled)) 0 out
        steps_room = rw rows_as (room_first _ (end_line (ended t text)) whole_room)

        -- as they are of the whole table of choices
        pub steps_asked : StepsAsked x.choices ruled r.end.steps 0 out
        steps_asked = record {
          chosen = omega (arith, table_length t e done, steps_as, steps_few t text);
          ruled = steps_within;
          room = rw rows_whole (room_first _ (end_line (ended t text)) whole_room);
        }

        module _ {place : ℕ} {between : List ℕ} (told : Wrote (step_rows 1 (take x.count x.choices) (take r.end.steps ruled)) 0 out place between) {v : ℕ} (left : (p : Program) → v ≡ live (config_of p r.config)) where
          -- THE END LINE is the definition's,
          ending_as : ending r.end.answer r.end.steps v ≡ end_line (ended t text)
          ending_as = rw (left text.program, ran_as_lem, live_is t text)

          -- it has room,
          pub ending_room : Room (ending r.end.answer r.end.steps v) place between
          ending_room = rw ending_as (room_second _ (end_line (ended t text)) whole_room (rw rows_as at told))

          -- and then all is written
          pub run_answers : {behind : ℕ} {new : List ℕ} → Wrote (ending r.end.answer r.end.steps v) place between behind new → Answers t out behind new
          run_answers w = answers t (loaded_text t text) (wrote_both _ (end_line (ended t text)) whole_room (rw rows_as at told) (rw ending_as at w))
