-- THE RUN PROGRAM, of what the loader hands out: a refusal, or the step lines and the end line of the run.
use Rattle.std.specs.Prelude.{ℕ, ◌+◌, ◌-◌, ◌≤◌, ◌≡◌, take, drop, replicate}
use Rattle.std.proofs.Math.Path.{ap}
use Rattle.std.proofs.Common.{◌∙◌, arith, length-append, take_at}
use mathlib.Core.List.{List, ◌++◌, map, map-append}
use Rattle.std.proofs.Math.ListN.{length}
use Rattle.std.proofs.lemmas.List.{length-map}
use Rattle.lists.specs.Facts.{All-map}
use Rattle.rows.specs.Pad.{pad}
use Rattle.answers.specs.Number.{number}
use Rattle.programs.specs.Sizes.{CHOICES}
use Rattle.machines.specs.Config.{Config}
use Rattle.machines.specs.Rooms.{live}
use Rattle.choices.specs.Choices.{choice_word, choice_of}
use Rattle.labels.specs.Labels.{rule_number}
use Rattle.runs.specs.Run.{Ended, run, ruled}
use Rattle.regrouping.specs.Labelled.{ruled_many}
use Rattle.rules.specs.declared.Rule.{Rule}
use Rattle.rules.specs.Step.{step, start_config}
use Rattle.acceptance.specs.Accepted.{Accepted}
use Rattle.kept.specs.Theorem.{start_accepted, run_keeps}
use Rattle.public.specs.Public.{ran}
use Rattle.outputs.specs.Programs.{refusal, step_lines, end_line, run_program}
use Rattle.outputs.specs.Lengths.{step_lines_length, end_line_length, live_most}
use Rattle.outputs.specs.Steps.{ruled_most, lines_of_first}
use Rattle.outputs.specs.Public.{run_is_public, rules_are_public}
use Rattle.configs.specs.Decode.{config_of}
use Rattle.configs.specs.Encode.{written}
use Rattle.configs.proofs.RoundTrip.{reads_written}
use Rattle.tabled.specs.Tabled.{choice_table, load_of}
use Rattle.handed_runs.specs.HandedRuns.{ran_as, run_of, rules_of, fronted}
use Rattle.handed_out.specs.HandedOut.{Loads, refused_out, few, ranged, table_is, choices_back, sound, start_back, program_back, fitting}
use Rattle.telling.specs.Rows.{OUTPUT, step_rows, rows_are_lines}

-- A REFUSAL
pub refused_text : (t : List ℕ) → (number (load_of t).answer ≡ 0 → ⊥) → refusal (load_of t).answer (load_of t).line ≡ run_program t
unfolding run_program
refused_text t h = rw (refused_out t h)

module _ (t : List ℕ) (l : Loads t) where
  -- THE RUN that the definition says
  abbrev pub ended : Ended Config
  ended = run (step l.program) (start_config l.program) l.choices

  -- its rules
  abbrev pub applied : List Rule
  applied = ruled (step l.program) (start_config l.program) l.choices

  -- what the program writes
  pub loaded_text : step_lines 1 l.choices applied ++ end_line ended ≡ run_program t
  unfolding run_program
  loaded_text = rw l.is

  -- the run that is called is it,
  pub run_is : run_of (load_of t).program (written (start_config l.program)) (map choice_word l.choices) ≡ ran_as (ran ended)
  unfolding run_of
  run_is = rw (fitting t l, program_back t l, start_back t l, choices_back t l, run_is_public t l.program l.choices l.is)

  -- with its rules
  pub rules_are : rules_of (load_of t).program (written (start_config l.program)) (map choice_word l.choices) ≡ map rule_number applied
  unfolding rules_of
  rules_are = rw (fitting t l, program_back t l, start_back t l, choices_back t l, rules_are_public t l.program l.choices l.is)

  -- AS MANY RULES as steps,
  pub steps_are : length (map rule_number applied) ≡ ended.steps
  steps_are = length-map applied rule_number ∙ ruled_many (step l.program) (start_config l.program) l.choices

  -- no more than there are choices
  pub steps_few : ended.steps ≤ CHOICES
  steps_few = omega (arith, ruled_most (step l.program) (start_config l.program) l.choices, ruled_many (step l.program) (start_config l.program) l.choices, few t l)

  -- so the first places of the lent row are they
  pub rules_first : (row : List ℕ) → take ended.steps (fronted (map rule_number applied) row) ≡ map rule_number applied
  rules_first row = take_at (map rule_number applied) (drop (length (map rule_number applied)) row) ended.steps steps_are

  -- THE STEP LINES that are written
  pub step_lines_are : step_rows 1 (load_of t).choices (map rule_number applied) ≡ step_lines 1 l.choices applied
  unfolding choice_table pad
  step_lines_are =
      rows_are_lines 1 (load_of t).choices applied
      ∙ ap (λ (w : List ℕ). step_lines 1 (map choice_of w) applied) (table_is t l)
      ∙ rw (map-append choice_of (map choice_word l.choices) (replicate (4096 - length (map choice_word l.choices)) 0), choices_back t l)
      (lines_of_first 1 l.choices _ applied (ruled_most (step l.program) (start_config l.program) l.choices))

  -- the last configuration is accepted,
  ended_accepted : Accepted l.program ended.config
  ended_accepted = run_keeps l.program (sound t l) (start_config l.program) l.choices (start_accepted l.program (sound t l))

  -- so the machines counted are those left,
  pub live_is : live (config_of l.program (written ended.config)) ≡ live ended.config
  live_is = ap live (reads_written l.program ended.config (sound t l) ended_accepted)

  -- at most 32
  live_few : live ended.config ≤ 32
  live_few = omega (arith, live_most ended.config.rooms ended.config.next, ended_accepted.rooms_32)

  -- ALL THAT IS WRITTEN has room
  pub all_fits : length (step_lines 1 l.choices applied ++ end_line ended) ≤ OUTPUT
  all_fits =
      let s = ruled_many (step l.program) (start_config l.program) l.choices in
      let rows = step_lines_length 1 l.choices applied (All-map _ _ l.choices (λ x h. h.0) (ranged t l)) (omega (arith, s, steps_few)) in
      let end = end_line_length ended (omega (arith, steps_few)) (omega (arith, live_few)) in
      omega (arith, rows, end, s, steps_few, length-append (step_lines 1 l.choices applied) (end_line ended))
