-- THE REGROUP PROGRAM, of what the loader hands out: a refusal, 22 alone, or the choice lines of the regrouped list and 0.
use Rattle.std.specs.Prelude.{ℕ, ◌+◌, ◌≤◌, ◌<◌, ◌≡◌, List, ◌++◌, map, length}
use Rattle.std.proofs.Common.{sym, ◌∙◌, subst, arith, length-append}
use Rattle.std.proofs.Math.Option.{Option, none, some, some-injective}
use Rattle.lists.specs.Lists.{All, flat}
use Rattle.answers.specs.declared.Answer.TheVariants.{Done, TookNoStep}
use Rattle.answers.specs.Number.{number}
use Rattle.programs.specs.Sizes.{CHOICES, SPENT, BITS}
use Rattle.machines.specs.Config.{Choice}
use Rattle.choices.specs.Choices.{choice_word}
use Rattle.rules.specs.Step.{step, start_config}
use Rattle.kept.specs.Theorem.{start_accepted}
use Rattle.regrouping.specs.Demand.{Regrouping}
use Rattle.regrouping.specs.Same.{same_all, same_many}
use Rattle.meetings.specs.Meetings.{meets, own, regroup}
use Rattle.meetings.specs.Good.{a_list}
use Rattle.meetings.proofs.Good.{regroup_good}
use Rattle.public.specs.Public.{listed}
use Rattle.outputs.specs.Programs.{refusal, choice_line, regroup_program}
use Rattle.outputs.specs.Lengths.{choice_lines_length, answer_length}
use Rattle.outputs.specs.Public.{regroup_is_public}
use Rattle.configs.specs.Encode.{written}
use Rattle.tabled.specs.Tabled.{load_of}
use Rattle.handed_runs.specs.HandedRuns.{regroup_of}
use Rattle.handed_out.specs.HandedOut.{Loads, refused_out, few, ranged, choices_back, sound, start_back, program_back, fitting}
use Rattle.output_lines.specs.OutputLines.{answer_line}
use Rattle.telling.specs.Rows.{OUTPUT}

-- A REFUSAL
pub refused_text : (t : List ℕ) → (number (load_of t).answer ≡ 0 → ⊥) → refusal (load_of t).answer (load_of t).line ≡ regroup_program t
unfolding regroup_program
refused_text t h = rw (refused_out t h)

module _ (t : List ℕ) (l : Loads t) where
  -- THE REGROUPED LIST that the definition says, if there is one
  abbrev pub grouped : Option (List Choice)
  grouped = regroup l.program (start_config l.program) l.choices

  -- what the regrouping that is called gives
  pub regroup_is : regroup_of (load_of t).program (written (start_config l.program)) (map choice_word l.choices) CHOICES ≡ listed grouped
  unfolding regroup_of
  regroup_is = rw (fitting t l, program_back t l, start_back t l, choices_back t l) (regroup_is_public t l.program l.choices l.is CHOICES (few t l))

  -- WHAT THE PROGRAM WRITES where there is none,
  pub no_list_text : grouped ≡ none → answer_line TookNoStep ≡ regroup_program t
  unfolding regroup_program
  no_list_text e = rw (l.is, e)

  module _ (m : List Choice) (e : grouped ≡ some m) where
    -- and where there is one
    pub list_text : flat choice_line m ++ answer_line Done ≡ regroup_program t
    unfolding regroup_program
    list_text = rw (l.is, e)

    -- it is a regrouping
    is_regrouping : Regrouping (step l.program) own meets (start_config l.program) l.choices m
    is_regrouping =
        let accepted = start_accepted l.program (sound t l) in
        let good = regroup_good l.program (start_config l.program) l.choices (sound t l) accepted (a_list l.program (start_config l.program) l.choices m e) in
        subst (λ (x : List Choice). Regrouping (step l.program) own meets (start_config l.program) l.choices x) (some-injective good.0 m (sym good.1 ∙ e)) good.2

    -- as long as the list,
    pub as_many : length m ≡ length l.choices
    as_many = same_many is_regrouping.same_choices

    -- with live numbers and bits in range
    pub list_ranged : All (λ x. (x.machine < SPENT) × (x.bits ≤ BITS)) m
    list_ranged = same_all _ is_regrouping.same_choices (ranged t l)

    -- ALL THAT IS WRITTEN has room
    pub all_fits : length (flat choice_line m ++ answer_line Done) ≤ OUTPUT
    all_fits = omega (arith, choice_lines_length m list_ranged, answer_length Done, as_many, few t l, length-append (flat choice_line m) (answer_line Done))
