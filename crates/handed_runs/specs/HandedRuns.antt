-- What is handed in for a run and for a regrouping: a program in tables, a configuration in rooms, and a list of choices as numbers. 20 stands first, and asks too that unused places are
-- zero; all else is crates/public/specs/Public.antt's of what the tables, the rooms and the numbers read as.
use Rattle.std.specs.Prelude.{ℕ, cond, List, [], map, ◌++◌, length, drop}
use Rattle.answers.specs.declared.Answer.{Answer}
use Rattle.answers.specs.declared.Answer.TheVariants.{NotAccepted}
use Rattle.choices.specs.Choices.{choice_word, choices_of}
use Rattle.labels.specs.Labels.{rule_number}
use Rattle.public.specs.Public as public
use Rattle.tables.specs.declared.Program.{Program as Tables}
use Rattle.tables.specs.Decode.{program_of}
use Rattle.configs.specs.declared.Config.{Config as Held}
use Rattle.configs.specs.Decode.{config_of}
use Rattle.configs.specs.Encode.{written}
use Rattle.handed.specs.Handed.{fit}
use Rattle.handed_runs.specs.declared.Ran.{Ran}

-- the definitions' run, with its last configuration written
abbrev pub ran_as : public.Ran → Ran
ran_as r = record { config = written r.config; end = record { answer = r.answer; place = r.place; steps = r.steps } }

-- 20: "stop it before the first choice, place 0"; the configuration as it was
abbrev pub stopped_at : Held → Answer → Ran
stopped_at c a = record { config = c; end = record { answer = a; place = 0; steps = 0 } }

-- THE RUN of what is handed in
unfoldable pub run_of : Tables → Held → List ℕ → Ran
run_of q c l = cond (fit q c) (ran_as (public.public_run (program_of q) (config_of (program_of q) c) (choices_of l))) (stopped_at c NotAccepted)

-- the numbers of the rules of the steps that it takes, in order
unfoldable pub rules_of : Tables → Held → List ℕ → List ℕ
rules_of q c l = cond (fit q c) (map rule_number (public.public_rules (program_of q) (config_of (program_of q) c) (choices_of l))) []

-- what a lent row holds when xs are written from its front: behind them it is as it was
abbrev pub fronted : List ℕ → List ℕ → List ℕ
fronted xs row = xs ++ drop (length xs) row

-- THE REGROUPING of what is handed in, where the output buffer has `room` places
unfoldable pub regroup_of : Tables → Held → List ℕ → ℕ → public.Wrote
regroup_of q c l room = cond (fit q c) (public.public_regroup (program_of q) (config_of (program_of q) c) (choices_of l) room) (public.wrote_nothing NotAccepted)

-- the numbers that it writes
abbrev pub numbers_of : public.Wrote → List ℕ
numbers_of w = map choice_word w.list
