-- WHAT THE LOADER HANDS OUT, by its answer: above 0 it is a refusal, with the line; at 0 the text is loaded, the choices stand as numbers in the first places of
-- their table, and the program fits its start configuration.
use Rattle.std.specs.Prelude.{ℕ, ◌≤◌, ◌<◌, ◌≡◌, true, List, map, length, take}
use Rattle.std.proofs.Math.Path.{refl, ap}
use Rattle.std.proofs.Common.{arith}
use Rattle.std.proofs.lemmas.Bool.{eqb-false}
use Rattle.std.proofs.Math.ListN.{length-map}
use Rattle.lists.specs.Lists.{All}
use Rattle.lists.specs.Facts.{All-map}
use Rattle.lists.specs.Keep.{map_back}
use Rattle.rows.specs.Pad.{pad_take}
use Rattle.answers.specs.Number.{number}
use Rattle.programs.specs.Sizes.{CHOICES, SPENT, BITS}
use Rattle.programs.specs.Program.{Program}
use Rattle.machines.specs.Config.{Choice}
use Rattle.choices.specs.Choices.{choice_word, choice_of, choices_of, choice_again}
use Rattle.texts.specs.Reading.{Result, loaded, refused}
use Rattle.texts.specs.Answered.{answered}
use Rattle.loaded.specs.Loaded.{loaded_choices, loaded_sound}
use Rattle.soundness.specs.Sound.{Sound}
use Rattle.rules.specs.Step.{start_config}
use Rattle.kept.specs.Theorem.{start_accepted}
use Rattle.tables.specs.Decode.{program_of}
use Rattle.configs.specs.Decode.{config_of}
use Rattle.configs.specs.Encode.{written}
use Rattle.configs.proofs.RoundTrip.{reads_written}
use Rattle.handed.specs.Handed.{fit, fit_is}
use Rattle.loaded_fits.specs.LoadedFits.{loaded_reads, loaded_fits}
use Rattle.outputs.specs.Refusals.{Refuses, answer_refuses}
use Rattle.tabled.specs.Tabled.{choice_table, loaded_as, load_of}

-- a text that is loaded
pub record Loads (t : List ℕ) : Type 0 where
  pub program : Program
  pub choices : List Choice
  pub is : answered t ≡ loaded program choices

module _ (t : List ℕ) where
  -- an answer above 0 is a refusal,
  pub refused_out : (number (load_of t).answer ≡ 0 → ⊥) → answered t ≡ refused (load_of t).answer (load_of t).line
  unfolding load_of
  refused_out h = go (answered t) refl h
    where
      go : (r : Result) → answered t ≡ r → (number (loaded_as r).answer ≡ 0 → ⊥) → r ≡ refused (loaded_as r).answer (loaded_as r).line
      go (loaded p c) e n = absurd (n refl)
      go (refused a k) e n = refl

  -- and 0 is given for a text that is loaded
  pub loaded_out : number (load_of t).answer ≡ 0 → Loads t
  unfolding load_of
  loaded_out h = go (answered t) refl (answer_refuses t) h
    where
      go : (r : Result) → answered t ≡ r → Refuses r → number (loaded_as r).answer ≡ 0 → Loads t
      go (loaded p c) e f n = record { program = p; choices = c; is = e }
      go (refused a k) e f n = absurd (eqb-false (number a) 0 f n)

module _ (t : List ℕ) (l : Loads t) where
  -- no more than 4,096 choices,
  pub few : length l.choices ≤ CHOICES
  few = (loaded_choices t l.program l.choices l.is).0

  -- each with a live number and bits in range
  pub ranged : All (λ x. (x.machine < SPENT) × (x.bits ≤ BITS)) l.choices
  ranged = All-map _ _ l.choices (λ x h. (h.1, h.2)) (loaded_choices t l.program l.choices l.is).1

  -- as many are counted,
  pub count_is : (load_of t).count ≡ length l.choices
  unfolding load_of
  count_is = ap (λ r. (loaded_as r).count) l.is

  -- they stand in the table,
  pub table_is : (load_of t).choices ≡ choice_table l.choices
  unfolding load_of
  table_is = ap (λ r. (loaded_as r).choices) l.is

  -- each as its number
  pub words_are : take (load_of t).count (load_of t).choices ≡ map choice_word l.choices
  unfolding choice_table
  words_are = rw (count_is, table_is, ← length-map l.choices choice_word) (pad_take 0 4096 (map choice_word l.choices))

  -- which are the numbers of the choices
  pub choices_back : choices_of (map choice_word l.choices) ≡ l.choices
  choices_back = map_back choice_of choice_word l.choices (All-map _ _ l.choices (λ x h. choice_again x (omega (arith, h.1))) ranged)

  -- THE PROGRAM is sound,
  pub sound : Sound l.program
  sound = loaded_sound t l.program l.choices l.is

  -- its start configuration is read back as it was written,
  pub start_back : config_of l.program (written (start_config l.program)) ≡ start_config l.program
  start_back = reads_written l.program (start_config l.program) sound (start_accepted l.program sound)

  -- its tables read as it,
  pub program_back : program_of (load_of t).program ≡ l.program
  program_back = loaded_reads t l.program l.choices l.is

  -- and nothing of 20 holds
  pub fitting : fit (load_of t).program (written (start_config l.program)) ≡ true
  fitting = (fit_is (load_of t).program (written (start_config l.program))).test (loaded_fits t l.program l.choices l.is)
