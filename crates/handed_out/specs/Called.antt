-- WHAT THE CALLS LEAVE of the loader and of the start, in the code's values; and that what is written from the front of a buffer on lies in it.
use Rattle.std.specs.Prelude.{ℕ, Ok, ◌^◌, ◌≤◌, ◌<◌, ◌≡◌, List, map, length, take, drop}
use Rattle.std.proofs.Common.{ap, sym, ◌∙◌, arith, length-append}
use Rattle.std.proofs.Math.ListN.{length-map}
use Rattle.rows.specs.Pad.{pad_length}
use Rattle.answers.specs.Number.{number}
use Rattle.programs.specs.Sizes.{CHOICES}
use Rattle.choices.specs.Choices.{choice_word}
use Rattle.rules.specs.Step.{start_config}
use Rattle.outputs.specs.Programs.{refusal}
use Rattle.outputs.specs.Lengths.{refusal_length}
use Rattle.configs.specs.Encode.{written}
use Rattle.tabled.specs.Tabled.{Loaded}
use Rattle.tabled.specs.Tabled.{choice_table, load_of}
use Rattle.handed_runs.specs.HandedRuns.{fronted}
use Rattle.starting.specs.Started.{Started}
use Rattle.starting.specs.Started.{start_of, beginning_of}
use Rattle.starting.specs.Loaded.{loaded_starts}
use Rattle.writing.specs.Wrote.{Room}
use Rattle.handed_out.specs.HandedOut.{Loads, loaded_out, few, count_is, table_is, words_are}

module _ (t : List ℕ) {x : Loaded} (e : x ≡ load_of t) where
  -- A REFUSAL has room in any buffer that is not very short
  pub refusal_room : (out : List ℕ) → 33 ≤ length out → x.line < 2 ^ 64 → Room (refusal x.answer x.line) 0 out
  refusal_room out size h = record { fits = omega (arith, size, refusal_length x.answer x.line h) }

  module _ (done : number x.answer ≡ 0) where
    -- A LOADED TEXT
    abbrev pub loads : Loads t
    loads = loaded_out t (rw e at done)

    -- its choices as numbers
    pub words : take x.count x.choices ≡ map choice_word loads.choices
    words = rw e (words_are t loads)

    -- are as many as it says,
    pub words_count : x.count ≡ length (take x.count x.choices)
    words_count = rw words (rw e (count_is t loads) ∙ sym (length-map loads.choices choice_word))

    -- in a table of 4,096
    pub table_length : length x.choices ≡ CHOICES
    unfolding choice_table
    table_length = rw (e, table_is t loads) (pad_length 0 4096 (map choice_word loads.choices) (omega (arith, few t loads, length-map loads.choices choice_word)))

    -- so that they stand in it
    pub words_within : x.count ≤ length x.choices
    words_within = omega (arith, few t loads, rw (sym e) at (count_is t loads), table_length)

    -- IT STARTS with its start configuration
    pub starts : {s : Started} → s ≡ start_of x.program → s.config ≡ written (start_config loads.program)
    starts b = ap (λ (y : Started). y.config) (b ∙ ap (λ (y : Loaded). start_of y.program) e ∙ loaded_starts t loads.program loads.choices loads.is)

    -- so that it is never refused
    pub starts_fine : beginning_of (start_of x.program) ≡ Ok (start_of x.program).config
    starts_fine = rw (ap (λ (y : Loaded). start_of y.program) e ∙ loaded_starts t loads.program loads.choices loads.is)

-- WHAT IS WRITTEN from the front of a buffer on lies in it
pub front_within : (f : List ℕ → List ℕ) (t old : List ℕ) {r : ℕ} {new : List ℕ} → r ≡ length (f t) → new ≡ fronted (f t) old → r ≤ length new
front_within f t old e g = rw (e, g) (omega (arith, length-append (f t) (drop (length (f t)) old)))
