-- WHAT A TEXT STARTS WITH: what it is loaded as, and the start configuration of its program; or its refusal.
use Rattle.std.specs.Prelude as std
use Rattle.std.specs.Prelude.{Ok, Err, ℕ, ◌≡◌, refl, List, length}
use Rattle.std.proofs.Common.{ap, sym, ◌∙◌}
use Rattle.std.proofs.lemmas.Bool.{eqb-false}
use Rattle.answers.specs.declared.Answer.TheVariants.{Done}
use Rattle.answers.specs.declared.Refusal.{Refusal}
use Rattle.answers.specs.Number.{number}
use Rattle.programs.specs.Program.{Program}
use Rattle.machines.specs.Config.{Choice}
use Rattle.rules.specs.Step.{start_config}
use Rattle.texts.specs.Reading.{Result, loaded, refused}
use Rattle.texts.specs.Answered.{answered}
use Rattle.outputs.specs.Refusals.{answer_refuses}
use Rattle.gathering.specs.declared.Lines.{Lines}
use Rattle.configs.specs.declared.Config.{Config}
use Rattle.configs.specs.Encode.{written}
use Rattle.tabled.specs.declared.Loaded.{Loaded as Text}
use Rattle.tabled.specs.Tabled.{tabled, choice_table, loaded_as, load_of, handed, loads, loads_refused}
use Rattle.starting.specs.Started.{Started, start_of, started_as, beginning_of}
use Rattle.starting.specs.Loaded.{loaded_starts}
use Rattle.handed_out.specs.declared.TextStart.{TextStart}

-- of the answer to the text
abbrev pub starts_as : Result → std.Result TextStart Refusal
starts_as (loaded p l) = Ok (record { loaded = record { program = tabled p; choices = choice_table l; count = length l }; config = written (start_config p) })
starts_as (refused a k) = Err (record { answer = a; line = k })

-- what lines hold that a text was loaded into, with what it starts with
abbrev pub started : Lines → Config → TextStart
started l c = record { loaded = record { program = l.program; choices = l.choices; count = l.count }; config = c }

-- A REFUSAL is that of the text
refused_as : (r : Result) (e : Refusal) → Err e ≡ starts_as r → r ≡ refused e.answer e.line
refused_as (loaded p l) e h = cc
refused_as (refused a k) e h = loads_refused (refused a k) e (let q : e ≡ record { answer = a; line = k } = cc in ap (λ (x : Refusal). Err x) q)

module _ (t : List ℕ) where
  -- it is handed out,
  pub refused_handed : (e : Refusal) → Err e ≡ starts_as (answered t) → handed (Err e) ≡ load_of t
  unfolding load_of
  refused_handed e h = sym (ap loaded_as (refused_as (answered t) e h))

  -- and not with 0
  pub refused_above : (e : Refusal) → Err e ≡ starts_as (answered t) → number e.answer ≡ 0 → ⊥
  refused_above e h = eqb-false (number e.answer) 0 (rw (refused_as (answered t) e h) at (answer_refuses t))

  -- and of a text that the loader refuses
  pub starts_refused : (e : Refusal) → Err e ≡ loads (answered t) → Err e ≡ starts_as (answered t)
  starts_refused e h = sym (ap starts_as (loads_refused (answered t) e h))

  -- the program of a loaded text starts with its start configuration
  begins : (p : Program) (l : List Choice) → answered t ≡ loaded p l → start_of (tabled p) ≡ started_as Done (start_config p)
  unfolding load_of
  begins p l e = rw e at (loaded_starts t p l e)

  -- WHAT IS LOADED, with what it starts with
  pub starts_loaded : (x : Text) (c : Config) → Ok x ≡ loads (answered t) → Ok c ≡ beginning_of (start_of x.program) → Ok (record { loaded = x; config = c }) ≡ starts_as (answered t)
  starts_loaded x c h k = go (answered t) refl h
    where
      go : (r : Result) → answered t ≡ r → Ok x ≡ loads r → Ok (record { loaded = x; config = c }) ≡ starts_as r
      go (loaded p l) e h =
          let q : x ≡ record { program = tabled p; choices = choice_table l; count = length l } = cc in
          let f : Ok c ≡ beginning_of (started_as Done (start_config p)) = k ∙ ap (λ (y : Text). beginning_of (start_of y.program)) q ∙ ap beginning_of (begins p l e) in
          let d : c ≡ written (start_config p) = cc in
          λ i. Ok (record { loaded = q i; config = d i })
      go (refused a n) e h = cc

  module _ (s : TextStart) (is : Ok s ≡ starts_as (answered t)) where
    -- it is of a program and of choices,
    from : (p : Program) × (l : List Choice) × (answered t ≡ loaded p l) × (s ≡ record { loaded = record { program = tabled p; choices = choice_table l; count = length l }; config = written (start_config p) })
    from = go (answered t) refl is
      where
        go : (r : Result) → answered t ≡ r → Ok s ≡ starts_as r
            → (p : Program) × (l : List Choice) × (answered t ≡ loaded p l) × (s ≡ record { loaded = record { program = tabled p; choices = choice_table l; count = length l }; config = written (start_config p) })
        go (loaded p l) e h = (p, l, e, cc)
        go (refused a k) e h = cc

    -- it is what the loader hands out,
    pub starts_handed : handed (Ok s.loaded) ≡ load_of t
    unfolding load_of
    starts_handed = ap (λ (x : TextStart). handed (Ok x.loaded)) from.3 ∙ sym (ap loaded_as from.2)

    -- and the configuration is that of its start
    pub starts_configured : s.config ≡ (start_of s.loaded.program).config
    starts_configured =
        ap (λ (x : TextStart). x.config) from.3
        ∙ sym (ap (λ (x : Started). x.config) (begins from.0 from.1 from.2))
        ∙ sym (ap (λ (x : TextStart). (start_of x.loaded.program).config) from.3)
