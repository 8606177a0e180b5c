-- What a loaded text starts with: answer 0 and the start configuration of the program that the text says, which is never refused with 20.
use Rattle.std.specs.Prelude.{ℕ, ◌≡◌, List}
use Rattle.std.proofs.Common.{ap, ◌∙◌}
use Rattle.answers.specs.declared.Answer.TheVariants.{Done}
use Rattle.programs.specs.Program.{Program}
use Rattle.machines.specs.Config.{Choice}
use Rattle.rules.specs.Step.{start_config}
use Rattle.texts.specs.Reading.{loaded}
use Rattle.texts.specs.Answered.{answered}
use Rattle.tabled.specs.Tabled.{load_of}
use Rattle.handed.specs.Handed.{Fit}
use Rattle.loaded_fits.specs.LoadedFits.{loaded_reads, loaded_fits}
use Rattle.starting.specs.Started.{started_as, start_of, start_sound, started_fits}

module _ (t : List ℕ) (p : Program) (c : List Choice) (e : answered t ≡ loaded p c) where
  -- it starts
  pub loaded_starts : start_of (load_of t).program ≡ started_as Done (start_config p)
  loaded_starts = start_sound (load_of t).program (loaded_fits t p c e).0 ∙ ap (λ (x : Program). started_as Done (start_config x)) (loaded_reads t p c e)

  -- AND NOTHING OF 20 HOLDS of what it starts with
  pub loaded_start_fits : Fit (load_of t).program (start_of (load_of t).program).config
  loaded_start_fits = started_fits (load_of t).program (loaded_fits t p c e).0
