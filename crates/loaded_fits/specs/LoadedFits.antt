-- WHAT THE LOADER HANDS OUT: the program that the text says, which is sound, and whose start configuration is accepted. So it is never refused with 20.
use Rattle.std.specs.Prelude.{ℕ, suc, ◌≤◌, ◌≡◌, refl, Bool, true, false, cond, List, ltb, length}
use Rattle.std.proofs.Math.Path.{ap}
use Rattle.std.proofs.Common.{◌∙◌, subst, arith, ltb-false}
use Rattle.lists.specs.Lists.{There, All}
use Rattle.lists.specs.Facts.{All-places}
use Rattle.answers.specs.declared.Answer.TheVariants.{TextTooLong}
use Rattle.programs.specs.Sizes.{TEXT}
use Rattle.programs.specs.Program.{Program}
use Rattle.machines.specs.Config.{Choice}
use Rattle.rules.specs.Step.{start_config}
use Rattle.soundness.specs.Asked.{refers}
use Rattle.soundness.specs.Sound.{Sound}
use Rattle.soundness.specs.Lines.{variable_meets, fault_free}
use Rattle.configs.specs.Encode.{written}
use Rattle.tables.specs.Decode.{no_variable, program_of}
use Rattle.texts.specs.Bytes.{LF, split}
use Rattle.texts.specs.Reading.{nothing, loaded, refused, reading}
use Rattle.texts.specs.Answered.{judge, answered}
use Rattle.loaded.specs.Fitting.{prepared}
use Rattle.loaded.specs.Loaded.{loads_judged, loaded_sound}
use Rattle.tabled.specs.Tabled.{loaded_as, load_of}
use Rattle.standing.specs.Stood.{Fitting}
use Rattle.standing.specs.Reads.{prepared_fits, tabled_reads}
use Rattle.standing.specs.Uncut.{stood_same}
use Rattle.standing.specs.Absent.{few_variables}
use Rattle.reading.specs.Bounded.{text_bounded}
use Rattle.handed.specs.Handed.{Fit}
use Rattle.handed.specs.Start.{start_fits}

-- a text that is loaded is not too long
short : (t : List ℕ) (p : Program) (c : List Choice) → answered t ≡ loaded p c → length t ≤ TEXT
unfolding answered
short t p c e = go (ltb TEXT (length t)) refl e
  where
    go : (b : Bool) → ltb TEXT (length t) ≡ b → cond b (refused TextTooLong 0) (judge (reading 0 nothing 1 (split LF t))) ≡ loaded p c → length t ≤ TEXT
    go true q z = absurd (let y : ◌≡◌ {A = ℕ} 0 1 = cc in omega arith)
    go false q z = ltb-false TEXT (length t) q

-- in a sound program every variable's kind is there
kinds_there : (p : Program) → Sound p → All (λ v. There p.machines v.of) p.variables
kinds_there p s = All-places (λ v. There p.machines v.of) no_variable p.variables (λ i b. variable_meets p (refers p) s.all_refer (suc i) (omega arith, omega arith))

module _ (t : List ℕ) (p : Program) (c : List Choice) (e : answered t ≡ loaded p c) where
  -- the program is sound,
  sound : Sound p
  sound = loaded_sound t p c e

  -- its tables hold it,
  fits : Fitting p
  fits =
      let r = (loads_judged t p c e).0 in
      let h = prepared (split LF t) p c r in
      let b = text_bounded t p c (short t p c e) r in
      prepared_fits p c h (few_variables p sound.is_sized.0 sound.is_sized.1.1.0 (kinds_there p sound)) b.0 b.1

  -- THE TABLES READ AS IT
  pub loaded_reads : program_of (load_of t).program ≡ p
  unfolding load_of
  loaded_reads = ap (λ r. program_of (loaded_as r).program) e ∙ tabled_reads p fits ∙ stood_same p fits ((fault_free p (refers p)).1 sound.all_refer)

  -- THEY ARE SOUND, AND THE START CONFIGURATION IS ACCEPTED: nothing of 20 holds
  pub loaded_fits : Fit (load_of t).program (written (start_config p))
  loaded_fits = subst (λ (x : Program). Fit (load_of t).program (written (start_config x))) loaded_reads (start_fits (load_of t).program (rw loaded_reads sound))
