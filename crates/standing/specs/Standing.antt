-- THE VERDICT OF A PROGRAM'S TABLES IS THE PROGRAM'S: where pass 4 finds a fault it is the same one, and where it finds none nothing was cut.
use Rattle.std.specs.Prelude.{ℕ, ◌≡◌, refl, Bool, true, false, List, eqb}
use Rattle.std.proofs.Common.{ap, sym, ◌∙◌, eqb-true}
use Rattle.answers.specs.declared.Answer.TheVariants.{NotThere}
use Rattle.programs.specs.Program.{Program}
use Rattle.machines.specs.Config.{Choice}
use Rattle.soundness.specs.Asked.{refers}
use Rattle.soundness.specs.Sound.{lines, first_fault}
use Rattle.texts.specs.Answered.{passes, judged}
use Rattle.tables.specs.Decode.{program_of}
use Rattle.tabled.specs.Tabled.{tabled}
use Rattle.texts.specs.Verdict.{verdict, ruled, judged_is}
use Rattle.standing.specs.Stood.{stood, Fitting}
use Rattle.standing.specs.Reads.{tabled_reads}
use Rattle.standing.specs.Uncut.{stood_same}
use Rattle.standing.specs.Faults.{refers_alike}

-- Where pass 4 finds a fault, that is the verdict.
fourth : (p : Program) → eqb (first_fault 1 (lines p (refers p))) 0 ≡ false → verdict p ≡ (NotThere, first_fault 1 (lines p (refers p)))
unfolding verdict
fourth p e = rw e

module _ (p : Program) (h : Fitting p) where
  -- the program stood has the program's verdict
  stood_verdict : verdict (stood p) ≡ verdict p
  stood_verdict = go (eqb (first_fault 1 (lines p (refers p))) 0) refl
    where
      go : (b : Bool) → eqb (first_fault 1 (lines p (refers p))) 0 ≡ b → verdict (stood p) ≡ verdict p
      go true e = ap verdict (stood_same p h (eqb-true _ 0 e))
      go false e =
          let f = refers_alike p h in
          fourth (stood p) (ap (λ (n : ℕ). eqb n 0) (sym f) ∙ e) ∙ ap (λ (n : ℕ). (NotThere, n)) (sym f) ∙ sym (fourth p e)

  -- so have its tables,
  pub tabled_verdict : verdict (program_of (tabled p)) ≡ verdict p
  tabled_verdict = ap verdict (tabled_reads p h) ∙ stood_verdict

  -- and what is judged of the program is what the verdict of its tables says.
  pub tabled_judged : (c : List Choice) → judged p c (passes p) ≡ ruled p c (verdict (program_of (tabled p)))
  tabled_judged c = judged_is p c ∙ ap (ruled p c) (sym tabled_verdict)
