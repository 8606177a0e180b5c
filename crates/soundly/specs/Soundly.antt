-- What the tests of a program tell together: a sound program (answer 20). The passes 4 to 9 find no fault exactly where their verdict is answer 0.
use Rattle.std.specs.Prelude.{ℕ, ◌≤◌, ◌≡◌, Bool, true, false, cond, ◌&&◌, eqb}
use Rattle.std.proofs.Math.Path.{refl}
use Rattle.std.proofs.Common.{ap, ◌∙◌}
use mathlib.Core.List.{List, [], ◌∷◌}
use Rattle.answers.specs.Number.{number}
use Rattle.answers.specs.declared.Answer.{Answer}
use Rattle.answers.specs.declared.Answer.TheVariants.{Done, NotThere, NotLower, Doubled, ExitLeaves, TooHigh, NoState}
use Rattle.programs.specs.Program.{Program}
use Rattle.soundness.specs.Asked.{Asked, orderly, refers, lower, own, single, quiet, low}
use Rattle.soundness.specs.Sound.{lines, first_fault, meets, sized, stateful, sound}
use Rattle.faults.specs.Faults.{meets_fault}
use Rattle.texts.specs.Verdict.{verdict_of, verdict}
use Rattle.judging.specs.Judging.{from_five, after_five, from_six, from_seven, from_eight}

-- no more kinds than 16
pub few_kinds : (p : Program) → (sized p).test ≡ true → p.machines ≤ 16
few_kinds p e = ((sized p).tells.holds e).0

-- a verdict is answer 0
abbrev pub is_done : Answer × ℕ → Bool
is_done v = eqb (number v.0) 0

module _ (p : Program) where
  -- A pass, in front of others
  pass_done : (a : Answer) (t : Asked) (ts : List (Answer × Asked)) (b : Bool) → eqb (number a) 0 ≡ false → is_done (verdict_of p ts) ≡ b → is_done (verdict_of p ((a, t) ∷ ts)) ≡ ((meets p t).test && b)
  pass_done a t ts b n e = rw (meets_fault p t) (go (eqb (first_fault 1 (lines p t)) 0))
    where
      go : (m : Bool) → is_done (cond m (verdict_of p ts) (a, first_fault 1 (lines p t))) ≡ (m && b)
      go true = e
      go false = n

  -- 9
  last_done : (b : Bool) → is_done (cond b (Done, 0) (NoState, 0)) ≡ b
  last_done true = refl
  last_done false = refl

  -- all passes
  verdict_done : is_done (verdict p) ≡ ((meets p (refers p)).test && ((meets p (lower p)).test && ((meets p (own p)).test && ((meets p (single p)).test && ((meets p (quiet p)).test && ((meets p (low p)).test && (stateful p).test))))))
  unfolding verdict
  verdict_done =
      pass_done NotThere (refers p) (from_five p) _ refl (pass_done NotLower (lower p) (after_five p) _ refl (pass_done NotThere (own p) (from_six p) _ refl (pass_done Doubled (single p) (from_seven p) _ refl
      (pass_done ExitLeaves (quiet p) (from_eight p) _ refl (pass_done TooHigh (low p) [] _ refl (last_done (stateful p).test))))))

  -- A TEST THAT FAILS makes the whole fail: the first,
  pub no_order : (meets p orderly).test ≡ false → false ≡ sound p
  unfolding sound
  no_order e = rw e

  -- and the second where the first passes.
  pub no_size : (meets p orderly).test ≡ true → (sized p).test ≡ false → false ≡ sound p
  unfolding sound
  no_size o e = rw (o, e)

  -- Where both pass the verdict tells.
  pub all_told : (meets p orderly).test ≡ true → (sized p).test ≡ true → (v : Answer × ℕ) → v ≡ verdict p → is_done v ≡ sound p
  unfolding sound
  all_told o e v h = rw (o, e) (ap is_done h ∙ verdict_done)
