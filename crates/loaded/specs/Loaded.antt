-- What a text is loaded for: its program is sound and its choices are in range. And where the reading gives a program, the passes 4 to 9 let it
-- through exactly when it is sound. Nothing here is of the document.
use Rattle.std.specs.Prelude.{ℕ, ◌≤◌, ◌<◌, ◌≡◌, refl, ◌↔◌, Bool, true, false, cond, List, [], ◌∷◌, eqb, ltb, length}
use Rattle.std.proofs.Common.{sym, ◌∙◌, arith, eqb-true, eq-eqb, le-ltb}
use Rattle.lists.specs.Lists.{All}
use Rattle.answers.specs.declared.Answer.{Answer}
use Rattle.answers.specs.declared.Answer.TheVariants.{TextTooLong, NoState}
use Rattle.programs.specs.Sizes.{TEXT, CHOICES, SPENT, BITS}
use Rattle.programs.specs.Program.{Program}
use Rattle.machines.specs.Config.{Choice}
use Rattle.soundness.specs.Asked.{Asked}
use Rattle.soundness.specs.Sound.{Sound, lines, first_fault, meets, stateful}
use Rattle.soundness.specs.Lines.{fault_free}
use Rattle.texts.specs.Bytes.{LF, split}
use Rattle.texts.specs.Reading.{Result, loaded, refused, nothing, reading}
use Rattle.texts.specs.Answered.{passes, judged, judge, answered}
use Rattle.loaded.specs.Fitting.{Prepared, prepared}

-- THE PASSES
-- Every pass is met, and every kind has a state.
abbrev pub Passed : Program → List (Answer × Asked) → Type 0
Passed p [] = (stateful p).Holds
Passed p (t ∷ ts) = (meets p t.1).Holds × Passed p ts

module _ (p : Program) (c : List Choice) where
  -- Where they are, the program is loaded.
  passed_loads : (ts : List (Answer × Asked)) → Passed p ts → judged p c ts ≡ loaded p c
  passed_loads [] h = rw ((stateful p).tells.test h)
  passed_loads (t ∷ ts) h = rw (eq-eqb _ 0 ((fault_free p t.1).1 h.0)) (passed_loads ts h.1)

  -- Where a program is loaded, they are, and it is this program with these choices.
  loads_passed : (ts : List (Answer × Asked)) (q : Program) (d : List Choice) → judged p c ts ≡ loaded q d → Passed p ts × (p ≡ q) × (c ≡ d)
  loads_passed [] q d e = go (stateful p).test refl e
    where
      go : (b : Bool) → (stateful p).test ≡ b → cond b (loaded p c) (refused NoState 0) ≡ loaded q d → Passed p [] × (p ≡ q) × (c ≡ d)
      go true b e = ((stateful p).tells.holds b, cc, cc)
      go false b e = let z : ◌≡◌ {A = ℕ} 0 1 = cc in absurd (omega arith)
  loads_passed (t ∷ ts) q d e = go (eqb (first_fault 1 (lines p t.1)) 0) refl e (loads_passed ts q d)
    where
      go : (b : Bool) → eqb (first_fault 1 (lines p t.1)) 0 ≡ b → cond b (judged p c ts) (refused t.0 (first_fault 1 (lines p t.1))) ≡ loaded q d
          → (judged p c ts ≡ loaded q d → Passed p ts × (p ≡ q) × (c ≡ d)) → Passed p (t ∷ ts) × (p ≡ q) × (c ≡ d)
      go true b e later = let l = later e in (((fault_free p t.1).0 (eqb-true _ 0 b), l.0), l.1, l.2)
      go false b e later = let z : ◌≡◌ {A = ℕ} 0 1 = cc in absurd (omega arith)

-- The program that is loaded was read, and every pass is met.
judge_loads : (r : Result) (p : Program) (c : List Choice) → judge r ≡ loaded p c → (r ≡ loaded p c) × Passed p (passes p)
judge_loads (loaded q d) p c e = let h = loads_passed q d (passes q) p c e in (rw (h.1, h.2), rw h.1 at h.0)
judge_loads (refused a k) p c e = let z : ◌≡◌ {A = ℕ} 0 1 = cc in absurd (omega arith)

-- So it is with the text that is answered by loading it: it is not too long.
pub loads_judged : (t : List ℕ) (p : Program) (c : List Choice) → answered t ≡ loaded p c → (reading 0 nothing 1 (split LF t) ≡ loaded p c) × Passed p (passes p)
unfolding answered
loads_judged t p c e = go (ltb TEXT (length t)) e
  where
    go : (b : Bool) → cond b (refused TextTooLong 0) (judge (reading 0 nothing 1 (split LF t))) ≡ loaded p c
        → (reading 0 nothing 1 (split LF t) ≡ loaded p c) × Passed p (passes p)
    go true e = let z : ◌≡◌ {A = ℕ} 0 1 = cc in absurd (omega arith)
    go false e = judge_loads (reading 0 nothing 1 (split LF t)) p c e

-- SOUND is what is prepared and passes,
passed_sound : (p : Program) (c : List Choice) → Prepared p c → Passed p (passes p) → Sound p
passed_sound p c r h = record {
  is_orderly = r.is_orderly;
  is_sized = r.is_sized;
  all_refer = h.0;
  all_lower = h.1.0;
  all_own = h.1.1.0;
  all_single = h.1.1.1.0;
  all_quiet = h.1.1.1.1.0;
  all_low = h.1.1.1.1.1.0;
  is_stateful = h.1.1.1.1.1.1;
}

-- and what is sound passes.
sound_passed : (p : Program) → Sound p → Passed p (passes p)
sound_passed p s = (s.all_refer, (s.all_lower, (s.all_own, (s.all_single, (s.all_quiet, (s.all_low, s.is_stateful))))))

-- THE theorem: a program that is loaded is sound.
pub loaded_sound : (t : List ℕ) (p : Program) (c : List Choice) → answered t ≡ loaded p c → Sound p
loaded_sound t p c e = let h = loads_judged t p c e in passed_sound p c (prepared (split LF t) p c h.0) h.1

-- Its choices are within the size, with live numbers and bits in range.
pub loaded_choices : (t : List ℕ) (p : Program) (c : List Choice) → answered t ≡ loaded p c
    → (length c ≤ CHOICES) × All (λ x. (1 ≤ x.machine) × (x.machine < SPENT) × (x.bits ≤ BITS)) c
loaded_choices t p c e = let r = prepared (split LF t) p c (loads_judged t p c e).0 in (r.in_range_lem.fits, r.in_range_lem.each)

-- A text that is not too long and is read to a program is answered by loading it exactly when the program is sound: so 4 to 9 are given for it exactly
-- when it is not.
pub loaded_is : (t : List ℕ) (p : Program) (c : List Choice) → length t ≤ TEXT → reading 0 nothing 1 (split LF t) ≡ loaded p c → (answered t ≡ loaded p c) ↔ Sound p
unfolding answered
loaded_is t p c short read = (loaded_sound t p c, λ s. rw (le-ltb TEXT (length t) short, read) (passed_loads p c (passes p) (sound_passed p s)))

-- A text has one answer.
pub one_answer : (t : List ℕ) (r s : Result) → answered t ≡ r → answered t ≡ s → r ≡ s
one_answer t r s e f = sym e ∙ f
