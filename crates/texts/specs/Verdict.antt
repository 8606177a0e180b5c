-- The verdict of the passes 4 to 9 over a program: the answer of the first that finds a fault, and its line. What `judged` makes of a program that was
-- read is what its verdict says.
use Rattle.std.specs.Prelude.{ℕ, ◌≡◌, refl, Bool, true, false, cond, List, [], ◌∷◌, eqb}
use Rattle.answers.specs.declared.Answer.{Answer}
use Rattle.answers.specs.declared.Answer.TheVariants.{Done, NoState}
use Rattle.answers.specs.Number.{number}
use Rattle.programs.specs.Program.{Program}
use Rattle.machines.specs.Config.{Choice}
use Rattle.soundness.specs.Asked.{Asked}
use Rattle.soundness.specs.Sound.{lines, first_fault, stateful}
use Rattle.texts.specs.Reading.{Result, loaded, refused}
use Rattle.texts.specs.Answered.{passes, judged}

-- the answer of the first of these passes that some line does not meet, and its first faulty line; then 9; or done
abbrev pub verdict_of : Program → List (Answer × Asked) → Answer × ℕ
verdict_of p [] = cond (stateful p).test (Done, 0) (NoState, 0)
verdict_of p (t ∷ ts) =
    let line = first_fault 1 (lines p t.1) in
    let later = verdict_of p ts in
    cond (eqb line 0) later (t.0, line)

-- THE VERDICT of all passes
unfoldable pub verdict : Program → Answer × ℕ
verdict p = verdict_of p (passes p)

-- what a verdict makes of a program and its choices: they are loaded where it is done
abbrev pub ruled : Program → List Choice → Answer × ℕ → Result
ruled p c v = cond (eqb (number v.0) 0) (loaded p c) (refused v.0 v.1)

-- the answers of these passes are refusals
abbrev Refusing : List (Answer × Asked) → Type 0
Refusing [] = Unit {0}
Refusing (t ∷ ts) = (eqb (number t.0) 0 ≡ false) × Refusing ts

-- Of any passes whose answers are, what is judged is what their verdict says.
judged_by : (p : Program) (c : List Choice) (ts : List (Answer × Asked)) → Refusing ts → judged p c ts ≡ ruled p c (verdict_of p ts)
judged_by p c [] h = go (stateful p).test
  where
    go : (b : Bool) → cond b (loaded p c) (refused NoState 0) ≡ ruled p c (cond b (Done, 0) (NoState, 0))
    go true = refl
    go false = refl
judged_by p c (t ∷ ts) h = go (eqb (first_fault 1 (lines p t.1)) 0) (judged_by p c ts h.1)
  where
    go : (b : Bool) → judged p c ts ≡ ruled p c (verdict_of p ts)
        → cond b (judged p c ts) (refused t.0 (first_fault 1 (lines p t.1))) ≡ ruled p c (cond b (verdict_of p ts) (t.0, first_fault 1 (lines p t.1)))
    go true e = e
    go false e = rw h.0

-- THE law: what is judged is what the verdict says.
pub judged_is : (p : Program) (c : List Choice) → judged p c (passes p) ≡ ruled p c (verdict p)
unfolding verdict
judged_is p c = judged_by p c (passes p) (refl, (refl, (refl, (refl, (refl, (refl, tt))))))
