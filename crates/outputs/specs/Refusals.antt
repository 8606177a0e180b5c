-- A text that is refused is refused with an answer above 0. Nothing here is of the document.
use Rattle.std.specs.Prelude.{ℕ, ◌+◌, ◌≡◌, refl, Bool, true, false, cond, List, [], ◌∷◌, eqb, ltb, length}
use Rattle.std.proofs.Math.Option.{Option, none, some}
use Rattle.lists.specs.Lists.{on_opt}
use Rattle.answers.specs.declared.Answer.TheVariants.{NotInForm, OutOfRange, TextTooLong}
use Rattle.answers.specs.Number.{number}
use Rattle.programs.specs.Sizes.{TEXT}
use Rattle.texts.specs.Bytes.{LF, split}
use Rattle.texts.specs.Forms.{Said, said}
use Rattle.texts.specs.Reading.{Tables, Result, loaded, refused, nothing, put, kind, ordered, ranged, starts_of, whole, reading}
use Rattle.texts.specs.Answered.{judge, answered}
use Rattle.texts.specs.Verdict.{verdict, judged_is}

-- where the result is a refusal, its answer is above 0
abbrev pub Refuses : Result → Type 0
Refuses (loaded p c) = Unit {0}
Refuses (refused a k) = eqb (number a) 0 ≡ false

-- of the lines that were read to the last
whole_refuses : (a : Tables) (k : ℕ) → Refuses (whole a k)
whole_refuses a k = go (starts_of a) refl
  where
    go : (l : List ℕ) → starts_of a ≡ l → Refuses (whole a k)
    go [] e = rw e refl
    go (s ∷ l) e = rw e tt

-- of the lines from any one on
reading_refuses : (last : ℕ) (a : Tables) (k : ℕ) (ls : List (List ℕ)) → Refuses (reading last a k ls)
reading_refuses last a k [] = whole_refuses a k
reading_refuses last a k ([] ∷ []) = whole_refuses a k
reading_refuses last a k ((b ∷ l) ∷ []) = refl
reading_refuses last a k (l ∷ m ∷ ls) = go (said l) (λ x. reading_refuses (kind x) (put x a) (k + 1) (m ∷ ls))
  where
    ranging : (x : Said) (b : Bool) → Refuses (reading (kind x) (put x a) (k + 1) (m ∷ ls)) → Refuses (cond b (reading (kind x) (put x a) (k + 1) (m ∷ ls)) (refused OutOfRange k))
    ranging x true h = h
    ranging x false h = refl

    ordering : (r : Result) (b : Bool) → Refuses r → Refuses (cond b r (refused NotInForm k))
    ordering r true h = h
    ordering r false h = refl

    go : (o : Option Said) → ((x : Said) → Refuses (reading (kind x) (put x a) (k + 1) (m ∷ ls)))
        → Refuses (on_opt o (refused NotInForm k) (λ x. cond (ordered last x) (cond (ranged a x) (reading (kind x) (put x a) (k + 1) (m ∷ ls)) (refused OutOfRange k)) (refused NotInForm k)))
    go none later = refl
    go (some x) later = ordering _ (ordered last x) (ranging x (ranged a x) (later x))

-- of what is judged
judge_refuses : (r : Result) → Refuses r → Refuses (judge r)
judge_refuses (refused a k) h = h
judge_refuses (loaded p c) h = rw (judged_is p c) (go (eqb (number (verdict p).0) 0) refl)
  where
    go : (b : Bool) → eqb (number (verdict p).0) 0 ≡ b → Refuses (cond b (loaded p c) (refused (verdict p).0 (verdict p).1))
    go true e = tt
    go false e = e

-- THE law, of any text
pub answer_refuses : (t : List ℕ) → Refuses (answered t)
unfolding answered
answer_refuses t = go (ltb TEXT (length t)) (judge_refuses (reading 0 nothing 1 (split LF t)) (reading_refuses 0 nothing 1 (split LF t)))
  where
    go : (b : Bool) → Refuses (judge (reading 0 nothing 1 (split LF t))) → Refuses (cond b (refused TextTooLong 0) (judge (reading 0 nothing 1 (split LF t))))
    go true h = refl
    go false h = h
