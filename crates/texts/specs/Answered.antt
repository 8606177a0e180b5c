-- Document 01, "Answers": "1 comes first, then 2 and 3 at the first faulty line (2 before 3), then 4 to 9, lower numbers first, at the first faulty
-- line (a foreign variable after 5; doublings at the later line, 7 at the state's). A refusal of the text gives its line (0 for answers 1 and 9 ...)".
use Rattle.std.specs.Prelude.{ℕ, cond, List, [], ◌∷◌, eqb, ltb, length}
use Rattle.answers.specs.declared.Answer.{Answer}
use Rattle.answers.specs.declared.Answer.TheVariants.{TextTooLong, NotThere, NotLower, Doubled, ExitLeaves, TooHigh, NoState}
use Rattle.programs.specs.Sizes.{TEXT}
use Rattle.programs.specs.Program.{Program}
use Rattle.machines.specs.Config.{Choice}
use Rattle.soundness.specs.Asked.{Asked, refers, lower, own, single, quiet, low}
use Rattle.soundness.specs.Sound.{lines, first_fault, stateful}
use Rattle.texts.specs.Bytes.{LF, split}
use Rattle.texts.specs.Reading.{Result, loaded, refused, nothing, reading}

-- what is asked of every line, with the answer where one does not meet it, in the order in which they decide
abbrev pub passes : Program → List (Answer × Asked)
passes p = (NotThere, refers p) ∷ (NotLower, lower p) ∷ (NotThere, own p) ∷ (Doubled, single p) ∷ (ExitLeaves, quiet p) ∷ (TooHigh, low p) ∷ []

-- the answer of the first pass that some line does not meet, at its first faulty line; then 9
abbrev pub judged : Program → List Choice → List (Answer × Asked) → Result
judged p c [] = cond (stateful p).test (loaded p c) (refused NoState 0)
judged p c (t ∷ ts) =
    let line = first_fault 1 (lines p t.1) in
    let later = judged p c ts in
    cond (eqb line 0) later (refused t.0 line)

-- what reading hands on is judged; what it refuses stays refused
abbrev pub judge : Result → Result
judge (refused a k) = refused a k
judge (loaded p c) = judged p c (passes p)

-- THE ANSWER to a text, for any list of bytes.
unfoldable pub answered : List ℕ → Result
answered t =
    let rest = judge (reading 0 nothing 1 (split LF t)) in
    cond (ltb TEXT (length t)) (refused TextTooLong 0) rest
