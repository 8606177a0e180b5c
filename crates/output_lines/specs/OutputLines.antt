-- The lines that the two programs write, of the numbers that the code has: a choice as one number, a rule by its number.
use Rattle.std.specs.Prelude.{ℕ, List, [], ◌∷◌, ◌++◌}
use Rattle.answers.specs.declared.Answer.{Answer}
use Rattle.answers.specs.Number.{number}
use Rattle.choices.specs.Choices.{choice_of}
use Rattle.texts.specs.Bytes.{bytes, LF}
use Rattle.outputs.specs.Lines.{field}
use Rattle.output_lines.specs.Names.{name_of}

-- `n=1 machine=1 rule=ASSIGN`
abbrev pub step_line : ℕ → ℕ → ℕ → List ℕ
step_line n choice rule = field "n=" n ++ (field " machine=" (choice_of choice).machine ++ (bytes " rule=" ++ (name_of rule ++ LF ∷ [])))

-- `end=0 steps=6 live=1`
abbrev pub ending : Answer → ℕ → ℕ → List ℕ
ending answer steps live = field "end=" (number answer) ++ (field " steps=" steps ++ (field " live=" live ++ LF ∷ []))

-- `end=0`
abbrev pub answer_line : Answer → List ℕ
answer_line answer = field "end=" (number answer) ++ LF ∷ []
