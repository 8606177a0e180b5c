-- The lines of many choices, of the numbers that the code has; and that they are those of the definitions.
use Rattle.std.specs.Prelude.{ℕ, suc, ◌+◌, ◌*◌, ◌≤◌, ◌≡◌, refl, List, [], ◌∷◌, ◌++◌, map}
use Rattle.std.proofs.Common.{ap, ◌∙◌, append_assoc, arith}
use Rattle.lists.specs.Lists.{All, flat}
use Rattle.programs.specs.Sizes.{CHOICES, BITS}
use Rattle.rules.specs.declared.Rule.{Rule}
use Rattle.labels.specs.Labels.{rule_number}
use Rattle.machines.specs.Config.{Choice}
use Rattle.choices.specs.Choices.{choice_word, choice_of, choice_again}
use Rattle.texts.specs.Bytes.{bytes, LF}
use Rattle.outputs.specs.Lines.{field, rule_name}
use Rattle.outputs.specs.Programs.{step_lines, choice_line}
use Rattle.output_lines.specs.Names.{name_is}
use Rattle.output_lines.specs.OutputLines.{step_line}

-- the longest output: a step line of 34 bytes for each choice, and an end line of 26
abbrev pub OUTPUT : ℕ
OUTPUT = 34 * CHOICES + 26

-- THE STEP LINES of choices and rules, the first of them with the number n
abbrev pub step_rows : ℕ → List ℕ → List ℕ → List ℕ
step_rows n [] rs = []
step_rows n (c ∷ cs) [] = []
step_rows n (c ∷ cs) (r ∷ rs) = step_line n c r ++ step_rows (suc n) cs rs

-- a line in front of others
line_before : (n : ℕ) (x : Choice) (name rest : List ℕ) → (field "n=" n ++ (field " machine=" x.machine ++ (bytes " rule=" ++ (name ++ LF ∷ [])))) ++ rest
    ≡ field "n=" n ++ (field " machine=" x.machine ++ (bytes " rule=" ++ (name ++ LF ∷ rest)))
line_before n x name rest =
    rw (append_assoc (field "n=" n) (field " machine=" x.machine ++ (bytes " rule=" ++ (name ++ LF ∷ []))) rest, append_assoc (field " machine=" x.machine) (bytes " rule=" ++ (name ++ LF ∷ [])) rest, append_assoc name (LF ∷ []) rest)

-- they are the definition's
pub rows_are_lines : (n : ℕ) (cs : List ℕ) (rs : List Rule) → step_rows n cs (map rule_number rs) ≡ step_lines n (map choice_of cs) rs
rows_are_lines n [] rs = refl
rows_are_lines n (c ∷ cs) [] = refl
rows_are_lines n (c ∷ cs) (R ∷ rs) = rw (name_is R, rows_are_lines (suc n) cs rs) (line_before n (choice_of c) (bytes (rule_name R)) (step_lines (suc n) (map choice_of cs) rs))

-- THE CHOICE LINES of choices
abbrev pub choice_rows : List ℕ → List ℕ
choice_rows cs = flat (λ c. choice_line (choice_of c)) cs

-- they are the definition's, where the bits are a choice's
pub rows_are_choices : (m : List Choice) → All (λ x. x.bits ≤ BITS) m → choice_rows (map choice_word m) ≡ flat choice_line m
rows_are_choices [] h = refl
rows_are_choices (x ∷ m) h =
    ap (λ (y : Choice). choice_line y ++ choice_rows (map choice_word m)) (choice_again x (omega (arith, h.0)))
    ∙ ap (λ (r : List ℕ). choice_line x ++ r) (rows_are_choices m h.1)
