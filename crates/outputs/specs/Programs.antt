-- Document 01, "A session of the run program": what each of the two programs writes, as a function of the bytes that it reads.
use Rattle.std.specs.Prelude.{ℕ, suc, List, [], ◌∷◌, ◌++◌}
use Rattle.lists.specs.Lists.{on_opt, flat}
use Rattle.answers.specs.declared.Answer.{Answer}
use Rattle.answers.specs.declared.Answer.TheVariants.{Done, TookNoStep}
use Rattle.answers.specs.Number.{number}
use Rattle.machines.specs.Config.{Config, Choice}
use Rattle.machines.specs.Rooms.{live}
use Rattle.runs.specs.Run.{Ended, run, ruled}
use Rattle.rules.specs.declared.Rule.{Rule}
use Rattle.rules.specs.Step.{step, start_config}
use Rattle.meetings.specs.Meetings.{regroup}
use Rattle.texts.specs.Bytes.{bytes, LF}
use Rattle.texts.specs.Reading.{Result, loaded, refused}
use Rattle.texts.specs.Answered.{answered}
use Rattle.outputs.specs.Lines.{field, rule_name}

-- "A refused text prints one line, as `end=4 line=7`."
abbrev pub refusal : Answer → ℕ → List ℕ
refusal a k = field "end=" (number a) ++ (field " line=" k ++ LF ∷ [])

-- `n=1 machine=1 rule=ASSIGN`: "`n` counts choices". A refused choice has no line.
abbrev pub step_lines : ℕ → List Choice → List Rule → List ℕ
step_lines n [] rs = []
step_lines n (x ∷ l) [] = []
step_lines n (x ∷ l) (R ∷ rs) = field "n=" n ++ (field " machine=" x.machine ++ (bytes " rule=" ++ (bytes (rule_name R) ++ LF ∷ step_lines (suc n) l rs)))

-- `end=0 steps=6 live=1`: "`end` is the answer, `steps` the steps taken, `live` the machines left"
abbrev pub end_line : Ended Config → List ℕ
end_line e = field "end=" (number e.answer) ++ (field " steps=" e.steps ++ (field " live=" (live e.config) ++ LF ∷ []))

-- what the run program writes of the answer to its text
abbrev pub run_output : Result → List ℕ
run_output (refused a k) = refusal a k
run_output (loaded p l) = step_lines 1 l (ruled (step p) (start_config p) l) ++ end_line (run (step p) (start_config p) l)

-- THE RUN PROGRAM
unfoldable pub run_program : List ℕ → List ℕ
run_program t = run_output (answered t)

-- "The regroup program prints choice lines with `bits`, then `end=0`; refused, only `end=`, with `line=` for a text."
abbrev pub choice_line : Choice → List ℕ
choice_line x = field "choice=" x.machine ++ (field " bits=" x.bits ++ LF ∷ [])

-- what the regroup program writes of the answer to its text
abbrev pub regroup_output : Result → List ℕ
regroup_output (refused a k) = refusal a k
regroup_output (loaded p l) = on_opt (regroup p (start_config p) l) (field "end=" (number TookNoStep) ++ LF ∷ []) (λ m. flat choice_line m ++ (field "end=" (number Done) ++ LF ∷ []))

-- THE REGROUP PROGRAM
unfoldable pub regroup_program : List ℕ → List ℕ
regroup_program t = regroup_output (answered t)
