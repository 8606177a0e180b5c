-- Document 01, "A session of the run program": both sessions, from the bytes read to the bytes written, and what the regroup program writes for the first.
use Rattle.std.specs.Prelude.{ℕ, ◌≡◌, refl, List, [], ◌∷◌, ◌++◌, replicate}
use Prim.Native.String.{String}
use Rattle.lists.specs.Down.{below, downward}
use Rattle.programs.specs.Trees.{tree, stars, tree_height, expr_inside}
use Rattle.programs.specs.Statements.{height, inside, serves, expr_serves}
use Rattle.soundness.specs.Asked.{quietly}
use Rattle.machines.specs.Eval.{value}
use Rattle.machines.specs.Row.{onto}
use Rattle.rules.specs.Act.{act}
use Rattle.rules.specs.Step.{step, start_config}
use Rattle.regrouping.specs.Regrouped.{weave, tails}
use Rattle.regrouping.specs.Demand.{regroup}
use Rattle.texts.specs.Bytes.{text}
use Rattle.texts.specs.Forms.{said}
use Rattle.texts.specs.Answered.{answered}
use Rattle.outputs.specs.Lines.{numeral}
use Rattle.outputs.specs.Programs.{run_program, regroup_program}

-- the lines of the program, but for its step line
abbrev program : List String
program =
    "event=1 type=void"
    ∷ "machine=1"
    ∷ "var=1 of=1 type=int"
    ∷ "expr=1 kind=int val=41"
    ∷ "expr=2 kind=int val=1"
    ∷ "expr=3 kind=add a=1 b=2"
    ∷ "expr=4 kind=this"
    ∷ "stmt=1 kind=assign var=1 expr=3"
    ∷ "stmt=2 kind=send to=4 event=1 arg=0"
    ∷ "stmt=3 kind=seq first=1 second=2"
    ∷ "state=1 of=1 defer=none entry=3 exit=0"
    ∷ []

-- "and six lines `choice=1 bits=0` give, whole"
abbrev with_step : List ℕ
with_step = text (program ++ "step=1 on=1 to=1" ∷ "start=1" ∷ replicate 6 "choice=1 bits=0")

-- the first session, whole
pub session : run_program with_step ≡ text (
    "n=1 machine=1 rule=ASSIGN"
    ∷ "n=2 machine=1 rule=SEQ"
    ∷ "n=3 machine=1 rule=SEND"
    ∷ "n=4 machine=1 rule=DEQUEUE"
    ∷ "n=5 machine=1 rule=SEQ"
    ∷ "n=6 machine=1 rule=STEP"
    ∷ "end=0 steps=6 live=1"
    ∷ [])
unfolding run_program answered said below downward tree stars tree_height expr_inside height inside serves expr_serves quietly value onto act step start_config numeral
session = refl

-- "Without the step line and with seven choices, line 6 is POP1 and the end is `end=13 steps=6 live=1`."
pub without_step : run_program (text (program ++ "start=1" ∷ replicate 7 "choice=1 bits=0")) ≡ text (
    "n=1 machine=1 rule=ASSIGN"
    ∷ "n=2 machine=1 rule=SEQ"
    ∷ "n=3 machine=1 rule=SEND"
    ∷ "n=4 machine=1 rule=DEQUEUE"
    ∷ "n=5 machine=1 rule=SEQ"
    ∷ "n=6 machine=1 rule=POP1"
    ∷ "end=13 steps=6 live=1"
    ∷ [])
unfolding run_program answered said below downward tree stars tree_height expr_inside height inside serves expr_serves quietly value onto act step start_config numeral
without_step = refl

-- "A refused text prints one line, as `end=4 line=7`."
pub refused_text : run_program (text ("event=1 type=void" ∷ "machine=1" ∷ "start=2" ∷ [])) ≡ text ("end=4 line=3" ∷ [])
unfolding run_program answered said below downward tree stars tree_height expr_inside height inside serves expr_serves quietly value onto act step start_config numeral
refused_text = refl

-- "The regroup program prints choice lines with `bits`, then `end=0`"
pub regrouped_session : regroup_program with_step ≡ text (replicate 6 "choice=1 bits=0" ++ "end=0" ∷ [])
unfolding regroup_program answered said below downward tree stars tree_height expr_inside height inside serves expr_serves quietly value onto act step start_config numeral weave tails regroup
regrouped_session = refl
