-- Samples: texts that are refused. Written by `python3 second/statements.py --write crates/samples/specs`, and not to be edited by hand.
use Rattle.std.specs.Prelude.{◌≡◌, refl, [], ◌∷◌, replicate}
use Rattle.lists.specs.Down.{below, downward}
use Rattle.answers.specs.declared.Answer.TheVariants.{NotThere, NotLower, Doubled, ExitLeaves, TooHigh, NoState}
use Rattle.programs.specs.Trees.{tree, stars, tree_height, expr_inside}
use Rattle.programs.specs.Statements.{height, inside, serves, expr_serves}
use Rattle.soundness.specs.Asked.{quietly}
use Rattle.machines.specs.Eval.{value}
use Rattle.machines.specs.Row.{onto}
use Rattle.rules.specs.Act.{act}
use Rattle.rules.specs.Step.{step, start_config}
use Rattle.texts.specs.Bytes.{text}
use Rattle.texts.specs.Forms.{said}
use Rattle.texts.specs.Answered.{answered}
use Rattle.samples.specs.Seen.{seen, refused_text}

-- "`init` variables are the created kind's, in a statement that serves none too"
pub foreign_init : seen (text (
    "machine=1"
    ∷ "machine=2"
    ∷ "var=1 of=1 type=id"
    ∷ "var=2 of=1 type=int"
    ∷ "expr=1 kind=int val=1"
    ∷ "stmt=1 kind=new var=1 machine=2 init=2:1"
    ∷ "state=1 of=1 defer=none entry=0 exit=0"
    ∷ "state=2 of=2 defer=none entry=0 exit=0"
    ∷ "start=1"
    ∷ []))
    ≡ refused_text NotThere 6
unfolding seen answered said below downward tree stars tree_height expr_inside height inside serves expr_serves quietly value onto act step start_config
foreign_init = refl

-- "a foreign variable after 5": kind 2 reads a variable of kind 1 on line 4, and statement 1 is named twice on line 8.
pub foreign_after_five : seen (text (
    "machine=1"
    ∷ "machine=2"
    ∷ "var=1 of=1 type=bool"
    ∷ "expr=1 kind=var var=1"
    ∷ "stmt=1 kind=assert expr=1"
    ∷ "action=1 of=2 do=1"
    ∷ "state=1 of=1 defer=none entry=0 exit=0"
    ∷ "state=2 of=2 defer=none entry=1 exit=0"
    ∷ "start=1"
    ∷ []))
    ≡ refused_text NotLower 8
unfolding seen answered said below downward tree stars tree_height expr_inside height inside serves expr_serves quietly value onto act step start_config
foreign_after_five = refl

-- The same without the doubling: the fault of the line that names the variable.
pub foreign_variable : seen (text (
    "machine=1"
    ∷ "machine=2"
    ∷ "var=1 of=1 type=bool"
    ∷ "expr=1 kind=var var=1"
    ∷ "stmt=1 kind=assert expr=1"
    ∷ "state=1 of=1 defer=none entry=0 exit=0"
    ∷ "state=2 of=2 defer=none entry=1 exit=0"
    ∷ "start=1"
    ∷ []))
    ≡ refused_text NotThere 4
unfolding seen answered said below downward tree stars tree_height expr_inside height inside serves expr_serves quietly value onto act step start_config
foreign_variable = refl

-- "two transitions ... for one state and event", at the later line; an action beside them is none.
pub a_call_beside_a_step : seen (text (
    "event=1 type=void"
    ∷ "machine=1"
    ∷ "action=1 of=1 do=0"
    ∷ "state=1 of=1 defer=1 entry=0 exit=0"
    ∷ "step=1 on=1 to=1"
    ∷ "call=1 on=1 to=1"
    ∷ "act=1 on=1 do=1"
    ∷ "start=1"
    ∷ []))
    ≡ refused_text Doubled 6
unfolding seen answered said below downward tree stars tree_height expr_inside height inside serves expr_serves quietly value onto act step start_config
a_call_beside_a_step = refl

-- "an exit with raise, return or leave anywhere inside", at the state's line.
pub an_exit_that_leaves : seen (text (
    "event=1 type=void"
    ∷ "machine=1"
    ∷ "expr=1 kind=star"
    ∷ "stmt=1 kind=leave"
    ∷ "stmt=2 kind=while cond=1 body=1"
    ∷ "stmt=3 kind=seq first=0 second=2"
    ∷ "state=1 of=1 defer=none entry=0 exit=0"
    ∷ "state=2 of=1 defer=none entry=0 exit=3"
    ∷ "start=1"
    ∷ []))
    ≡ refused_text ExitLeaves 8
unfolding seen answered said below downward tree stars tree_height expr_inside height inside serves expr_serves quietly value onto act step start_config
an_exit_that_leaves = refl

-- "At most 8 `*` in one statement": nine of them stand in the values of one `init`.
pub nine_stars : seen (text (
    "machine=1"
    ∷ "var=1 of=1 type=bool"
    ∷ "var=2 of=1 type=bool"
    ∷ "var=3 of=1 type=bool"
    ∷ "var=4 of=1 type=bool"
    ∷ "var=5 of=1 type=bool"
    ∷ "var=6 of=1 type=bool"
    ∷ "var=7 of=1 type=bool"
    ∷ "var=8 of=1 type=bool"
    ∷ "var=9 of=1 type=bool"
    ∷ "var=10 of=1 type=id"
    ∷ "expr=1 kind=star"
    ∷ "expr=2 kind=star"
    ∷ "expr=3 kind=star"
    ∷ "expr=4 kind=star"
    ∷ "expr=5 kind=star"
    ∷ "expr=6 kind=star"
    ∷ "expr=7 kind=star"
    ∷ "expr=8 kind=star"
    ∷ "expr=9 kind=star"
    ∷ "expr=10 kind=var var=8"
    ∷ "stmt=1 kind=new var=10 machine=1 init=1:1,2:2,3:3,4:4,5:5,6:6,7:7,8:8,9:9"
    ∷ "stmt=2 kind=assert expr=10"
    ∷ "stmt=3 kind=seq first=1 second=2"
    ∷ "state=1 of=1 defer=none entry=3 exit=0"
    ∷ "start=1"
    ∷ "choice=1 bits=128" ∷ "choice=2 bits=0" ∷ "choice=2" ∷ "choice=2" ∷ "choice=1" ∷ "choice=1"
    ∷ []))
    ≡ refused_text TooHigh 22
unfolding seen answered said below downward tree stars tree_height expr_inside height inside serves expr_serves quietly value onto act step start_config
nine_stars = refl

-- "Nesting height of a statement or expression 32 (a leaf is 1, and so is 0 ...)"
pub height_33 : seen (text (
    "machine=1"
    ∷ "stmt=1 kind=seq first=0 second=0"
    ∷ "stmt=2 kind=seq first=1 second=0"
    ∷ "stmt=3 kind=seq first=2 second=0"
    ∷ "stmt=4 kind=seq first=3 second=0"
    ∷ "stmt=5 kind=seq first=4 second=0"
    ∷ "stmt=6 kind=seq first=5 second=0"
    ∷ "stmt=7 kind=seq first=6 second=0"
    ∷ "stmt=8 kind=seq first=7 second=0"
    ∷ "stmt=9 kind=seq first=8 second=0"
    ∷ "stmt=10 kind=seq first=9 second=0"
    ∷ "stmt=11 kind=seq first=10 second=0"
    ∷ "stmt=12 kind=seq first=11 second=0"
    ∷ "stmt=13 kind=seq first=12 second=0"
    ∷ "stmt=14 kind=seq first=13 second=0"
    ∷ "stmt=15 kind=seq first=14 second=0"
    ∷ "stmt=16 kind=seq first=15 second=0"
    ∷ "stmt=17 kind=seq first=16 second=0"
    ∷ "stmt=18 kind=seq first=17 second=0"
    ∷ "stmt=19 kind=seq first=18 second=0"
    ∷ "stmt=20 kind=seq first=19 second=0"
    ∷ "stmt=21 kind=seq first=20 second=0"
    ∷ "stmt=22 kind=seq first=21 second=0"
    ∷ "stmt=23 kind=seq first=22 second=0"
    ∷ "stmt=24 kind=seq first=23 second=0"
    ∷ "stmt=25 kind=seq first=24 second=0"
    ∷ "stmt=26 kind=seq first=25 second=0"
    ∷ "stmt=27 kind=seq first=26 second=0"
    ∷ "stmt=28 kind=seq first=27 second=0"
    ∷ "stmt=29 kind=seq first=28 second=0"
    ∷ "stmt=30 kind=seq first=29 second=0"
    ∷ "stmt=31 kind=seq first=30 second=0"
    ∷ "stmt=32 kind=seq first=31 second=0"
    ∷ "state=1 of=1 defer=none entry=32 exit=0"
    ∷ "start=1"
    ∷ replicate 32 "choice=1"))
    ≡ refused_text TooHigh 33
unfolding seen answered said below downward tree stars tree_height expr_inside height inside serves expr_serves quietly value onto act step start_config
height_33 = refl

-- Answer 9 has line 0.
pub a_kind_without_a_state : seen (text (
    "machine=1"
    ∷ "machine=2"
    ∷ "state=1 of=1 defer=none entry=0 exit=0"
    ∷ "start=1"
    ∷ "choice=1"
    ∷ []))
    ≡ refused_text NoState 0
unfolding seen answered said below downward tree stars tree_height expr_inside height inside serves expr_serves quietly value onto act step start_config
a_kind_without_a_state = refl
