-- Samples: texts that are refused. Written by `python3 second/statements.py --write crates/samples/specs`, and not to be edited by hand.
use Rattle.std.specs.Prelude.{◌≡◌, refl, [], ◌∷◌, ◌++◌, replicate}
use Rattle.lists.specs.Down.{below, downward}
use Rattle.answers.specs.declared.Answer.TheVariants.{TextTooLong, NotInForm, OutOfRange, NotThere}
use Rattle.programs.specs.Trees.{tree, stars, tree_height, expr_inside}
use Rattle.programs.specs.Statements.{height, inside, serves, expr_serves}
use Rattle.soundness.specs.Asked.{quietly}
use Rattle.machines.specs.Eval.{value}
use Rattle.machines.specs.Row.{onto}
use Rattle.rules.specs.Act.{act}
use Rattle.rules.specs.Step.{step, start_config}
use Rattle.texts.specs.Bytes.{bytes, text}
use Rattle.texts.specs.Forms.{said}
use Rattle.texts.specs.Answered.{answered}
use Rattle.samples.specs.Seen.{seen, refused_text}

-- 60,001 bytes, and no other fault.
pub one_byte_too_long : seen (text (
    "machine=1"
    ∷ "expr=1 kind=bool val=1"
    ∷ "stmt=1 kind=while cond=1 body=0"
    ∷ "state=1 of=1 defer=none entry=1 exit=0"
    ∷ "start=1"
    ∷ replicate 3322 "choice=1 bits=255" ++ replicate 7 "choice=1" ++ "choice=10" ∷ "choice=10" ∷ "choice=10"
    ∷ []))
    ≡ refused_text TextTooLong 0
unfolding seen answered said below downward tree stars tree_height expr_inside height inside serves expr_serves quietly value onto act step start_config
one_byte_too_long = refl

-- "for a missing `start`, the last line's number plus one, with choice lines or without"
pub no_start : seen (text (
    "machine=1"
    ∷ "state=1 of=1 defer=none entry=0 exit=0"
    ∷ "choice=1" ∷ "choice=1"
    ∷ []))
    ≡ refused_text NotInForm 5
unfolding seen answered said below downward tree stars tree_height expr_inside height inside serves expr_serves quietly value onto act step start_config
no_start = refl

-- "Lines end with LF, the last too."
pub no_last-LF : seen (text (
    "event=1 type=int"
    ∷ "machine=1"
    ∷ "state=1 of=1 defer=none entry=0 exit=0"
    ∷ "start=1"
    ∷ []) ++ bytes "choice=1")
    ≡ refused_text NotInForm 5
unfolding seen answered said below downward tree stars tree_height expr_inside height inside serves expr_serves quietly value onto act step start_config
no_last-LF = refl

-- The own number out of sequence on the line behind it does not matter.
pub a_void_variable : seen (text (
    "machine=1"
    ∷ "var=1 of=1 type=void"
    ∷ "var=3 of=1 type=int"
    ∷ []))
    ≡ refused_text NotInForm 2
unfolding seen answered said below downward tree stars tree_height expr_inside height inside serves expr_serves quietly value onto act step start_config
a_void_variable = refl

-- `defer=2,2`: ascending is strictly so.
pub not_ascending : seen (text (
    "event=1 type=void"
    ∷ "event=2 type=void"
    ∷ "machine=1"
    ∷ "state=1 of=1 defer=2,2 entry=0 exit=0"
    ∷ "start=1"
    ∷ []))
    ≡ refused_text NotInForm 4
unfolding seen answered said below downward tree stars tree_height expr_inside height inside serves expr_serves quietly value onto act step start_config
not_ascending = refl

-- "2 before 3" on one line: a minus where there is none, and the number 7 where 1 is due.
pub two_before_three : seen (text (
    "machine=1"
    ∷ "expr=7 kind=var var=-1"
    ∷ "start=1"
    ∷ []))
    ≡ refused_text NotInForm 2
unfolding seen answered said below downward tree stars tree_height expr_inside height inside serves expr_serves quietly value onto act step start_config
two_before_three = refl

-- An int below the least one. The absent variable of line 3 does not matter yet.
pub val_out_of_range : seen (text (
    "machine=1"
    ∷ "expr=1 kind=int val=-2147483648"
    ∷ "expr=2 kind=var var=9"
    ∷ "expr=3 kind=int val=-2147483649"
    ∷ "start=1"
    ∷ []))
    ≡ refused_text OutOfRange 4
unfolding seen answered said below downward tree stars tree_height expr_inside height inside serves expr_serves quietly value onto act step start_config
val_out_of_range = refl

-- "`new` into a variable not of type id" on line 4 comes before the 5 on line 3: "lower numbers first".
pub new_into_an_int : seen (text (
    "machine=1"
    ∷ "var=1 of=1 type=int"
    ∷ "stmt=1 kind=seq first=1 second=0"
    ∷ "stmt=2 kind=new var=1 machine=1 init=none"
    ∷ "state=1 of=1 defer=none entry=2 exit=0"
    ∷ "start=1"
    ∷ []))
    ≡ refused_text NotThere 4
unfolding seen answered said below downward tree stars tree_height expr_inside height inside serves expr_serves quietly value onto act step start_config
new_into_an_int = refl
