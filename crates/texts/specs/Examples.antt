-- Small texts and their answers, each with the sentence of document 01 that it shows. An edit of the definitions that changes one of these answers is refused.
use Rattle.std.specs.Prelude.{ℕ, zero, suc, ◌+◌, ◌*◌, ◌/◌, ◌%◌, ◌<◌, ◌≡◌, refl, cond, List, [], ◌∷◌, ◌++◌, ltb, pos, length}
use Prim.Native.String.{String}
use Rattle.std.proofs.Common.{lt-ltb}
use Rattle.lists.specs.Down.{below, downward}
use Rattle.answers.specs.declared.Answer.TheVariants.{TextTooLong, NotInForm, OutOfRange, NotThere, NotLower, Doubled, ExitLeaves, TooHigh, NoState}
use Rattle.values.specs.declared.Ty.TheVariants.{Void as void, Int as int}
use Rattle.values.specs.declared.Binary.TheVariants.{Add as add}
use Rattle.programs.specs.declared.Leaf.TheVariants.{Int as int_val, This as this}
use Rattle.programs.specs.declared.Expr.TheVariants.{Leaf as leaf, Binary as binary}
use Rattle.programs.specs.Sizes.{TEXT}
use Rattle.programs.specs.Program.{Program, assign, send, seq}
use Rattle.programs.specs.Trees.{tree, stars, tree_height, expr_inside}
use Rattle.programs.specs.Statements.{height, inside, serves, expr_serves}
use Rattle.soundness.specs.Asked.{quietly}
use Rattle.texts.specs.Bytes.{bytes, LF, text}
use Rattle.texts.specs.Forms.{said}
use Rattle.texts.specs.Reading.{loaded, refused}
use Rattle.texts.specs.Answered.{answered}

-- the number n, below 100, in decimal
abbrev decimals : ℕ → List ℕ
decimals n = cond (ltb n 10) ((48 + n) ∷ []) ((48 + n / 10) ∷ (48 + n % 10) ∷ [])

-- lines with the numbers 1 to n between two texts
abbrev counted : String → ℕ → String → List ℕ
counted front zero back = []
counted front (suc n) back = counted front n back ++ bytes front ++ decimals (suc n) ++ bytes back ++ LF ∷ []

-- a state that does nothing, of kind 1; and the next, of kind 2
abbrev idle : String
idle = "state=1 of=1 defer=none entry=0 exit=0"

abbrev other_idle : String
other_idle = "state=2 of=2 defer=none entry=0 exit=0"

-- ANSWER 0
-- "A session of the run program", with two choices; the second shows "A missing `bits` counts as 0."
abbrev session : List String
session = "event=1 type=void" ∷ "machine=1" ∷ "var=1 of=1 type=int"
    ∷ "expr=1 kind=int val=41" ∷ "expr=2 kind=int val=1" ∷ "expr=3 kind=add a=1 b=2" ∷ "expr=4 kind=this"
    ∷ "stmt=1 kind=assign var=1 expr=3" ∷ "stmt=2 kind=send to=4 event=1 arg=0" ∷ "stmt=3 kind=seq first=1 second=2"
    ∷ "state=1 of=1 defer=none entry=3 exit=0" ∷ "step=1 on=1 to=1" ∷ "start=1" ∷ "choice=1 bits=5" ∷ "choice=2" ∷ []

-- its program
abbrev session_program : Program
session_program = record {
  events = void ∷ [];
  machines = 1;
  variables = record { of = 1; type = int } ∷ [];
  exprs = leaf (int_val (pos 41)) ∷ leaf (int_val (pos 1)) ∷ binary add 1 2 ∷ leaf this ∷ [];
  stmts = assign 1 3 ∷ send 4 1 0 ∷ seq 1 2 ∷ [];
  actions = [];
  states = record { of = 1; defer = []; entry = 3; exit = 0 } ∷ [];
  steps = record { from = 1; on = 1; to = 1 } ∷ [];
  calls = [];
  acts = [];
  start = 1;
}

-- It is loaded whole.
the_session : answered (text session) ≡ loaded session_program (record { machine = 1; bits = 5 } ∷ record { machine = 2; bits = 0 } ∷ [])
unfolding answered said below downward tree stars tree_height expr_inside height inside serves expr_serves quietly
the_session = refl

-- ANSWER 1

-- "text over 60,000 bytes": whatever is in it. "A refusal of the text gives its line (0 for answers 1 and 9 ..)"
text_too_long : (t : List ℕ) → TEXT < length t → answered t ≡ refused TextTooLong 0
unfolding answered
text_too_long t h = rw (lt-ltb TEXT (length t) h)

-- ANSWER 2

-- "Fields are `key=value`, one space between"
two_spaces : answered (text ("machine=1" ∷ "state=1 of=1 defer=none  entry=0 exit=0" ∷ "start=1" ∷ [])) ≡ refused NotInForm 2
unfolding answered said
two_spaces = refl

-- "keys in the order shown"
keys_in_order : answered (text ("machine=1" ∷ "state=1 defer=none of=1 entry=0 exit=0" ∷ "start=1" ∷ [])) ≡ refused NotInForm 2
unfolding answered said
keys_in_order = refl

-- "Numbers are decimal without leading zeros"
leading_zero : answered (text ("machine=1" ∷ "expr=1 kind=int val=041" ∷ idle ∷ "start=1" ∷ [])) ≡ refused NotInForm 2
unfolding answered said
leading_zero = refl

-- in a line's own number too;
leading_zero_of_own_number : answered (text ("machine=01" ∷ idle ∷ "start=1" ∷ [])) ≡ refused NotInForm 1
unfolding answered said
leading_zero_of_own_number = refl

-- a single 0 is a number without one (here it is out of sequence, 3)
single_zero : answered (text ("machine=0" ∷ idle ∷ "start=1" ∷ [])) ≡ refused OutOfRange 1
unfolding answered said
single_zero = refl

-- "only `val` may have a minus, and `-0` is refused"
minus_zero : answered (text ("machine=1" ∷ "expr=1 kind=int val=-0" ∷ idle ∷ "start=1" ∷ [])) ≡ refused NotInForm 2
unfolding answered said
minus_zero = refl

-- "only `val` may have a minus": `bits` may not
minus_elsewhere : answered (text ("machine=1" ∷ idle ∷ "start=1" ∷ "choice=1 bits=-1" ∷ [])) ≡ refused NotInForm 4
unfolding answered said
minus_elsewhere = refl

-- "types void, bool, int, event, id"; of a variable "not void"
void_variable : answered (text ("machine=1" ∷ "var=1 of=1 type=void" ∷ idle ∷ "start=1" ∷ [])) ≡ refused NotInForm 2
unfolding answered said
void_variable = refl

-- "`defer=2,5` ascending"
deferred_twice : answered (text ("event=1 type=void" ∷ "machine=1" ∷ "state=1 of=1 defer=1,1 entry=0 exit=0" ∷ "start=1" ∷ [])) ≡ refused NotInForm 3
unfolding answered said
deferred_twice = refl

-- "`init` is `none` or pairs `3:7` of variable and expression, variables ascending"
init_descending : answered (text ("machine=1" ∷ "var=1 of=1 type=id" ∷ "var=2 of=1 type=id" ∷ "expr=1 kind=this" ∷ "expr=2 kind=this"
    ∷ "stmt=1 kind=new var=1 machine=1 init=2:1,1:2" ∷ idle ∷ "start=1" ∷ [])) ≡ refused NotInForm 6
unfolding answered said
init_descending = refl

-- "Kinds of line come in this order": the line that comes too late is the faulty one
event_behind_machine : answered (text ("machine=1" ∷ "event=1 type=void" ∷ idle ∷ "start=1" ∷ [])) ≡ refused NotInForm 2
unfolding answered said
event_behind_machine = refl

-- "`step=1 on=1 to=2`, `call=1 on=1 to=2`, `act=1 on=1 do=1`" are three kinds of line in this order
call_before_step : answered (text ("event=1 type=void" ∷ "event=2 type=void" ∷ "machine=1" ∷ idle ∷ "call=1 on=1 to=1" ∷ "step=1 on=2 to=1"
    ∷ "start=1" ∷ [])) ≡ refused NotInForm 6
unfolding answered said
call_before_step = refl

-- "a line not in the form": an empty one
empty_line : answered (text ("machine=1" ∷ "" ∷ idle ∷ "start=1" ∷ [])) ≡ refused NotInForm 2
unfolding answered said
empty_line = refl

-- "Lines end with LF, the last too."
last_without-LF : answered (text ("machine=1" ∷ idle ∷ []) ++ bytes "start=1") ≡ refused NotInForm 3
unfolding answered said
last_without-LF = refl

-- "for a missing `start`, the last line's number plus one": of no lines that is 1
empty_text : answered (text []) ≡ refused NotInForm 1
unfolding answered said
empty_text = refl

-- "for a missing `start`, the last line's number plus one",
no_start : answered (text ("machine=1" ∷ idle ∷ [])) ≡ refused NotInForm 3
unfolding answered said
no_start = refl

-- "with choice lines or without"
no_start_but_choices : answered (text ("machine=1" ∷ idle ∷ "choice=1 bits=0" ∷ "choice=1 bits=0" ∷ [])) ≡ refused NotInForm 5
unfolding answered said
no_start_but_choices = refl

-- "exactly one, a machine kind": the second `start` is the faulty one,
two_starts : answered (text ("machine=1" ∷ idle ∷ "start=1" ∷ "start=1" ∷ [])) ≡ refused NotInForm 4
unfolding answered said
two_starts = refl

-- and so is one behind the choices
start_behind_choice : answered (text ("machine=1" ∷ idle ∷ "choice=1 bits=0" ∷ "start=1" ∷ [])) ≡ refused NotInForm 4
unfolding answered said
start_behind_choice = refl

-- ANSWER 3

-- "a line's own number out of sequence"
out_of_sequence : answered (text ("machine=1" ∷ "machine=3" ∷ idle ∷ "start=1" ∷ [])) ≡ refused OutOfRange 2
unfolding answered said
out_of_sequence = refl

-- "`val` .. out of range": "int (-2147483648 to 2147483647)"
val_too_great : answered (text ("machine=1" ∷ "expr=1 kind=int val=2147483648" ∷ idle ∷ "start=1" ∷ [])) ≡ refused OutOfRange 2
unfolding answered said
val_too_great = refl

-- and at the other end
val_too_small : answered (text ("machine=1" ∷ "expr=1 kind=int val=-2147483648" ∷ "expr=2 kind=int val=-2147483649" ∷ idle ∷ "start=1" ∷ [])) ≡ refused OutOfRange 3
unfolding answered said
val_too_small = refl

-- "`val`, bool 0 or 1"
bool_of_two : answered (text ("machine=1" ∷ "expr=1 kind=bool val=2" ∷ idle ∷ "start=1" ∷ [])) ≡ refused OutOfRange 2
unfolding answered said
bool_of_two = refl

-- "bits 0 to 255"
bits_256 : answered (text ("machine=1" ∷ idle ∷ "start=1" ∷ "choice=1 bits=255" ∷ "choice=1 bits=256" ∷ [])) ≡ refused OutOfRange 5
unfolding answered said
bits_256 = refl

-- "a live number": "Live numbers are 1 to 65,535",
choice_0 : answered (text ("machine=1" ∷ idle ∷ "start=1" ∷ "choice=0 bits=0" ∷ [])) ≡ refused OutOfRange 4
unfolding answered said
choice_0 = refl

-- from the first to the last
choice_65536 : answered (text ("machine=1" ∷ idle ∷ "start=1" ∷ "choice=65535" ∷ "choice=65536" ∷ [])) ≡ refused OutOfRange 5
unfolding answered said
choice_65536 = refl

-- "a size above passed": "Machine kinds 16",
seventeen_kinds : answered (counted "machine=" 17 "" ++ text (idle ∷ "start=1" ∷ [])) ≡ refused OutOfRange 17
unfolding answered said
seventeen_kinds = refl

-- "events 64",
sixty_five_events : answered (counted "event=" 65 " type=void" ++ text ("machine=1" ∷ idle ∷ "start=1" ∷ [])) ≡ refused OutOfRange 65
unfolding answered said
sixty_five_events = refl

-- "variables 16 a kind",
seventeen_variables : answered (text ("machine=1" ∷ []) ++ counted "var=" 17 " of=1 type=int" ++ text (idle ∷ "start=1" ∷ [])) ≡ refused OutOfRange 18
unfolding answered said
seventeen_variables = refl

-- of a kind that there is: of an absent one the first variable is at fault (4)
seventeen_of_no_kind : answered (text ("machine=1" ∷ []) ++ counted "var=" 17 " of=2 type=int" ++ text (idle ∷ "start=1" ∷ [])) ≡ refused NotThere 2
unfolding answered said
seventeen_of_no_kind = refl

-- "2 and 3 at the first faulty line (2 before 3)": a line that is out of order (2) and out of sequence (3)
two_before_three : answered (text ("machine=1" ∷ "event=7 type=void" ∷ idle ∷ "start=1" ∷ [])) ≡ refused NotInForm 2
unfolding answered said
two_before_three = refl

-- "at the first faulty line": a 3 before a 2
first_faulty_line : answered (text ("machine=2" ∷ "machine=01" ∷ idle ∷ "start=1" ∷ [])) ≡ refused OutOfRange 1
unfolding answered said
first_faulty_line = refl

-- "then 2 and 3 .., then 4 to 9": a choice out of range (3) comes before a kind that is absent (4)
choice_before_program : answered (text ("machine=1" ∷ "state=1 of=2 defer=none entry=0 exit=0" ∷ "start=1" ∷ "choice=1 bits=256" ∷ [])) ≡ refused OutOfRange 4
unfolding answered said
choice_before_program = refl

-- ANSWER 4

-- "a reference to something absent"
absent_kind : answered (text ("machine=1" ∷ "state=1 of=2 defer=none entry=0 exit=0" ∷ "start=1" ∷ [])) ≡ refused NotThere 2
unfolding answered said
absent_kind = refl

-- "`start=1`", "exactly one, a machine kind"
absent_start : answered (text ("machine=1" ∷ idle ∷ "start=2" ∷ [])) ≡ refused NotThere 3
unfolding answered said
absent_start = refl

-- "Any other reference 0 is answer 4.": `to=0` in a send
send_to_0 : answered (text ("event=1 type=void" ∷ "machine=1" ∷ "stmt=1 kind=send to=0 event=1 arg=0" ∷ "state=1 of=1 defer=none entry=1 exit=0"
    ∷ "start=1" ∷ [])) ≡ refused NotThere 3
unfolding answered said
send_to_0 = refl

-- "`new` into a variable not of type id"
new_into_int : answered (text ("machine=1" ∷ "var=1 of=1 type=int" ∷ "stmt=1 kind=new var=1 machine=1 init=none"
    ∷ "state=1 of=1 defer=none entry=1 exit=0" ∷ "start=1" ∷ [])) ≡ refused NotThere 3
unfolding answered said
new_into_int = refl

-- "of another kind's": a step to a state of another kind
step_to_other_kind : answered (text ("event=1 type=void" ∷ "machine=1" ∷ "machine=2" ∷ idle ∷ other_idle ∷ "step=1 on=1 to=2" ∷ "start=1" ∷ [])) ≡ refused NotThere 6
unfolding answered said
step_to_other_kind = refl

-- and an act with an action of another kind
act_of_other_kind : answered (text ("event=1 type=void" ∷ "machine=1" ∷ "machine=2" ∷ "action=1 of=2 do=0" ∷ idle ∷ other_idle ∷ "act=1 on=1 do=1"
    ∷ "start=1" ∷ [])) ≡ refused NotThere 7
unfolding answered said
act_of_other_kind = refl

-- ANSWER 5

-- "a part not lower than its whole": at the line of the whole,
part_not_lower : answered (text ("machine=1" ∷ "stmt=1 kind=seq first=2 second=0" ∷ "stmt=2 kind=skip" ∷ "state=1 of=1 defer=none entry=1 exit=0"
    ∷ "start=1" ∷ [])) ≡ refused NotLower 2
unfolding answered said
part_not_lower = refl

-- of an expression too
expression_of_itself : answered (text ("machine=1" ∷ "expr=1 kind=neg a=1" ∷ idle ∷ "start=1" ∷ [])) ≡ refused NotLower 2
unfolding answered said
expression_of_itself = refl

-- "each is named at most once in the text", "doublings at the later line"
named_twice : answered (text ("machine=1" ∷ "stmt=1 kind=skip" ∷ "state=1 of=1 defer=none entry=1 exit=0" ∷ "state=2 of=1 defer=none entry=0 exit=1"
    ∷ "start=1" ∷ [])) ≡ refused NotLower 4
unfolding answered said
named_twice = refl

-- on one line too: `add a=1 b=1`
named_twice_in_one : answered (text ("machine=1" ∷ "expr=1 kind=this" ∷ "expr=2 kind=add a=1 b=1" ∷ idle ∷ "start=1" ∷ [])) ≡ refused NotLower 3
unfolding answered said
named_twice_in_one = refl

-- "0 means skip": it is no part, and may be named often (here the kind without a state is what is refused)
skip_named_often : answered (text ("machine=1" ∷ "machine=2" ∷ idle ∷ "state=2 of=1 defer=none entry=0 exit=0" ∷ "start=1" ∷ [])) ≡ refused NoState 0
unfolding answered said quietly downward below height
skip_named_often = refl

-- ANSWER 4 AGAIN, behind 5

-- "A foreign variable is the fault of the line naming it"
foreign_variable : answered (text ("machine=1" ∷ "machine=2" ∷ "var=1 of=2 type=bool" ∷ "expr=1 kind=var var=1" ∷ "stmt=1 kind=assert expr=1"
    ∷ "stmt=2 kind=skip" ∷ "state=1 of=1 defer=none entry=1 exit=0" ∷ "state=2 of=2 defer=none entry=2 exit=0" ∷ "start=1" ∷ [])) ≡ refused NotThere 4
unfolding answered said serves expr_serves inside expr_inside downward below
foreign_variable = refl

-- "a foreign variable after 5": the same with statement 2 named twice, at a later line
foreign_after_five : answered (text ("machine=1" ∷ "machine=2" ∷ "var=1 of=2 type=bool" ∷ "expr=1 kind=var var=1" ∷ "stmt=1 kind=assert expr=1"
    ∷ "stmt=2 kind=skip" ∷ "state=1 of=1 defer=none entry=1 exit=0" ∷ "state=2 of=2 defer=none entry=2 exit=2" ∷ "start=1" ∷ [])) ≡ refused NotLower 8
unfolding answered said
foreign_after_five = refl

-- a foreign variable that a statement names
assigns_foreign : answered (text ("machine=1" ∷ "machine=2" ∷ "var=1 of=2 type=bool" ∷ "expr=1 kind=bot" ∷ "stmt=1 kind=assign var=1 expr=1"
    ∷ "state=1 of=1 defer=none entry=1 exit=0" ∷ other_idle ∷ "start=1" ∷ [])) ≡ refused NotThere 5
unfolding answered said serves expr_serves inside expr_inside downward below
assigns_foreign = refl

-- "`init` variables are the created kind's, in a statement that serves none too": here one is the creator's
init_of_creator : answered (text ("machine=1" ∷ "machine=2" ∷ "var=1 of=1 type=id" ∷ "expr=1 kind=this" ∷ "stmt=1 kind=new var=1 machine=2 init=1:1"
    ∷ idle ∷ other_idle ∷ "start=1" ∷ [])) ≡ refused NotThere 5
unfolding answered said serves expr_serves inside expr_inside downward below
init_of_creator = refl

-- ANSWER 6

-- "two transitions .. for one state and event", "doublings at the later line"
two_steps : answered (text ("event=1 type=void" ∷ "machine=1" ∷ idle ∷ "state=2 of=1 defer=none entry=0 exit=0" ∷ "step=1 on=1 to=1"
    ∷ "step=2 on=1 to=1" ∷ "step=1 on=1 to=2" ∷ "start=1" ∷ [])) ≡ refused Doubled 7
unfolding answered said
two_steps = refl

-- a step and a call are two transitions
step_and_call : answered (text ("event=1 type=void" ∷ "machine=1" ∷ idle ∷ "step=1 on=1 to=1" ∷ "call=1 on=1 to=1" ∷ "start=1" ∷ [])) ≡ refused Doubled 5
unfolding answered said
step_and_call = refl

-- "or two actions, for one state and event"
two_acts : answered (text ("event=1 type=void" ∷ "machine=1" ∷ "action=1 of=1 do=0" ∷ "action=2 of=1 do=0" ∷ idle ∷ "act=1 on=1 do=1"
    ∷ "act=1 on=1 do=2" ∷ "start=1" ∷ [])) ≡ refused Doubled 7
unfolding answered said
two_acts = refl

-- ANSWER 7

-- "an exit with raise, return or leave anywhere inside", "7 at the state's" line
exit_returns : answered (text ("machine=1" ∷ "stmt=1 kind=return" ∷ "stmt=2 kind=seq first=0 second=1" ∷ "state=1 of=1 defer=none entry=0 exit=2"
    ∷ "start=1" ∷ [])) ≡ refused ExitLeaves 4
unfolding answered said quietly downward below
exit_returns = refl

-- ANSWER 8
-- expressions 2 to n + 1, each one's part the one before
abbrev negations : ℕ → List ℕ
negations zero = []
negations (suc n) = negations n ++ bytes "expr=" ++ decimals (n + 2) ++ bytes " kind=neg a=" ++ decimals (n + 1) ++ 10 ∷ []

-- statements 1 to n, each one's part the one before: the first has skip, which is statement 0
abbrev sequences : ℕ → List ℕ
sequences zero = []
sequences (suc n) = sequences n ++ bytes "stmt=" ++ decimals (n + 1) ++ bytes " kind=seq first=" ++ decimals n ++ bytes " second=0" ++ 10 ∷ []

-- "Nesting height of a statement or expression 32 (a leaf is 1 ..)": expression 33 is 33 high,
expression_too_high : answered (text ("machine=1" ∷ "expr=1 kind=bot" ∷ []) ++ negations 32 ++ text (idle ∷ "start=1" ∷ [])) ≡ refused TooHigh 34
unfolding answered said quietly downward below tree tree_height
expression_too_high = refl

-- and of statements 33 high, where "so is 0 for a statement": statement 32 is.
statement_too_high : answered (text ("machine=1" ∷ []) ++ sequences 32 ++ text (idle ∷ "start=1" ∷ [])) ≡ refused TooHigh 33
unfolding answered said quietly downward below height
statement_too_high = refl

-- n + 1 stars under one expression, whose number is 2 * n + 1
abbrev starred : ℕ → List ℕ
starred zero = text ("expr=1 kind=star" ∷ [])
starred (suc n) = starred n ++ bytes "expr=" ++ decimals (2 * n + 2) ++ bytes " kind=star" ++ 10 ∷ []
    ++ bytes "expr=" ++ decimals (2 * n + 3) ++ bytes " kind=and a=" ++ decimals (2 * n + 1) ++ bytes " b=" ++ decimals (2 * n + 2) ++ 10 ∷ []

-- "At most 8 `*` in one statement": nine are refused at the statement's line,
nine_stars : answered (text ("machine=1" ∷ []) ++ starred 8 ++ text ("stmt=1 kind=assert expr=17" ∷ "state=1 of=1 defer=none entry=1 exit=0" ∷ "start=1" ∷ [])) ≡ refused TooHigh 19
unfolding answered said quietly downward below tree tree_height stars height
nine_stars = refl

-- and eight are not (here the kind without a state is what is refused).
eight_stars : answered (text ("machine=1" ∷ "machine=2" ∷ []) ++ starred 7 ++ text ("stmt=1 kind=assert expr=15" ∷ "state=1 of=1 defer=none entry=1 exit=0" ∷ "start=1" ∷ []))
    ≡ refused NoState 0
unfolding answered said quietly downward below tree tree_height stars height
eight_stars = refl

-- ANSWER 9
-- "a machine kind with no state", "its line (0 for answers 1 and 9 ..)"
no_state : answered (text ("machine=1" ∷ "machine=2" ∷ idle ∷ "start=1" ∷ [])) ≡ refused NoState 0
unfolding answered said quietly downward below height
no_state = refl
