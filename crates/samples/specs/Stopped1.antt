-- Samples: runs that a refused choice ends. Written by `python3 second/statements.py --write crates/samples/specs`, and not to be edited by hand.
use Rattle.std.specs.Prelude.{◌≡◌, refl, [], ◌∷◌, ◌++◌, replicate}
use Rattle.lists.specs.Down.{below, downward}
use Rattle.answers.specs.declared.Answer.TheVariants.{SendToUndefined, SendToNotLive, StackEmpty, WrongType, NoRoom, UnableToStep}
use Rattle.values.specs.declared.Value.TheVariants.{Undefined as undefined}
use Rattle.values.specs.Values.{id_of}
use Rattle.programs.specs.Trees.{tree, stars, tree_height, expr_inside}
use Rattle.programs.specs.Statements.{height, inside, serves, expr_serves}
use Rattle.soundness.specs.Asked.{quietly}
use Rattle.machines.specs.Config.{nothing, idle}
use Rattle.machines.specs.Eval.{value}
use Rattle.machines.specs.Row.{onto}
use Rattle.rules.specs.declared.Rule.TheVariants.{NEW, DELETE, SEQ, WHILE, SEND, RETURN, POP2}
use Rattle.rules.specs.Act.{act}
use Rattle.rules.specs.Step.{step, start_config}
use Rattle.texts.specs.Bytes.{text}
use Rattle.texts.specs.Forms.{said}
use Rattle.texts.specs.Answered.{answered}
use Rattle.samples.specs.Seen.{seen, ran_text, frame, pair, machine, config}

-- "A creation takes the lowest free room, a deleted machine's too." Machines 4 and 5 come into the rooms of 2 and 3.
pub freed_rooms : seen (text (
    "machine=1"
    ∷ "machine=2"
    ∷ "var=1 of=1 type=id"
    ∷ "var=2 of=1 type=id"
    ∷ "expr=1 kind=bool val=1"
    ∷ "stmt=1 kind=new var=1 machine=2 init=none"
    ∷ "stmt=2 kind=new var=2 machine=2 init=none"
    ∷ "stmt=3 kind=seq first=1 second=2"
    ∷ "stmt=4 kind=while cond=1 body=3"
    ∷ "stmt=5 kind=delete"
    ∷ "state=1 of=1 defer=none entry=4 exit=0"
    ∷ "state=2 of=2 defer=none entry=5 exit=0"
    ∷ "start=1"
    ∷ replicate 4 "choice=1" ++ "choice=2" ∷ "choice=1" ∷ "choice=1" ∷ "choice=1" ∷ "choice=3" ∷ "choice=1" ∷ "choice=1" ∷ "choice=2"
    ∷ []))
    ≡ ran_text
    (WHILE ∷ NEW ∷ SEQ ∷ NEW ∷ DELETE ∷ SEQ ∷ WHILE ∷ NEW ∷ DELETE ∷ SEQ ∷ NEW ∷ [])
    UnableToStep 12 11
    (config (
    machine 1 1 (frame 1 [] ∷ []) (id_of 4 ∷ id_of 5 ∷ []) undefined undefined (0 ∷ 4 ∷ []) idle []
    ∷ machine 4 2 (frame 2 [] ∷ []) [] undefined undefined (5 ∷ []) idle []
    ∷ machine 5 2 (frame 2 [] ∷ []) [] undefined undefined (5 ∷ []) idle []
    ∷ []) 6)
unfolding seen answered said below downward tree stars tree_height expr_inside height inside serves expr_serves quietly value onto act step start_config
freed_rooms = refl

-- A machine whose stack is empty still takes pairs; chosen, it gives 13, though it is idle.
pub an_empty_stack : seen (text (
    "event=1 type=void"
    ∷ "machine=1"
    ∷ "machine=2"
    ∷ "var=1 of=1 type=id"
    ∷ "expr=1 kind=var var=1"
    ∷ "stmt=1 kind=new var=1 machine=2 init=none"
    ∷ "stmt=2 kind=send to=1 event=1 arg=0"
    ∷ "stmt=3 kind=seq first=1 second=2"
    ∷ "stmt=4 kind=return"
    ∷ "state=1 of=1 defer=none entry=3 exit=0"
    ∷ "state=2 of=2 defer=none entry=4 exit=0"
    ∷ "start=1"
    ∷ "choice=1" ∷ "choice=2" ∷ "choice=2" ∷ "choice=2" ∷ "choice=1" ∷ "choice=1" ∷ "choice=2"
    ∷ []))
    ≡ ran_text
    (NEW ∷ RETURN ∷ SEQ ∷ POP2 ∷ SEQ ∷ SEND ∷ [])
    StackEmpty 7 6
    (config (
    machine 1 1 (frame 1 (nothing ∷ []) ∷ []) (id_of 2 ∷ []) undefined undefined [] idle []
    ∷ machine 2 2 [] [] undefined undefined [] idle (pair 1 undefined ∷ [])
    ∷ []) 3)
unfolding seen answered said below downward tree stars tree_height expr_inside height inside serves expr_serves quietly value onto act step start_config
an_empty_stack = refl

-- "target before payload": the target is not live, and the payload is of the wrong type.
pub twelve_before_fifteen : seen (text (
    "event=1 type=int"
    ∷ "machine=1"
    ∷ "machine=2"
    ∷ "var=1 of=1 type=id"
    ∷ "expr=1 kind=var var=1"
    ∷ "expr=2 kind=bool val=1"
    ∷ "stmt=1 kind=new var=1 machine=2 init=none"
    ∷ "stmt=2 kind=send to=1 event=1 arg=2"
    ∷ "stmt=3 kind=seq first=1 second=2"
    ∷ "stmt=4 kind=delete"
    ∷ "state=1 of=1 defer=none entry=3 exit=0"
    ∷ "state=2 of=2 defer=none entry=4 exit=0"
    ∷ "start=1"
    ∷ "choice=1" ∷ "choice=2" ∷ "choice=1" ∷ "choice=1"
    ∷ []))
    ≡ ran_text
    (NEW ∷ DELETE ∷ SEQ ∷ [])
    SendToNotLive 4 3
    (config (
    machine 1 1 (frame 1 (nothing ∷ []) ∷ []) (id_of 2 ∷ []) undefined undefined (2 ∷ []) idle []
    ∷ []) 3)
unfolding seen answered said below downward tree stars tree_height expr_inside height inside serves expr_serves quietly value onto act step start_config
twelve_before_fifteen = refl

-- "target before payload": the target is undefined, and the payload is of the wrong type.
pub eleven_before_fifteen : seen (text (
    "event=1 type=void"
    ∷ "machine=1"
    ∷ "expr=1 kind=bot"
    ∷ "expr=2 kind=this"
    ∷ "stmt=1 kind=send to=1 event=1 arg=2"
    ∷ "state=1 of=1 defer=none entry=1 exit=0"
    ∷ "start=1"
    ∷ "choice=1"
    ∷ []))
    ≡ ran_text
    []
    SendToUndefined 1 0
    (config (
    machine 1 1 (frame 1 (nothing ∷ []) ∷ []) [] undefined undefined (1 ∷ []) idle []
    ∷ []) 2)
unfolding seen answered said below downward tree stars tree_height expr_inside height inside serves expr_serves quietly value onto act step start_config
eleven_before_fifteen = refl

-- The payload of a raise is held to the event's type as well.
pub a_raise_of_the_wrong_type : seen (text (
    "event=1 type=int"
    ∷ "machine=1"
    ∷ "expr=1 kind=this"
    ∷ "stmt=1 kind=raise event=1 arg=1"
    ∷ "state=1 of=1 defer=none entry=1 exit=0"
    ∷ "step=1 on=1 to=1"
    ∷ "start=1"
    ∷ "choice=1"
    ∷ []))
    ≡ ran_text
    []
    WrongType 1 0
    (config (
    machine 1 1 (frame 1 (nothing ∷ []) ∷ []) [] undefined undefined (1 ∷ []) idle []
    ∷ []) 2)
unfolding seen answered said below downward tree stars tree_height expr_inside height inside serves expr_serves quietly value onto act step start_config
a_raise_of_the_wrong_type = refl

-- Every machine creates the next one, up to the 32 there may be.
pub no_room : seen (text (
    "machine=1"
    ∷ "var=1 of=1 type=id"
    ∷ "var=2 of=1 type=bool"
    ∷ "expr=1 kind=int val=7"
    ∷ "stmt=1 kind=new var=1 machine=1 init=none"
    ∷ "stmt=2 kind=new var=1 machine=1 init=2:1"
    ∷ "stmt=3 kind=seq first=1 second=2"
    ∷ "state=1 of=1 defer=none entry=3 exit=0"
    ∷ "start=1"
    ∷ "choice=1" ∷ "choice=2" ∷ "choice=3" ∷ "choice=4" ∷ "choice=5" ∷ "choice=6" ∷ "choice=7" ∷ "choice=8" ∷ "choice=9" ∷ "choice=10" ∷ "choice=11"
    ∷ "choice=12" ∷ "choice=13" ∷ "choice=14" ∷ "choice=15" ∷ "choice=16" ∷ "choice=17" ∷ "choice=18" ∷ "choice=19" ∷ "choice=20" ∷ "choice=21"
    ∷ "choice=22" ∷ "choice=23" ∷ "choice=24" ∷ "choice=25" ∷ "choice=26" ∷ "choice=27" ∷ "choice=28" ∷ "choice=29" ∷ "choice=30" ∷ "choice=31"
    ∷ "choice=32"
    ∷ []))
    ≡ ran_text
    (NEW ∷ NEW ∷ NEW ∷ NEW ∷ NEW ∷ NEW ∷ NEW ∷ NEW ∷ NEW ∷ NEW ∷ NEW ∷ NEW ∷ NEW ∷ NEW ∷ NEW ∷ NEW ∷ NEW ∷ NEW ∷ NEW ∷ NEW ∷ NEW ∷ NEW ∷ NEW ∷ NEW ∷ NEW
    ∷ NEW ∷ NEW ∷ NEW ∷ NEW ∷ NEW ∷ NEW ∷ [])
    NoRoom 32 31
    (config (
    machine 1 1 (frame 1 [] ∷ []) (id_of 2 ∷ undefined ∷ []) undefined undefined (0 ∷ 2 ∷ []) idle []
    ∷ machine 2 1 (frame 1 [] ∷ []) (id_of 3 ∷ undefined ∷ []) undefined undefined (0 ∷ 2 ∷ []) idle []
    ∷ machine 3 1 (frame 1 [] ∷ []) (id_of 4 ∷ undefined ∷ []) undefined undefined (0 ∷ 2 ∷ []) idle []
    ∷ machine 4 1 (frame 1 [] ∷ []) (id_of 5 ∷ undefined ∷ []) undefined undefined (0 ∷ 2 ∷ []) idle []
    ∷ machine 5 1 (frame 1 [] ∷ []) (id_of 6 ∷ undefined ∷ []) undefined undefined (0 ∷ 2 ∷ []) idle []
    ∷ machine 6 1 (frame 1 [] ∷ []) (id_of 7 ∷ undefined ∷ []) undefined undefined (0 ∷ 2 ∷ []) idle []
    ∷ machine 7 1 (frame 1 [] ∷ []) (id_of 8 ∷ undefined ∷ []) undefined undefined (0 ∷ 2 ∷ []) idle []
    ∷ machine 8 1 (frame 1 [] ∷ []) (id_of 9 ∷ undefined ∷ []) undefined undefined (0 ∷ 2 ∷ []) idle []
    ∷ machine 9 1 (frame 1 [] ∷ []) (id_of 10 ∷ undefined ∷ []) undefined undefined (0 ∷ 2 ∷ []) idle []
    ∷ machine 10 1 (frame 1 [] ∷ []) (id_of 11 ∷ undefined ∷ []) undefined undefined (0 ∷ 2 ∷ []) idle []
    ∷ machine 11 1 (frame 1 [] ∷ []) (id_of 12 ∷ undefined ∷ []) undefined undefined (0 ∷ 2 ∷ []) idle []
    ∷ machine 12 1 (frame 1 [] ∷ []) (id_of 13 ∷ undefined ∷ []) undefined undefined (0 ∷ 2 ∷ []) idle []
    ∷ machine 13 1 (frame 1 [] ∷ []) (id_of 14 ∷ undefined ∷ []) undefined undefined (0 ∷ 2 ∷ []) idle []
    ∷ machine 14 1 (frame 1 [] ∷ []) (id_of 15 ∷ undefined ∷ []) undefined undefined (0 ∷ 2 ∷ []) idle []
    ∷ machine 15 1 (frame 1 [] ∷ []) (id_of 16 ∷ undefined ∷ []) undefined undefined (0 ∷ 2 ∷ []) idle []
    ∷ machine 16 1 (frame 1 [] ∷ []) (id_of 17 ∷ undefined ∷ []) undefined undefined (0 ∷ 2 ∷ []) idle []
    ∷ machine 17 1 (frame 1 [] ∷ []) (id_of 18 ∷ undefined ∷ []) undefined undefined (0 ∷ 2 ∷ []) idle []
    ∷ machine 18 1 (frame 1 [] ∷ []) (id_of 19 ∷ undefined ∷ []) undefined undefined (0 ∷ 2 ∷ []) idle []
    ∷ machine 19 1 (frame 1 [] ∷ []) (id_of 20 ∷ undefined ∷ []) undefined undefined (0 ∷ 2 ∷ []) idle []
    ∷ machine 20 1 (frame 1 [] ∷ []) (id_of 21 ∷ undefined ∷ []) undefined undefined (0 ∷ 2 ∷ []) idle []
    ∷ machine 21 1 (frame 1 [] ∷ []) (id_of 22 ∷ undefined ∷ []) undefined undefined (0 ∷ 2 ∷ []) idle []
    ∷ machine 22 1 (frame 1 [] ∷ []) (id_of 23 ∷ undefined ∷ []) undefined undefined (0 ∷ 2 ∷ []) idle []
    ∷ machine 23 1 (frame 1 [] ∷ []) (id_of 24 ∷ undefined ∷ []) undefined undefined (0 ∷ 2 ∷ []) idle []
    ∷ machine 24 1 (frame 1 [] ∷ []) (id_of 25 ∷ undefined ∷ []) undefined undefined (0 ∷ 2 ∷ []) idle []
    ∷ machine 25 1 (frame 1 [] ∷ []) (id_of 26 ∷ undefined ∷ []) undefined undefined (0 ∷ 2 ∷ []) idle []
    ∷ machine 26 1 (frame 1 [] ∷ []) (id_of 27 ∷ undefined ∷ []) undefined undefined (0 ∷ 2 ∷ []) idle []
    ∷ machine 27 1 (frame 1 [] ∷ []) (id_of 28 ∷ undefined ∷ []) undefined undefined (0 ∷ 2 ∷ []) idle []
    ∷ machine 28 1 (frame 1 [] ∷ []) (id_of 29 ∷ undefined ∷ []) undefined undefined (0 ∷ 2 ∷ []) idle []
    ∷ machine 29 1 (frame 1 [] ∷ []) (id_of 30 ∷ undefined ∷ []) undefined undefined (0 ∷ 2 ∷ []) idle []
    ∷ machine 30 1 (frame 1 [] ∷ []) (id_of 31 ∷ undefined ∷ []) undefined undefined (0 ∷ 2 ∷ []) idle []
    ∷ machine 31 1 (frame 1 [] ∷ []) (id_of 32 ∷ undefined ∷ []) undefined undefined (0 ∷ 2 ∷ []) idle []
    ∷ machine 32 1 (frame 1 [] ∷ []) (undefined ∷ undefined ∷ []) undefined undefined (1 ∷ 2 ∷ []) idle []
    ∷ []) 33)
unfolding seen answered said below downward tree stars tree_height expr_inside height inside serves expr_serves quietly value onto act step start_config
no_room = refl

-- All rooms are taken and an `init` value is of the wrong type: "then 16 to 18".
pub init_before_no_room : seen (text (
    "machine=1"
    ∷ "var=1 of=1 type=id"
    ∷ "var=2 of=1 type=bool"
    ∷ "expr=1 kind=int val=7"
    ∷ "stmt=1 kind=new var=1 machine=1 init=none"
    ∷ "stmt=2 kind=new var=1 machine=1 init=2:1"
    ∷ "stmt=3 kind=seq first=1 second=2"
    ∷ "state=1 of=1 defer=none entry=3 exit=0"
    ∷ "start=1"
    ∷ "choice=1" ∷ "choice=2" ∷ "choice=3" ∷ "choice=4" ∷ "choice=5" ∷ "choice=6" ∷ "choice=7" ∷ "choice=8" ∷ "choice=9" ∷ "choice=10" ∷ "choice=11"
    ∷ "choice=12" ∷ "choice=13" ∷ "choice=14" ∷ "choice=15" ∷ "choice=16" ∷ "choice=17" ∷ "choice=18" ∷ "choice=19" ∷ "choice=20" ∷ "choice=21"
    ∷ "choice=22" ∷ "choice=23" ∷ "choice=24" ∷ "choice=25" ∷ "choice=26" ∷ "choice=27" ∷ "choice=28" ∷ "choice=29" ∷ "choice=30" ∷ "choice=31"
    ∷ "choice=1" ∷ "choice=1"
    ∷ []))
    ≡ ran_text
    (NEW ∷ NEW ∷ NEW ∷ NEW ∷ NEW ∷ NEW ∷ NEW ∷ NEW ∷ NEW ∷ NEW ∷ NEW ∷ NEW ∷ NEW ∷ NEW ∷ NEW ∷ NEW ∷ NEW ∷ NEW ∷ NEW ∷ NEW ∷ NEW ∷ NEW ∷ NEW ∷ NEW ∷ NEW
    ∷ NEW ∷ NEW ∷ NEW ∷ NEW ∷ NEW ∷ NEW ∷ SEQ ∷ [])
    WrongType 33 32
    (config (
    machine 1 1 (frame 1 [] ∷ []) (id_of 2 ∷ undefined ∷ []) undefined undefined (2 ∷ []) idle []
    ∷ machine 2 1 (frame 1 [] ∷ []) (id_of 3 ∷ undefined ∷ []) undefined undefined (0 ∷ 2 ∷ []) idle []
    ∷ machine 3 1 (frame 1 [] ∷ []) (id_of 4 ∷ undefined ∷ []) undefined undefined (0 ∷ 2 ∷ []) idle []
    ∷ machine 4 1 (frame 1 [] ∷ []) (id_of 5 ∷ undefined ∷ []) undefined undefined (0 ∷ 2 ∷ []) idle []
    ∷ machine 5 1 (frame 1 [] ∷ []) (id_of 6 ∷ undefined ∷ []) undefined undefined (0 ∷ 2 ∷ []) idle []
    ∷ machine 6 1 (frame 1 [] ∷ []) (id_of 7 ∷ undefined ∷ []) undefined undefined (0 ∷ 2 ∷ []) idle []
    ∷ machine 7 1 (frame 1 [] ∷ []) (id_of 8 ∷ undefined ∷ []) undefined undefined (0 ∷ 2 ∷ []) idle []
    ∷ machine 8 1 (frame 1 [] ∷ []) (id_of 9 ∷ undefined ∷ []) undefined undefined (0 ∷ 2 ∷ []) idle []
    ∷ machine 9 1 (frame 1 [] ∷ []) (id_of 10 ∷ undefined ∷ []) undefined undefined (0 ∷ 2 ∷ []) idle []
    ∷ machine 10 1 (frame 1 [] ∷ []) (id_of 11 ∷ undefined ∷ []) undefined undefined (0 ∷ 2 ∷ []) idle []
    ∷ machine 11 1 (frame 1 [] ∷ []) (id_of 12 ∷ undefined ∷ []) undefined undefined (0 ∷ 2 ∷ []) idle []
    ∷ machine 12 1 (frame 1 [] ∷ []) (id_of 13 ∷ undefined ∷ []) undefined undefined (0 ∷ 2 ∷ []) idle []
    ∷ machine 13 1 (frame 1 [] ∷ []) (id_of 14 ∷ undefined ∷ []) undefined undefined (0 ∷ 2 ∷ []) idle []
    ∷ machine 14 1 (frame 1 [] ∷ []) (id_of 15 ∷ undefined ∷ []) undefined undefined (0 ∷ 2 ∷ []) idle []
    ∷ machine 15 1 (frame 1 [] ∷ []) (id_of 16 ∷ undefined ∷ []) undefined undefined (0 ∷ 2 ∷ []) idle []
    ∷ machine 16 1 (frame 1 [] ∷ []) (id_of 17 ∷ undefined ∷ []) undefined undefined (0 ∷ 2 ∷ []) idle []
    ∷ machine 17 1 (frame 1 [] ∷ []) (id_of 18 ∷ undefined ∷ []) undefined undefined (0 ∷ 2 ∷ []) idle []
    ∷ machine 18 1 (frame 1 [] ∷ []) (id_of 19 ∷ undefined ∷ []) undefined undefined (0 ∷ 2 ∷ []) idle []
    ∷ machine 19 1 (frame 1 [] ∷ []) (id_of 20 ∷ undefined ∷ []) undefined undefined (0 ∷ 2 ∷ []) idle []
    ∷ machine 20 1 (frame 1 [] ∷ []) (id_of 21 ∷ undefined ∷ []) undefined undefined (0 ∷ 2 ∷ []) idle []
    ∷ machine 21 1 (frame 1 [] ∷ []) (id_of 22 ∷ undefined ∷ []) undefined undefined (0 ∷ 2 ∷ []) idle []
    ∷ machine 22 1 (frame 1 [] ∷ []) (id_of 23 ∷ undefined ∷ []) undefined undefined (0 ∷ 2 ∷ []) idle []
    ∷ machine 23 1 (frame 1 [] ∷ []) (id_of 24 ∷ undefined ∷ []) undefined undefined (0 ∷ 2 ∷ []) idle []
    ∷ machine 24 1 (frame 1 [] ∷ []) (id_of 25 ∷ undefined ∷ []) undefined undefined (0 ∷ 2 ∷ []) idle []
    ∷ machine 25 1 (frame 1 [] ∷ []) (id_of 26 ∷ undefined ∷ []) undefined undefined (0 ∷ 2 ∷ []) idle []
    ∷ machine 26 1 (frame 1 [] ∷ []) (id_of 27 ∷ undefined ∷ []) undefined undefined (0 ∷ 2 ∷ []) idle []
    ∷ machine 27 1 (frame 1 [] ∷ []) (id_of 28 ∷ undefined ∷ []) undefined undefined (0 ∷ 2 ∷ []) idle []
    ∷ machine 28 1 (frame 1 [] ∷ []) (id_of 29 ∷ undefined ∷ []) undefined undefined (0 ∷ 2 ∷ []) idle []
    ∷ machine 29 1 (frame 1 [] ∷ []) (id_of 30 ∷ undefined ∷ []) undefined undefined (0 ∷ 2 ∷ []) idle []
    ∷ machine 30 1 (frame 1 [] ∷ []) (id_of 31 ∷ undefined ∷ []) undefined undefined (0 ∷ 2 ∷ []) idle []
    ∷ machine 31 1 (frame 1 [] ∷ []) (id_of 32 ∷ undefined ∷ []) undefined undefined (0 ∷ 2 ∷ []) idle []
    ∷ machine 32 1 (frame 1 [] ∷ []) (undefined ∷ undefined ∷ []) undefined undefined (1 ∷ 2 ∷ []) idle []
    ∷ []) 33)
unfolding seen answered said below downward tree stars tree_height expr_inside height inside serves expr_serves quietly value onto act step start_config
init_before_no_room = refl
