-- Samples: runs that a refused choice ends. Written by `python3 second/statements.py --write crates/samples/specs`, and not to be edited by hand.
use Rattle.std.specs.Prelude.{◌≡◌, refl, true, [], ◌∷◌, pos, replicate}
use Rattle.lists.specs.Down.{below, downward}
use Rattle.answers.specs.declared.Answer.TheVariants.{AssertionFalse, StackEmpty, StackFull, UnableToStep}
use Rattle.values.specs.declared.Value.TheVariants.{Undefined as undefined, Bool as vbool, Int as vint, Event as vevent}
use Rattle.values.specs.Values.{id_of}
use Rattle.programs.specs.Trees.{tree, stars, tree_height, expr_inside}
use Rattle.programs.specs.Statements.{height, inside, serves, expr_serves}
use Rattle.soundness.specs.Asked.{quietly}
use Rattle.machines.specs.Config.{action, nothing, idle, raising}
use Rattle.machines.specs.Eval.{value}
use Rattle.machines.specs.Row.{onto}
use Rattle.rules.specs.declared.Rule.TheVariants.{ASSIGN, ASSERT, SEQ, IF, SEND, RAISE, LEAVE, RETURN, DEQUEUE, STEP, ACTION, CALL, POP1, POP2}
use Rattle.rules.specs.Act.{act}
use Rattle.rules.specs.Step.{step, start_config}
use Rattle.texts.specs.Bytes.{text}
use Rattle.texts.specs.Forms.{said}
use Rattle.texts.specs.Answered.{answered}
use Rattle.samples.specs.Seen.{seen, ran_text, frame, pair, machine, config}

-- Chosen for: the second branch, the state's action and not the map's.
pub maps_00293_of_seed_1 : seen (text (
    "event=1 type=void"
    ∷ "event=2 type=void"
    ∷ "event=3 type=void"
    ∷ "event=4 type=void"
    ∷ "machine=1"
    ∷ "var=1 of=1 type=bool"
    ∷ "expr=1 kind=star"
    ∷ "expr=2 kind=bool val=1"
    ∷ "expr=3 kind=star"
    ∷ "expr=4 kind=this"
    ∷ "expr=5 kind=this"
    ∷ "expr=6 kind=this"
    ∷ "expr=7 kind=this"
    ∷ "expr=8 kind=bool val=1"
    ∷ "expr=9 kind=this"
    ∷ "expr=10 kind=this"
    ∷ "expr=11 kind=bool val=1"
    ∷ "stmt=1 kind=assign var=1 expr=1"
    ∷ "stmt=2 kind=assert expr=2"
    ∷ "stmt=3 kind=if cond=3 then=0 else=0"
    ∷ "stmt=4 kind=leave"
    ∷ "stmt=5 kind=send to=4 event=2 arg=0"
    ∷ "stmt=6 kind=send to=5 event=3 arg=0"
    ∷ "stmt=7 kind=seq first=5 second=6"
    ∷ "stmt=8 kind=send to=6 event=4 arg=0"
    ∷ "stmt=9 kind=send to=7 event=4 arg=0"
    ∷ "stmt=10 kind=raise event=3 arg=0"
    ∷ "stmt=11 kind=assert expr=8"
    ∷ "stmt=12 kind=seq first=9 second=10"
    ∷ "stmt=13 kind=send to=9 event=1 arg=0"
    ∷ "stmt=14 kind=send to=10 event=4 arg=0"
    ∷ "stmt=15 kind=assert expr=11"
    ∷ "stmt=16 kind=seq first=13 second=14"
    ∷ "action=1 of=1 do=1"
    ∷ "action=2 of=1 do=2"
    ∷ "action=3 of=1 do=3"
    ∷ "action=4 of=1 do=4"
    ∷ "state=1 of=1 defer=none entry=7 exit=0"
    ∷ "state=2 of=1 defer=1,4 entry=8 exit=0"
    ∷ "state=3 of=1 defer=none entry=12 exit=11"
    ∷ "state=4 of=1 defer=none entry=16 exit=15"
    ∷ "call=1 on=1 to=4"
    ∷ "call=1 on=2 to=4"
    ∷ "call=2 on=1 to=2"
    ∷ "call=2 on=3 to=2"
    ∷ "act=1 on=3 do=1"
    ∷ "act=1 on=4 do=2"
    ∷ "act=2 on=2 do=2"
    ∷ "act=3 on=1 do=2"
    ∷ "act=4 on=1 do=3"
    ∷ "act=4 on=3 do=2"
    ∷ "start=1"
    ∷ "choice=1 bits=131" ∷ "choice=1 bits=114" ∷ "choice=1 bits=80" ∷ "choice=1 bits=196" ∷ "choice=1 bits=72" ∷ "choice=1 bits=194" ∷ "choice=1 bits=11"
    ∷ "choice=1 bits=170" ∷ "choice=1" ∷ "choice=1 bits=254" ∷ "choice=1 bits=196" ∷ "choice=1 bits=25" ∷ "choice=1 bits=139" ∷ "choice=1 bits=37"
    ∷ "choice=1 bits=202" ∷ "choice=1 bits=208" ∷ "choice=1 bits=190" ∷ "choice=1 bits=182" ∷ "choice=1 bits=98" ∷ "choice=1 bits=75"
    ∷ "choice=1 bits=214" ∷ "choice=1 bits=5"
    ∷ []))
    ≡ ran_text
    (SEND ∷ SEQ ∷ SEND ∷ DEQUEUE ∷ SEQ ∷ CALL ∷ SEND ∷ SEQ ∷ SEND ∷ DEQUEUE ∷ SEQ ∷ ACTION ∷ ASSERT ∷ DEQUEUE ∷ SEQ ∷ ACTION ∷ IF ∷ DEQUEUE ∷ SEQ ∷ ACTION
    ∷ ASSERT ∷ [])
    UnableToStep 22 21
    (config (
    machine 1 1 (frame 4 (nothing ∷ nothing ∷ action 1 ∷ action 2 ∷ []) ∷ frame 1 (nothing ∷ nothing ∷ nothing ∷ nothing ∷ []) ∷ []) (undefined ∷ [])
    (vevent 4) undefined [] idle []
    ∷ []) 2)
unfolding seen answered said below downward tree stars tree_height expr_inside height inside serves expr_serves quietly value onto act step start_config
maps_00293_of_seed_1 = refl

-- Chosen for: an exit put in by a return, POP2 brings back another map.
pub maps_00253_of_seed_3 : seen (text (
    "event=1 type=void"
    ∷ "event=2 type=void"
    ∷ "event=3 type=void"
    ∷ "event=4 type=void"
    ∷ "machine=1"
    ∷ "var=1 of=1 type=bool"
    ∷ "expr=1 kind=star"
    ∷ "expr=2 kind=bool val=1"
    ∷ "expr=3 kind=star"
    ∷ "expr=4 kind=this"
    ∷ "expr=5 kind=bool val=1"
    ∷ "expr=6 kind=this"
    ∷ "expr=7 kind=this"
    ∷ "expr=8 kind=this"
    ∷ "expr=9 kind=bool val=1"
    ∷ "expr=10 kind=this"
    ∷ "expr=11 kind=this"
    ∷ "expr=12 kind=this"
    ∷ "expr=13 kind=this"
    ∷ "expr=14 kind=bool val=1"
    ∷ "stmt=1 kind=assign var=1 expr=1"
    ∷ "stmt=2 kind=assert expr=2"
    ∷ "stmt=3 kind=if cond=3 then=0 else=0"
    ∷ "stmt=4 kind=return"
    ∷ "stmt=5 kind=send to=4 event=1 arg=0"
    ∷ "stmt=6 kind=assert expr=5"
    ∷ "stmt=7 kind=send to=6 event=1 arg=0"
    ∷ "stmt=8 kind=send to=7 event=4 arg=0"
    ∷ "stmt=9 kind=send to=8 event=2 arg=0"
    ∷ "stmt=10 kind=return"
    ∷ "stmt=11 kind=assert expr=9"
    ∷ "stmt=12 kind=seq first=9 second=10"
    ∷ "stmt=13 kind=seq first=8 second=12"
    ∷ "stmt=14 kind=seq first=7 second=13"
    ∷ "stmt=15 kind=send to=10 event=4 arg=0"
    ∷ "stmt=16 kind=send to=11 event=4 arg=0"
    ∷ "stmt=17 kind=send to=12 event=3 arg=0"
    ∷ "stmt=18 kind=send to=13 event=1 arg=0"
    ∷ "stmt=19 kind=raise event=1 arg=0"
    ∷ "stmt=20 kind=assert expr=14"
    ∷ "stmt=21 kind=seq first=18 second=19"
    ∷ "stmt=22 kind=seq first=17 second=21"
    ∷ "stmt=23 kind=seq first=16 second=22"
    ∷ "action=1 of=1 do=1"
    ∷ "action=2 of=1 do=2"
    ∷ "action=3 of=1 do=3"
    ∷ "action=4 of=1 do=4"
    ∷ "state=1 of=1 defer=1 entry=5 exit=6"
    ∷ "state=2 of=1 defer=none entry=14 exit=11"
    ∷ "state=3 of=1 defer=3 entry=15 exit=0"
    ∷ "state=4 of=1 defer=none entry=23 exit=20"
    ∷ "step=1 on=3 to=3"
    ∷ "step=3 on=1 to=3"
    ∷ "call=1 on=1 to=4"
    ∷ "call=4 on=3 to=3"
    ∷ "act=1 on=2 do=2"
    ∷ "act=1 on=4 do=4"
    ∷ "act=2 on=1 do=1"
    ∷ "act=2 on=3 do=3"
    ∷ "act=2 on=4 do=4"
    ∷ "act=3 on=2 do=1"
    ∷ "act=3 on=4 do=3"
    ∷ "act=4 on=1 do=4"
    ∷ "act=4 on=2 do=2"
    ∷ "act=4 on=4 do=3"
    ∷ "start=1"
    ∷ "choice=1 bits=214" ∷ "choice=1 bits=57" ∷ "choice=1 bits=176" ∷ "choice=1 bits=251" ∷ "choice=1 bits=224" ∷ "choice=1 bits=17"
    ∷ "choice=1 bits=114" ∷ "choice=1 bits=104" ∷ "choice=1 bits=249" ∷ "choice=1 bits=62" ∷ "choice=1 bits=96" ∷ "choice=1 bits=250"
    ∷ "choice=1 bits=109" ∷ "choice=1 bits=119" ∷ "choice=1 bits=172" ∷ "choice=1 bits=179" ∷ "choice=1 bits=151" ∷ "choice=1 bits=39"
    ∷ "choice=1 bits=73" ∷ "choice=1 bits=27" ∷ "choice=1 bits=30" ∷ "choice=1 bits=134" ∷ "choice=1 bits=246" ∷ "choice=1 bits=131" ∷ "choice=1 bits=149"
    ∷ []))
    ≡ ran_text
    (SEND ∷ DEQUEUE ∷ SEQ ∷ CALL ∷ SEND ∷ SEQ ∷ SEND ∷ SEQ ∷ SEND ∷ SEQ ∷ RAISE ∷ SEQ ∷ ACTION ∷ RETURN ∷ ASSERT ∷ SEQ ∷ POP2 ∷ DEQUEUE ∷ SEQ ∷ ACTION
    ∷ RETURN ∷ ASSERT ∷ SEQ ∷ POP2 ∷ [])
    StackEmpty 25 24
    (config (
    machine 1 1 [] (undefined ∷ []) (vevent 4) undefined [] idle (pair 3 undefined ∷ pair 1 undefined ∷ [])
    ∷ []) 2)
unfolding seen answered said below downward tree stars tree_height expr_inside height inside serves expr_serves quietly value onto act step start_config
maps_00253_of_seed_3 = refl

-- Chosen for: 19: not live.
pub limit_00361_of_seed_1 : seen (text (
    "machine=1"
    ∷ "state=1 of=1 defer=none entry=0 exit=0"
    ∷ "start=1"
    ∷ "choice=65535"
    ∷ []))
    ≡ ran_text
    []
    UnableToStep 1 0
    (config (
    machine 1 1 (frame 1 [] ∷ []) [] undefined undefined [] idle []
    ∷ []) 2)
unfolding seen answered said below downward tree stars tree_height expr_inside height inside serves expr_serves quietly value onto act step start_config
limit_00361_of_seed_1 = refl

-- Chosen for: answer 10.
pub recipe_00100_of_seed_1 : seen (text (
    "event=1 type=void"
    ∷ "event=2 type=bool"
    ∷ "machine=1"
    ∷ "var=1 of=1 type=bool"
    ∷ "var=2 of=1 type=id"
    ∷ "expr=1 kind=bool val=0"
    ∷ "stmt=1 kind=assert expr=1"
    ∷ "state=1 of=1 defer=none entry=1 exit=0"
    ∷ "start=1"
    ∷ "choice=1"
    ∷ []))
    ≡ ran_text
    []
    AssertionFalse 1 0
    (config (
    machine 1 1 (frame 1 (nothing ∷ nothing ∷ []) ∷ []) (undefined ∷ undefined ∷ []) undefined undefined (1 ∷ []) idle []
    ∷ []) 2)
unfolding seen answered said below downward tree stars tree_height expr_inside height inside serves expr_serves quietly value onto act step start_config
recipe_00100_of_seed_1 = refl

-- Chosen for: an inherited deferral overruled by an action.
pub recipe_00190_of_seed_3 : seen (text (
    "event=1 type=void"
    ∷ "event=2 type=void"
    ∷ "event=3 type=void"
    ∷ "machine=1"
    ∷ "expr=1 kind=this"
    ∷ "expr=2 kind=this"
    ∷ "expr=3 kind=this"
    ∷ "stmt=1 kind=skip"
    ∷ "stmt=2 kind=send to=1 event=2 arg=0"
    ∷ "stmt=3 kind=send to=2 event=3 arg=0"
    ∷ "stmt=4 kind=send to=3 event=2 arg=0"
    ∷ "stmt=5 kind=raise event=1 arg=0"
    ∷ "stmt=6 kind=raise event=3 arg=0"
    ∷ "stmt=7 kind=seq first=4 second=5"
    ∷ "stmt=8 kind=seq first=3 second=7"
    ∷ "stmt=9 kind=seq first=2 second=8"
    ∷ "action=1 of=1 do=1"
    ∷ "state=1 of=1 defer=2 entry=9 exit=0"
    ∷ "state=2 of=1 defer=none entry=0 exit=0"
    ∷ "call=1 on=1 to=2"
    ∷ "act=2 on=2 do=1"
    ∷ "start=1"
    ∷ replicate 22 "choice=1"))
    ≡ ran_text
    (SEND ∷ SEQ ∷ SEND ∷ SEQ ∷ SEND ∷ SEQ ∷ RAISE ∷ SEQ ∷ CALL ∷ DEQUEUE ∷ SEQ ∷ ACTION ∷ DEQUEUE ∷ SEQ ∷ POP1 ∷ POP1 ∷ [])
    StackEmpty 17 16
    (config (
    machine 1 1 [] [] (vevent 3) undefined [] (raising 3 undefined) []
    ∷ []) 2)
unfolding seen answered said below downward tree stars tree_height expr_inside height inside serves expr_serves quietly value onto act step start_config
recipe_00190_of_seed_3 = refl

-- Chosen for: the rest of the row is dropped.
pub valid_00034_of_seed_1 : seen (text (
    "event=1 type=int"
    ∷ "event=2 type=void"
    ∷ "machine=1"
    ∷ "var=1 of=1 type=int"
    ∷ "var=2 of=1 type=event"
    ∷ "var=3 of=1 type=id"
    ∷ "var=4 of=1 type=int"
    ∷ "var=5 of=1 type=bool"
    ∷ "expr=1 kind=int val=0"
    ∷ "expr=2 kind=msg"
    ∷ "expr=3 kind=this"
    ∷ "expr=4 kind=int val=0"
    ∷ "expr=5 kind=bool val=1"
    ∷ "expr=6 kind=var var=3"
    ∷ "expr=7 kind=int val=4"
    ∷ "expr=8 kind=var var=4"
    ∷ "expr=9 kind=sub a=8 b=7"
    ∷ "expr=10 kind=var var=3"
    ∷ "expr=11 kind=int val=0"
    ∷ "expr=12 kind=this"
    ∷ "expr=13 kind=int val=8"
    ∷ "expr=14 kind=neg a=13"
    ∷ "stmt=1 kind=assign var=1 expr=1"
    ∷ "stmt=2 kind=assign var=2 expr=2"
    ∷ "stmt=3 kind=assign var=3 expr=3"
    ∷ "stmt=4 kind=assign var=4 expr=4"
    ∷ "stmt=5 kind=assign var=5 expr=5"
    ∷ "stmt=6 kind=leave"
    ∷ "stmt=7 kind=send to=6 event=1 arg=9"
    ∷ "stmt=8 kind=send to=10 event=1 arg=11"
    ∷ "stmt=9 kind=send to=12 event=1 arg=14"
    ∷ "stmt=10 kind=seq first=8 second=9"
    ∷ "stmt=11 kind=seq first=7 second=10"
    ∷ "stmt=12 kind=seq first=6 second=11"
    ∷ "stmt=13 kind=seq first=5 second=12"
    ∷ "stmt=14 kind=seq first=4 second=13"
    ∷ "stmt=15 kind=seq first=3 second=14"
    ∷ "stmt=16 kind=seq first=2 second=15"
    ∷ "stmt=17 kind=seq first=1 second=16"
    ∷ "stmt=18 kind=skip"
    ∷ "stmt=19 kind=raise event=1 arg=0"
    ∷ "stmt=20 kind=seq first=18 second=19"
    ∷ "action=1 of=1 do=0"
    ∷ "state=1 of=1 defer=none entry=17 exit=0"
    ∷ "state=2 of=1 defer=1 entry=20 exit=0"
    ∷ "step=1 on=1 to=2"
    ∷ "step=2 on=1 to=1"
    ∷ "step=2 on=2 to=2"
    ∷ "act=1 on=1 do=1"
    ∷ "act=1 on=2 do=1"
    ∷ "act=2 on=1 do=1"
    ∷ "start=1"
    ∷ "choice=1 bits=165" ∷ "choice=1 bits=239" ∷ "choice=1 bits=91" ∷ "choice=1 bits=138" ∷ "choice=1 bits=169" ∷ "choice=1 bits=227"
    ∷ "choice=1 bits=32" ∷ "choice=1 bits=83" ∷ "choice=1 bits=17" ∷ "choice=1 bits=49" ∷ "choice=1 bits=186" ∷ "choice=1 bits=128" ∷ "choice=1"
    ∷ []))
    ≡ ran_text
    (ASSIGN ∷ SEQ ∷ ASSIGN ∷ SEQ ∷ ASSIGN ∷ SEQ ∷ ASSIGN ∷ SEQ ∷ ASSIGN ∷ SEQ ∷ LEAVE ∷ [])
    UnableToStep 12 11
    (config (
    machine 1 1 (frame 1 (nothing ∷ nothing ∷ []) ∷ []) (vint (pos 0) ∷ undefined ∷ id_of 1 ∷ vint (pos 0) ∷ vbool true ∷ []) undefined undefined []
    idle []
    ∷ []) 2)
unfolding seen answered said below downward tree stars tree_height expr_inside height inside serves expr_serves quietly value onto act step start_config
valid_00034_of_seed_1 = refl

-- Chosen for: a step or a call behind POP1.
pub maps_00042_of_seed_2 : seen (text (
    "event=1 type=void"
    ∷ "event=2 type=void"
    ∷ "event=3 type=void"
    ∷ "event=4 type=void"
    ∷ "machine=1"
    ∷ "var=1 of=1 type=bool"
    ∷ "expr=1 kind=star"
    ∷ "expr=2 kind=bool val=1"
    ∷ "expr=3 kind=star"
    ∷ "expr=4 kind=this"
    ∷ "expr=5 kind=this"
    ∷ "expr=6 kind=bool val=1"
    ∷ "expr=7 kind=this"
    ∷ "expr=8 kind=this"
    ∷ "expr=9 kind=bool val=1"
    ∷ "expr=10 kind=this"
    ∷ "expr=11 kind=this"
    ∷ "stmt=1 kind=assign var=1 expr=1"
    ∷ "stmt=2 kind=assert expr=2"
    ∷ "stmt=3 kind=if cond=3 then=0 else=0"
    ∷ "stmt=4 kind=return"
    ∷ "stmt=5 kind=send to=4 event=2 arg=0"
    ∷ "stmt=6 kind=send to=5 event=4 arg=0"
    ∷ "stmt=7 kind=assert expr=6"
    ∷ "stmt=8 kind=seq first=5 second=6"
    ∷ "stmt=9 kind=send to=7 event=1 arg=0"
    ∷ "stmt=10 kind=return"
    ∷ "stmt=11 kind=seq first=9 second=10"
    ∷ "stmt=12 kind=send to=8 event=2 arg=0"
    ∷ "stmt=13 kind=raise event=4 arg=0"
    ∷ "stmt=14 kind=assert expr=9"
    ∷ "stmt=15 kind=seq first=12 second=13"
    ∷ "stmt=16 kind=send to=10 event=1 arg=0"
    ∷ "stmt=17 kind=send to=11 event=2 arg=0"
    ∷ "stmt=18 kind=seq first=16 second=17"
    ∷ "action=1 of=1 do=1"
    ∷ "action=2 of=1 do=2"
    ∷ "action=3 of=1 do=3"
    ∷ "action=4 of=1 do=4"
    ∷ "state=1 of=1 defer=none entry=8 exit=7"
    ∷ "state=2 of=1 defer=1 entry=11 exit=0"
    ∷ "state=3 of=1 defer=3 entry=15 exit=14"
    ∷ "state=4 of=1 defer=none entry=18 exit=0"
    ∷ "step=1 on=3 to=2"
    ∷ "step=1 on=4 to=3"
    ∷ "call=1 on=1 to=1"
    ∷ "call=1 on=2 to=3"
    ∷ "call=3 on=2 to=4"
    ∷ "act=2 on=1 do=3"
    ∷ "act=2 on=2 do=4"
    ∷ "act=2 on=3 do=4"
    ∷ "act=4 on=3 do=1"
    ∷ "act=4 on=4 do=2"
    ∷ "start=1"
    ∷ "choice=1 bits=50" ∷ "choice=1 bits=224" ∷ "choice=1 bits=71" ∷ "choice=1 bits=211" ∷ "choice=1 bits=33" ∷ "choice=1 bits=6" ∷ "choice=1 bits=146"
    ∷ "choice=1 bits=46" ∷ "choice=1 bits=97" ∷ "choice=1 bits=58" ∷ "choice=1 bits=216" ∷ "choice=1 bits=237" ∷ "choice=1 bits=176" ∷ "choice=1 bits=246"
    ∷ "choice=1 bits=155" ∷ "choice=1 bits=245" ∷ "choice=1 bits=214" ∷ "choice=1 bits=182" ∷ "choice=1 bits=75" ∷ "choice=1 bits=157"
    ∷ []))
    ≡ ran_text
    (SEND ∷ SEQ ∷ SEND ∷ DEQUEUE ∷ SEQ ∷ CALL ∷ SEND ∷ SEQ ∷ RAISE ∷ ASSERT ∷ SEQ ∷ POP1 ∷ STEP ∷ SEND ∷ SEQ ∷ RAISE ∷ ASSERT ∷ SEQ ∷ POP1 ∷ [])
    StackEmpty 20 19
    (config (
    machine 1 1 [] (undefined ∷ []) (vevent 4) undefined [] (raising 4 undefined) (pair 4 undefined ∷ pair 2 undefined ∷ [])
    ∷ []) 2)
unfolding seen answered said below downward tree stars tree_height expr_inside height inside serves expr_serves quietly value onto act step start_config
maps_00042_of_seed_2 = refl

-- Chosen for: a call clears an old entry.
pub maps_00183_of_seed_1 : seen (text (
    "event=1 type=void"
    ∷ "event=2 type=void"
    ∷ "event=3 type=void"
    ∷ "event=4 type=void"
    ∷ "machine=1"
    ∷ "var=1 of=1 type=bool"
    ∷ "expr=1 kind=star"
    ∷ "expr=2 kind=bool val=1"
    ∷ "expr=3 kind=star"
    ∷ "expr=4 kind=this"
    ∷ "expr=5 kind=bool val=1"
    ∷ "expr=6 kind=this"
    ∷ "expr=7 kind=this"
    ∷ "expr=8 kind=this"
    ∷ "expr=9 kind=bool val=1"
    ∷ "stmt=1 kind=assign var=1 expr=1"
    ∷ "stmt=2 kind=assert expr=2"
    ∷ "stmt=3 kind=if cond=3 then=0 else=0"
    ∷ "stmt=4 kind=return"
    ∷ "stmt=5 kind=send to=4 event=2 arg=0"
    ∷ "stmt=6 kind=assert expr=5"
    ∷ "stmt=7 kind=send to=6 event=4 arg=0"
    ∷ "stmt=8 kind=raise event=3 arg=0"
    ∷ "stmt=9 kind=seq first=7 second=8"
    ∷ "stmt=10 kind=send to=7 event=1 arg=0"
    ∷ "stmt=11 kind=return"
    ∷ "stmt=12 kind=seq first=10 second=11"
    ∷ "stmt=13 kind=send to=8 event=2 arg=0"
    ∷ "stmt=14 kind=raise event=4 arg=0"
    ∷ "stmt=15 kind=assert expr=9"
    ∷ "stmt=16 kind=seq first=13 second=14"
    ∷ "action=1 of=1 do=1"
    ∷ "action=2 of=1 do=2"
    ∷ "action=3 of=1 do=3"
    ∷ "action=4 of=1 do=4"
    ∷ "state=1 of=1 defer=1,2 entry=5 exit=6"
    ∷ "state=2 of=1 defer=none entry=9 exit=0"
    ∷ "state=3 of=1 defer=none entry=12 exit=0"
    ∷ "state=4 of=1 defer=2 entry=16 exit=15"
    ∷ "step=2 on=1 to=3"
    ∷ "call=1 on=1 to=1"
    ∷ "call=1 on=2 to=2"
    ∷ "call=1 on=4 to=4"
    ∷ "call=2 on=3 to=2"
    ∷ "call=3 on=1 to=2"
    ∷ "call=3 on=3 to=3"
    ∷ "act=1 on=3 do=1"
    ∷ "act=2 on=2 do=4"
    ∷ "act=3 on=1 do=2"
    ∷ "act=3 on=4 do=1"
    ∷ "act=4 on=1 do=1"
    ∷ "act=4 on=3 do=2"
    ∷ "start=1"
    ∷ "choice=1 bits=196" ∷ "choice=1 bits=98" ∷ "choice=1 bits=195" ∷ "choice=1 bits=93" ∷ "choice=1 bits=127" ∷ "choice=1 bits=40" ∷ "choice=1 bits=41"
    ∷ "choice=1 bits=57" ∷ "choice=1 bits=150" ∷ "choice=1 bits=112" ∷ "choice=1 bits=127" ∷ "choice=1 bits=39" ∷ "choice=1 bits=152"
    ∷ "choice=1 bits=151" ∷ "choice=1 bits=153" ∷ "choice=1 bits=228" ∷ "choice=1 bits=21" ∷ "choice=1 bits=91" ∷ "choice=1 bits=163"
    ∷ "choice=1 bits=135" ∷ "choice=1 bits=96" ∷ "choice=1 bits=34" ∷ "choice=1 bits=0" ∷ "choice=1 bits=231" ∷ "choice=1 bits=255" ∷ "choice=1 bits=203"
    ∷ "choice=1 bits=204" ∷ "choice=1 bits=94" ∷ "choice=1 bits=144" ∷ "choice=1 bits=42" ∷ "choice=1 bits=6" ∷ "choice=1 bits=71" ∷ "choice=1 bits=93"
    ∷ "choice=1 bits=254" ∷ "choice=1 bits=49" ∷ "choice=1 bits=50" ∷ "choice=1 bits=166" ∷ "choice=1 bits=35" ∷ "choice=1 bits=168" ∷ "choice=1 bits=0"
    ∷ []))
    ≡ ran_text
    (SEND ∷ DEQUEUE ∷ SEQ ∷ CALL ∷ SEND ∷ SEQ ∷ RAISE ∷ SEQ ∷ CALL ∷ SEND ∷ SEQ ∷ RAISE ∷ SEQ ∷ CALL ∷ SEND ∷ SEQ ∷ RAISE ∷ SEQ ∷ CALL ∷ SEND ∷ SEQ
    ∷ RAISE ∷ SEQ ∷ CALL ∷ SEND ∷ SEQ ∷ RAISE ∷ SEQ ∷ CALL ∷ SEND ∷ SEQ ∷ RAISE ∷ SEQ ∷ CALL ∷ SEND ∷ SEQ ∷ RAISE ∷ SEQ ∷ [])
    StackFull 39 38
    (config (
    machine 1 1 (frame 2 (nothing ∷ action 4 ∷ nothing ∷ nothing ∷ []) ∷ frame 2 (nothing ∷ action 4 ∷ nothing ∷ nothing ∷ []) ∷ frame 2 (nothing
    ∷ action 4 ∷ nothing ∷ nothing ∷ []) ∷ frame 2 (nothing ∷ action 4 ∷ nothing ∷ nothing ∷ []) ∷ frame 2 (nothing ∷ action 4 ∷ nothing ∷ nothing ∷ [])
    ∷ frame 2 (nothing ∷ action 4 ∷ nothing ∷ nothing ∷ []) ∷ frame 2 (nothing ∷ nothing ∷ action 1 ∷ nothing ∷ []) ∷ frame 1 (nothing ∷ nothing ∷ nothing
    ∷ nothing ∷ []) ∷ []) (undefined ∷ []) (vevent 3) undefined [] (raising 3 undefined) (pair 4 undefined ∷ [])
    ∷ []) 2)
unfolding seen answered said below downward tree stars tree_height expr_inside height inside serves expr_serves quietly value onto act step start_config
maps_00183_of_seed_1 = refl
