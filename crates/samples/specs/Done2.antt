-- Samples: runs that take every choice. Written by `python3 second/statements.py --write crates/samples/specs`, and not to be edited by hand.
use Rattle.std.specs.Prelude.{◌≡◌, refl, [], ◌∷◌, ◌++◌, pos, negsuc, replicate}
use Rattle.lists.specs.Down.{below, downward}
use Rattle.answers.specs.declared.Answer.TheVariants.{Done}
use Rattle.values.specs.declared.Value.TheVariants.{Undefined as undefined, Int as vint, Event as vevent}
use Rattle.values.specs.Values.{id_of}
use Rattle.programs.specs.Trees.{tree, stars, tree_height, expr_inside}
use Rattle.programs.specs.Statements.{height, inside, serves, expr_serves}
use Rattle.soundness.specs.Asked.{quietly}
use Rattle.machines.specs.Config.{action, nothing, idle, raising, returning}
use Rattle.machines.specs.Eval.{value}
use Rattle.machines.specs.Row.{onto}
use Rattle.rules.specs.declared.Rule.TheVariants.{ASSIGN, NEW, DELETE, ASSERT, SEQ, IF, WHILE, SEND, RAISE, RETURN, DEQUEUE, STEP, ACTION, CALL, POP1}
use Rattle.rules.specs.Act.{act}
use Rattle.rules.specs.Step.{step, start_config}
use Rattle.texts.specs.Bytes.{text}
use Rattle.texts.specs.Forms.{said}
use Rattle.texts.specs.Answered.{answered}
use Rattle.samples.specs.Seen.{seen, ran_text, frame, pair, machine, config}

-- Undefined equals undefined: the second pair of event 1 is left out. Then `msg` is an event to send.
pub undefined_pairs : seen (text (
    "event=1 type=event"
    ∷ "machine=1"
    ∷ "var=1 of=1 type=event"
    ∷ "expr=1 kind=this"
    ∷ "expr=2 kind=msg"
    ∷ "expr=3 kind=this"
    ∷ "expr=4 kind=var var=1"
    ∷ "expr=5 kind=msg"
    ∷ "expr=6 kind=this"
    ∷ "expr=7 kind=msg"
    ∷ "stmt=1 kind=send to=1 event=1 arg=2"
    ∷ "stmt=2 kind=send to=3 event=1 arg=4"
    ∷ "stmt=3 kind=seq first=1 second=2"
    ∷ "stmt=4 kind=assign var=1 expr=5"
    ∷ "stmt=5 kind=send to=6 event=1 arg=7"
    ∷ "stmt=6 kind=seq first=4 second=5"
    ∷ "action=1 of=1 do=6"
    ∷ "state=1 of=1 defer=none entry=3 exit=0"
    ∷ "act=1 on=1 do=1"
    ∷ "start=1"
    ∷ replicate 12 "choice=1"))
    ≡ ran_text
    (SEND ∷ SEQ ∷ SEND ∷ DEQUEUE ∷ SEQ ∷ ACTION ∷ ASSIGN ∷ SEQ ∷ SEND ∷ DEQUEUE ∷ SEQ ∷ ACTION ∷ [])
    Done 0 12
    (config (
    machine 1 1 (frame 1 (nothing ∷ []) ∷ []) (vevent 1 ∷ []) (vevent 1) (vevent 1) (4 ∷ 5 ∷ []) idle []
    ∷ []) 2)
unfolding seen answered said below downward tree stars tree_height expr_inside height inside serves expr_serves quietly value onto act step start_config
undefined_pairs = refl

-- The exit of state 1 sends and creates before the step; the machine created chooses a branch and a loop by its bits.
pub an_exit_at_work : seen (text (
    "event=1 type=int"
    ∷ "machine=1"
    ∷ "machine=2"
    ∷ "var=1 of=1 type=id"
    ∷ "var=2 of=2 type=int"
    ∷ "expr=1 kind=int val=-1"
    ∷ "expr=2 kind=this"
    ∷ "expr=3 kind=int val=4"
    ∷ "expr=4 kind=star"
    ∷ "expr=5 kind=star"
    ∷ "expr=6 kind=and a=4 b=5"
    ∷ "expr=7 kind=int val=8"
    ∷ "expr=8 kind=star"
    ∷ "expr=9 kind=var var=2"
    ∷ "expr=10 kind=int val=10"
    ∷ "expr=11 kind=sub a=9 b=10"
    ∷ "stmt=1 kind=raise event=1 arg=1"
    ∷ "stmt=2 kind=send to=2 event=1 arg=3"
    ∷ "stmt=3 kind=new var=1 machine=2 init=none"
    ∷ "stmt=4 kind=seq first=2 second=3"
    ∷ "stmt=5 kind=assign var=2 expr=7"
    ∷ "stmt=6 kind=if cond=6 then=5 else=0"
    ∷ "stmt=7 kind=assign var=2 expr=11"
    ∷ "stmt=8 kind=while cond=8 body=7"
    ∷ "stmt=9 kind=seq first=6 second=8"
    ∷ "stmt=10 kind=skip"
    ∷ "state=1 of=1 defer=none entry=1 exit=4"
    ∷ "state=2 of=1 defer=none entry=10 exit=0"
    ∷ "state=3 of=2 defer=none entry=9 exit=0"
    ∷ "step=1 on=1 to=2"
    ∷ "start=1"
    ∷ replicate 6 "choice=1" ++ "choice=2 bits=3" ∷ "choice=2" ∷ "choice=2" ∷ "choice=2 bits=1" ∷ "choice=2" ∷ "choice=2" ∷ "choice=2"
    ∷ "choice=1" ∷ "choice=1" ∷ "choice=1"
    ∷ []))
    ≡ ran_text
    (RAISE ∷ SEND ∷ SEQ ∷ NEW ∷ SEQ ∷ STEP ∷ IF ∷ ASSIGN ∷ SEQ ∷ WHILE ∷ ASSIGN ∷ SEQ ∷ WHILE ∷ DEQUEUE ∷ SEQ ∷ POP1 ∷ [])
    Done 0 16
    (config (
    machine 1 1 [] (id_of 2 ∷ []) (vevent 1) (vint (pos 4)) [] (raising 1 (vint (pos 4))) []
    ∷ machine 2 2 (frame 3 (nothing ∷ []) ∷ []) (vint (negsuc 1) ∷ []) undefined undefined [] idle []
    ∷ []) 3)
unfolding seen answered said below downward tree stars tree_height expr_inside height inside serves expr_serves quietly value onto act step start_config
an_exit_at_work = refl

-- Chosen for: ASSERT, IF, the first branch, an exit put in by a dequeue, no exit before a call or an action, POP1 behind POP1, POP1 brings back another
-- map, an own deferral holds back, an own deferral overruled.
pub maps_00432_of_seed_3 : seen (text (
    "event=1 type=void"
    ∷ "event=2 type=void"
    ∷ "event=3 type=void"
    ∷ "event=4 type=void"
    ∷ "machine=1"
    ∷ "var=1 of=1 type=bool"
    ∷ "expr=1 kind=star"
    ∷ "expr=2 kind=bool val=1"
    ∷ "expr=3 kind=star"
    ∷ "expr=4 kind=this"
    ∷ "expr=5 kind=this"
    ∷ "expr=6 kind=this"
    ∷ "expr=7 kind=bool val=1"
    ∷ "expr=8 kind=this"
    ∷ "expr=9 kind=this"
    ∷ "expr=10 kind=this"
    ∷ "expr=11 kind=bool val=1"
    ∷ "expr=12 kind=this"
    ∷ "expr=13 kind=this"
    ∷ "expr=14 kind=bool val=1"
    ∷ "stmt=1 kind=assign var=1 expr=1"
    ∷ "stmt=2 kind=assert expr=2"
    ∷ "stmt=3 kind=if cond=3 then=0 else=0"
    ∷ "stmt=4 kind=leave"
    ∷ "stmt=5 kind=send to=4 event=1 arg=0"
    ∷ "stmt=6 kind=send to=5 event=3 arg=0"
    ∷ "stmt=7 kind=send to=6 event=4 arg=0"
    ∷ "stmt=8 kind=assert expr=7"
    ∷ "stmt=9 kind=seq first=6 second=7"
    ∷ "stmt=10 kind=seq first=5 second=9"
    ∷ "stmt=11 kind=send to=8 event=4 arg=0"
    ∷ "stmt=12 kind=send to=9 event=3 arg=0"
    ∷ "stmt=13 kind=send to=10 event=1 arg=0"
    ∷ "stmt=14 kind=assert expr=11"
    ∷ "stmt=15 kind=seq first=12 second=13"
    ∷ "stmt=16 kind=seq first=11 second=15"
    ∷ "stmt=17 kind=send to=12 event=2 arg=0"
    ∷ "stmt=18 kind=raise event=1 arg=0"
    ∷ "stmt=19 kind=seq first=17 second=18"
    ∷ "stmt=20 kind=send to=13 event=3 arg=0"
    ∷ "stmt=21 kind=assert expr=14"
    ∷ "action=1 of=1 do=1"
    ∷ "action=2 of=1 do=2"
    ∷ "action=3 of=1 do=3"
    ∷ "action=4 of=1 do=4"
    ∷ "state=1 of=1 defer=none entry=10 exit=8"
    ∷ "state=2 of=1 defer=3,4 entry=16 exit=14"
    ∷ "state=3 of=1 defer=1,4 entry=19 exit=0"
    ∷ "state=4 of=1 defer=1,3 entry=20 exit=21"
    ∷ "step=1 on=4 to=2"
    ∷ "call=1 on=2 to=2"
    ∷ "call=2 on=2 to=3"
    ∷ "call=2 on=3 to=3"
    ∷ "call=3 on=3 to=3"
    ∷ "call=3 on=4 to=2"
    ∷ "act=1 on=1 do=2"
    ∷ "act=1 on=3 do=3"
    ∷ "act=4 on=3 do=3"
    ∷ "start=1"
    ∷ "choice=1 bits=68" ∷ "choice=1 bits=31" ∷ "choice=1 bits=145" ∷ "choice=1 bits=249" ∷ "choice=1 bits=31" ∷ "choice=1 bits=190" ∷ "choice=1 bits=186"
    ∷ "choice=1 bits=138" ∷ "choice=1 bits=251" ∷ "choice=1 bits=154" ∷ "choice=1 bits=139" ∷ "choice=1 bits=198" ∷ "choice=1 bits=85"
    ∷ "choice=1 bits=181" ∷ "choice=1 bits=206" ∷ "choice=1 bits=245" ∷ "choice=1 bits=93" ∷ "choice=1 bits=193" ∷ "choice=1 bits=28"
    ∷ "choice=1 bits=135" ∷ "choice=1 bits=115" ∷ "choice=1 bits=102" ∷ "choice=1 bits=8" ∷ "choice=1 bits=52" ∷ "choice=1 bits=229" ∷ "choice=1 bits=174"
    ∷ "choice=1 bits=203" ∷ "choice=1 bits=211" ∷ "choice=1 bits=99" ∷ "choice=1 bits=11" ∷ "choice=1 bits=162"
    ∷ []))
    ≡ ran_text
    (SEND ∷ SEQ ∷ SEND ∷ SEQ ∷ SEND ∷ DEQUEUE ∷ SEQ ∷ ACTION ∷ ASSERT ∷ DEQUEUE ∷ SEQ ∷ ACTION ∷ IF ∷ DEQUEUE ∷ ASSERT ∷ SEQ ∷ STEP ∷ SEND ∷ SEQ ∷ SEND
    ∷ SEQ ∷ SEND ∷ DEQUEUE ∷ SEQ ∷ CALL ∷ SEND ∷ SEQ ∷ RAISE ∷ SEQ ∷ POP1 ∷ POP1 ∷ [])
    Done 0 31
    (config (
    machine 1 1 [] (undefined ∷ []) (vevent 1) undefined [] (raising 1 undefined) (pair 4 undefined ∷ pair 1 undefined ∷ pair 2 undefined ∷ [])
    ∷ []) 2)
unfolding seen answered said below downward tree stars tree_height expr_inside height inside serves expr_serves quietly value onto act step start_config
maps_00432_of_seed_3 = refl

-- Chosen for: a call hides an action beside a transition, a call hands on an action and not a deferral, an own deferral against the map's action.
pub maps_00182_of_seed_2 : seen (text (
    "event=1 type=void"
    ∷ "event=2 type=void"
    ∷ "event=3 type=void"
    ∷ "event=4 type=void"
    ∷ "machine=1"
    ∷ "var=1 of=1 type=bool"
    ∷ "expr=1 kind=star"
    ∷ "expr=2 kind=bool val=1"
    ∷ "expr=3 kind=star"
    ∷ "expr=4 kind=this"
    ∷ "expr=5 kind=this"
    ∷ "expr=6 kind=this"
    ∷ "expr=7 kind=this"
    ∷ "expr=8 kind=this"
    ∷ "stmt=1 kind=assign var=1 expr=1"
    ∷ "stmt=2 kind=assert expr=2"
    ∷ "stmt=3 kind=if cond=3 then=0 else=0"
    ∷ "stmt=4 kind=return"
    ∷ "stmt=5 kind=send to=4 event=4 arg=0"
    ∷ "stmt=6 kind=raise event=4 arg=0"
    ∷ "stmt=7 kind=seq first=5 second=6"
    ∷ "stmt=8 kind=send to=5 event=1 arg=0"
    ∷ "stmt=9 kind=send to=6 event=1 arg=0"
    ∷ "stmt=10 kind=send to=7 event=1 arg=0"
    ∷ "stmt=11 kind=send to=8 event=3 arg=0"
    ∷ "stmt=12 kind=return"
    ∷ "stmt=13 kind=seq first=11 second=12"
    ∷ "stmt=14 kind=seq first=10 second=13"
    ∷ "action=1 of=1 do=1"
    ∷ "action=2 of=1 do=2"
    ∷ "action=3 of=1 do=3"
    ∷ "action=4 of=1 do=4"
    ∷ "state=1 of=1 defer=2 entry=7 exit=0"
    ∷ "state=2 of=1 defer=3 entry=8 exit=0"
    ∷ "state=3 of=1 defer=1 entry=9 exit=0"
    ∷ "state=4 of=1 defer=3 entry=14 exit=0"
    ∷ "call=1 on=3 to=2"
    ∷ "call=1 on=4 to=3"
    ∷ "call=2 on=1 to=2"
    ∷ "call=2 on=2 to=4"
    ∷ "call=4 on=3 to=3"
    ∷ "act=1 on=1 do=1"
    ∷ "act=1 on=2 do=3"
    ∷ "act=1 on=4 do=1"
    ∷ "act=2 on=4 do=3"
    ∷ "act=3 on=3 do=2"
    ∷ "act=3 on=4 do=2"
    ∷ "act=4 on=1 do=3"
    ∷ "act=4 on=2 do=2"
    ∷ "act=4 on=3 do=3"
    ∷ "start=1"
    ∷ "choice=1 bits=87" ∷ "choice=1 bits=186" ∷ "choice=1 bits=79" ∷ "choice=1 bits=201" ∷ "choice=1 bits=87" ∷ "choice=1 bits=178" ∷ "choice=1 bits=42"
    ∷ "choice=1 bits=234" ∷ "choice=1 bits=57" ∷ "choice=1 bits=80"
    ∷ []))
    ≡ ran_text
    (SEND ∷ SEQ ∷ RAISE ∷ SEQ ∷ CALL ∷ SEND ∷ DEQUEUE ∷ SEQ ∷ ACTION ∷ ASSERT ∷ [])
    Done 0 10
    (config (
    machine 1 1 (frame 3 (action 1 ∷ action 3 ∷ nothing ∷ nothing ∷ []) ∷ frame 1 (nothing ∷ nothing ∷ nothing ∷ nothing ∷ []) ∷ []) (undefined ∷ [])
    (vevent 4) undefined [] idle (pair 1 undefined ∷ [])
    ∷ []) 2)
unfolding seen answered said below downward tree stars tree_height expr_inside height inside serves expr_serves quietly value onto act step start_config
maps_00182_of_seed_2 = refl

-- Chosen for: stars with several bits.
pub recipe_00220_of_seed_1 : seen (text (
    "machine=1"
    ∷ "expr=1 kind=star"
    ∷ "expr=2 kind=not a=1"
    ∷ "expr=3 kind=star"
    ∷ "expr=4 kind=and a=3 b=2"
    ∷ "stmt=1 kind=assert expr=4"
    ∷ "state=1 of=1 defer=none entry=1 exit=0"
    ∷ "start=1"
    ∷ "choice=1 bits=1"
    ∷ []))
    ≡ ran_text
    (ASSERT ∷ [])
    Done 0 1
    (config (
    machine 1 1 (frame 1 [] ∷ []) [] undefined undefined [] idle []
    ∷ []) 2)
unfolding seen answered said below downward tree stars tree_height expr_inside height inside serves expr_serves quietly value onto act step start_config
recipe_00220_of_seed_1 = refl

-- Chosen for: expression bot.
pub recipe_00290_of_seed_2 : seen (text (
    "event=1 type=void"
    ∷ "event=2 type=bool"
    ∷ "machine=1"
    ∷ "var=1 of=1 type=bool"
    ∷ "var=2 of=1 type=id"
    ∷ "expr=1 kind=bot"
    ∷ "stmt=1 kind=raise event=2 arg=1"
    ∷ "state=1 of=1 defer=none entry=1 exit=0"
    ∷ "start=1"
    ∷ "choice=1"
    ∷ []))
    ≡ ran_text
    (RAISE ∷ [])
    Done 0 1
    (config (
    machine 1 1 (frame 1 (nothing ∷ nothing ∷ []) ∷ []) (undefined ∷ undefined ∷ []) (vevent 2) undefined (0 ∷ []) (raising 2 undefined) []
    ∷ []) 2)
unfolding seen answered said below downward tree stars tree_height expr_inside height inside serves expr_serves quietly value onto act step start_config
recipe_00290_of_seed_2 = refl

-- Chosen for: an exit put in by a return.
pub recipe_00360_of_seed_1 : seen (text (
    "event=1 type=void"
    ∷ "machine=1"
    ∷ "expr=1 kind=star"
    ∷ "stmt=1 kind=raise event=1 arg=0"
    ∷ "stmt=2 kind=return"
    ∷ "stmt=3 kind=skip"
    ∷ "stmt=4 kind=assert expr=1"
    ∷ "state=1 of=1 defer=none entry=1 exit=3"
    ∷ "state=2 of=1 defer=none entry=2 exit=4"
    ∷ "call=1 on=1 to=2"
    ∷ "start=1"
    ∷ replicate 6 "choice=1 bits=1"))
    ≡ ran_text
    (RAISE ∷ SEQ ∷ CALL ∷ RETURN ∷ ASSERT ∷ SEQ ∷ [])
    Done 0 6
    (config (
    machine 1 1 (frame 2 (nothing ∷ []) ∷ frame 1 (nothing ∷ []) ∷ []) [] (vevent 1) undefined [] returning []
    ∷ []) 2)
unfolding seen answered said below downward tree stars tree_height expr_inside height inside serves expr_serves quietly value onto act step start_config
recipe_00360_of_seed_1 = refl

-- Chosen for: a creation into a freed room.
pub recipe_00020_of_seed_2 : seen (text (
    "machine=1"
    ∷ "machine=2"
    ∷ "var=1 of=1 type=id"
    ∷ "expr=1 kind=bool val=1"
    ∷ "stmt=1 kind=new var=1 machine=2 init=none"
    ∷ "stmt=2 kind=while cond=1 body=1"
    ∷ "stmt=3 kind=delete"
    ∷ "state=1 of=1 defer=none entry=2 exit=0"
    ∷ "state=2 of=2 defer=none entry=3 exit=0"
    ∷ "start=1"
    ∷ replicate 9 "choice=1" ++ "choice=2" ∷ replicate 18 "choice=1" ++ "choice=8" ∷ replicate 18 "choice=1" ++ "choice=5" ∷ replicate 12 "choice=1"))
    ≡ ran_text
    (WHILE ∷ NEW ∷ SEQ ∷ WHILE ∷ NEW ∷ SEQ ∷ WHILE ∷ NEW ∷ SEQ ∷ DELETE ∷ WHILE ∷ NEW ∷ SEQ ∷ WHILE ∷ NEW ∷ SEQ ∷ WHILE ∷ NEW ∷ SEQ ∷ WHILE ∷ NEW ∷ SEQ
    ∷ WHILE ∷ NEW ∷ SEQ ∷ WHILE ∷ NEW ∷ SEQ ∷ DELETE ∷ WHILE ∷ NEW ∷ SEQ ∷ WHILE ∷ NEW ∷ SEQ ∷ WHILE ∷ NEW ∷ SEQ ∷ WHILE ∷ NEW ∷ SEQ ∷ WHILE ∷ NEW ∷ SEQ
    ∷ WHILE ∷ NEW ∷ SEQ ∷ DELETE ∷ WHILE ∷ NEW ∷ SEQ ∷ WHILE ∷ NEW ∷ SEQ ∷ WHILE ∷ NEW ∷ SEQ ∷ WHILE ∷ NEW ∷ SEQ ∷ [])
    Done 0 60
    (config (
    machine 1 1 (frame 1 [] ∷ []) (id_of 20 ∷ []) undefined undefined (2 ∷ []) idle []
    ∷ machine 17 2 (frame 2 [] ∷ []) [] undefined undefined (3 ∷ []) idle []
    ∷ machine 3 2 (frame 2 [] ∷ []) [] undefined undefined (3 ∷ []) idle []
    ∷ machine 4 2 (frame 2 [] ∷ []) [] undefined undefined (3 ∷ []) idle []
    ∷ machine 6 2 (frame 2 [] ∷ []) [] undefined undefined (3 ∷ []) idle []
    ∷ machine 7 2 (frame 2 [] ∷ []) [] undefined undefined (3 ∷ []) idle []
    ∷ machine 11 2 (frame 2 [] ∷ []) [] undefined undefined (3 ∷ []) idle []
    ∷ machine 9 2 (frame 2 [] ∷ []) [] undefined undefined (3 ∷ []) idle []
    ∷ machine 10 2 (frame 2 [] ∷ []) [] undefined undefined (3 ∷ []) idle []
    ∷ machine 12 2 (frame 2 [] ∷ []) [] undefined undefined (3 ∷ []) idle []
    ∷ machine 13 2 (frame 2 [] ∷ []) [] undefined undefined (3 ∷ []) idle []
    ∷ machine 14 2 (frame 2 [] ∷ []) [] undefined undefined (3 ∷ []) idle []
    ∷ machine 15 2 (frame 2 [] ∷ []) [] undefined undefined (3 ∷ []) idle []
    ∷ machine 16 2 (frame 2 [] ∷ []) [] undefined undefined (3 ∷ []) idle []
    ∷ machine 18 2 (frame 2 [] ∷ []) [] undefined undefined (3 ∷ []) idle []
    ∷ machine 19 2 (frame 2 [] ∷ []) [] undefined undefined (3 ∷ []) idle []
    ∷ machine 20 2 (frame 2 [] ∷ []) [] undefined undefined (3 ∷ []) idle []
    ∷ []) 21)
unfolding seen answered said below downward tree stars tree_height expr_inside height inside serves expr_serves quietly value onto act step start_config
recipe_00020_of_seed_2 = refl
