-- Samples: runs that a refused choice ends. Written by `python3 second/statements.py --write crates/samples/specs`, and not to be edited by hand.
use Rattle.std.specs.Prelude.{◌≡◌, refl, [], ◌∷◌, ◌++◌, pos, replicate}
use Rattle.lists.specs.Down.{below, downward}
use Rattle.answers.specs.declared.Answer.TheVariants.{NotABool, WrongType, QueueFull, StackFull, UnableToStep}
use Rattle.values.specs.declared.Value.TheVariants.{Undefined as undefined, Int as vint, Event as vevent}
use Rattle.programs.specs.Trees.{tree, stars, tree_height, expr_inside}
use Rattle.programs.specs.Statements.{height, inside, serves, expr_serves}
use Rattle.soundness.specs.Asked.{quietly}
use Rattle.machines.specs.Config.{action, deferred, nothing, idle, raising}
use Rattle.machines.specs.Eval.{value}
use Rattle.machines.specs.Row.{onto}
use Rattle.rules.specs.declared.Rule.TheVariants.{ASSIGN, ASSERT, SEQ, IF, WHILE, SEND, RAISE, LEAVE, DEQUEUE, STEP, ACTION, CALL}
use Rattle.rules.specs.Act.{act}
use Rattle.rules.specs.Step.{step, start_config}
use Rattle.texts.specs.Bytes.{text}
use Rattle.texts.specs.Forms.{said}
use Rattle.texts.specs.Answered.{answered}
use Rattle.samples.specs.Seen.{seen, ran_text, frame, pair, machine, config}

-- A queue of 16 takes a pair that waits in it already, and no other.
pub queue_full : seen (text (
    "event=1 type=int"
    ∷ "event=2 type=int"
    ∷ "machine=1"
    ∷ "var=1 of=1 type=int"
    ∷ "expr=1 kind=int val=0"
    ∷ "expr=2 kind=this"
    ∷ "expr=3 kind=var var=1"
    ∷ "expr=4 kind=this"
    ∷ "expr=5 kind=var var=1"
    ∷ "expr=6 kind=var var=1"
    ∷ "expr=7 kind=int val=1"
    ∷ "expr=8 kind=add a=6 b=7"
    ∷ "expr=9 kind=star"
    ∷ "expr=10 kind=this"
    ∷ "expr=11 kind=int val=0"
    ∷ "expr=12 kind=this"
    ∷ "expr=13 kind=var var=1"
    ∷ "stmt=1 kind=assign var=1 expr=1"
    ∷ "stmt=2 kind=send to=2 event=1 arg=3"
    ∷ "stmt=3 kind=send to=4 event=2 arg=5"
    ∷ "stmt=4 kind=assign var=1 expr=8"
    ∷ "stmt=5 kind=seq first=3 second=4"
    ∷ "stmt=6 kind=seq first=2 second=5"
    ∷ "stmt=7 kind=while cond=9 body=6"
    ∷ "stmt=8 kind=send to=10 event=1 arg=11"
    ∷ "stmt=9 kind=send to=12 event=1 arg=13"
    ∷ "stmt=10 kind=seq first=8 second=9"
    ∷ "stmt=11 kind=seq first=7 second=10"
    ∷ "stmt=12 kind=seq first=1 second=11"
    ∷ "state=1 of=1 defer=none entry=12 exit=0"
    ∷ "start=1"
    ∷ replicate 58 "choice=1 bits=1" ++ replicate 5 "choice=1"))
    ≡ ran_text
    (ASSIGN ∷ SEQ ∷ WHILE ∷ SEND ∷ SEQ ∷ SEND ∷ SEQ ∷ ASSIGN ∷ SEQ ∷ WHILE ∷ SEND ∷ SEQ ∷ SEND ∷ SEQ ∷ ASSIGN ∷ SEQ ∷ WHILE ∷ SEND ∷ SEQ ∷ SEND ∷ SEQ
    ∷ ASSIGN ∷ SEQ ∷ WHILE ∷ SEND ∷ SEQ ∷ SEND ∷ SEQ ∷ ASSIGN ∷ SEQ ∷ WHILE ∷ SEND ∷ SEQ ∷ SEND ∷ SEQ ∷ ASSIGN ∷ SEQ ∷ WHILE ∷ SEND ∷ SEQ ∷ SEND ∷ SEQ
    ∷ ASSIGN ∷ SEQ ∷ WHILE ∷ SEND ∷ SEQ ∷ SEND ∷ SEQ ∷ ASSIGN ∷ SEQ ∷ WHILE ∷ SEND ∷ SEQ ∷ SEND ∷ SEQ ∷ ASSIGN ∷ SEQ ∷ WHILE ∷ SEQ ∷ SEND ∷ SEQ ∷ [])
    QueueFull 63 62
    (config (
    machine 1 1 (frame 1 (nothing ∷ nothing ∷ []) ∷ []) (vint (pos 8) ∷ []) undefined undefined (9 ∷ []) idle (pair 1 (vint (pos 0))
    ∷ pair 2 (vint (pos 0)) ∷ pair 1 (vint (pos 1)) ∷ pair 2 (vint (pos 1)) ∷ pair 1 (vint (pos 2)) ∷ pair 2 (vint (pos 2)) ∷ pair 1 (vint (pos 3))
    ∷ pair 2 (vint (pos 3)) ∷ pair 1 (vint (pos 4)) ∷ pair 2 (vint (pos 4)) ∷ pair 1 (vint (pos 5)) ∷ pair 2 (vint (pos 5)) ∷ pair 1 (vint (pos 6))
    ∷ pair 2 (vint (pos 6)) ∷ pair 1 (vint (pos 7)) ∷ pair 2 (vint (pos 7)) ∷ [])
    ∷ []) 2)
unfolding seen answered said below downward tree stars tree_height expr_inside height inside serves expr_serves quietly value onto act step start_config
queue_full = refl

-- The queue is full and the payload is of the wrong type: "then 16 to 18".
pub payload_before_queue_full : seen (text (
    "event=1 type=int"
    ∷ "event=2 type=int"
    ∷ "machine=1"
    ∷ "var=1 of=1 type=int"
    ∷ "expr=1 kind=int val=0"
    ∷ "expr=2 kind=this"
    ∷ "expr=3 kind=var var=1"
    ∷ "expr=4 kind=this"
    ∷ "expr=5 kind=var var=1"
    ∷ "expr=6 kind=var var=1"
    ∷ "expr=7 kind=int val=1"
    ∷ "expr=8 kind=add a=6 b=7"
    ∷ "expr=9 kind=star"
    ∷ "expr=10 kind=this"
    ∷ "expr=11 kind=int val=0"
    ∷ "expr=12 kind=this"
    ∷ "expr=13 kind=bool val=1"
    ∷ "stmt=1 kind=assign var=1 expr=1"
    ∷ "stmt=2 kind=send to=2 event=1 arg=3"
    ∷ "stmt=3 kind=send to=4 event=2 arg=5"
    ∷ "stmt=4 kind=assign var=1 expr=8"
    ∷ "stmt=5 kind=seq first=3 second=4"
    ∷ "stmt=6 kind=seq first=2 second=5"
    ∷ "stmt=7 kind=while cond=9 body=6"
    ∷ "stmt=8 kind=send to=10 event=1 arg=11"
    ∷ "stmt=9 kind=send to=12 event=1 arg=13"
    ∷ "stmt=10 kind=seq first=8 second=9"
    ∷ "stmt=11 kind=seq first=7 second=10"
    ∷ "stmt=12 kind=seq first=1 second=11"
    ∷ "state=1 of=1 defer=none entry=12 exit=0"
    ∷ "start=1"
    ∷ replicate 58 "choice=1 bits=1" ++ replicate 5 "choice=1"))
    ≡ ran_text
    (ASSIGN ∷ SEQ ∷ WHILE ∷ SEND ∷ SEQ ∷ SEND ∷ SEQ ∷ ASSIGN ∷ SEQ ∷ WHILE ∷ SEND ∷ SEQ ∷ SEND ∷ SEQ ∷ ASSIGN ∷ SEQ ∷ WHILE ∷ SEND ∷ SEQ ∷ SEND ∷ SEQ
    ∷ ASSIGN ∷ SEQ ∷ WHILE ∷ SEND ∷ SEQ ∷ SEND ∷ SEQ ∷ ASSIGN ∷ SEQ ∷ WHILE ∷ SEND ∷ SEQ ∷ SEND ∷ SEQ ∷ ASSIGN ∷ SEQ ∷ WHILE ∷ SEND ∷ SEQ ∷ SEND ∷ SEQ
    ∷ ASSIGN ∷ SEQ ∷ WHILE ∷ SEND ∷ SEQ ∷ SEND ∷ SEQ ∷ ASSIGN ∷ SEQ ∷ WHILE ∷ SEND ∷ SEQ ∷ SEND ∷ SEQ ∷ ASSIGN ∷ SEQ ∷ WHILE ∷ SEQ ∷ SEND ∷ SEQ ∷ [])
    WrongType 63 62
    (config (
    machine 1 1 (frame 1 (nothing ∷ nothing ∷ []) ∷ []) (vint (pos 8) ∷ []) undefined undefined (9 ∷ []) idle (pair 1 (vint (pos 0))
    ∷ pair 2 (vint (pos 0)) ∷ pair 1 (vint (pos 1)) ∷ pair 2 (vint (pos 1)) ∷ pair 1 (vint (pos 2)) ∷ pair 2 (vint (pos 2)) ∷ pair 1 (vint (pos 3))
    ∷ pair 2 (vint (pos 3)) ∷ pair 1 (vint (pos 4)) ∷ pair 2 (vint (pos 4)) ∷ pair 1 (vint (pos 5)) ∷ pair 2 (vint (pos 5)) ∷ pair 1 (vint (pos 6))
    ∷ pair 2 (vint (pos 6)) ∷ pair 1 (vint (pos 7)) ∷ pair 2 (vint (pos 7)) ∷ [])
    ∷ []) 2)
unfolding seen answered said below downward tree stars tree_height expr_inside height inside serves expr_serves quietly value onto act step start_config
payload_before_queue_full = refl

-- The condition is undefined, which is not false.
pub assert_of_undefined : seen (text (
    "machine=1"
    ∷ "var=1 of=1 type=bool"
    ∷ "expr=1 kind=var var=1"
    ∷ "stmt=1 kind=assert expr=1"
    ∷ "state=1 of=1 defer=none entry=1 exit=0"
    ∷ "start=1"
    ∷ "choice=1" ∷ "choice=1"
    ∷ []))
    ≡ ran_text
    []
    NotABool 1 0
    (config (
    machine 1 1 (frame 1 [] ∷ []) (undefined ∷ []) undefined undefined (1 ∷ []) idle []
    ∷ []) 2)
unfolding seen answered said below downward tree stars tree_height expr_inside height inside serves expr_serves quietly value onto act step start_config
assert_of_undefined = refl

-- State 2 defers event 2, for which its caller has an action. A raise of 2 finds the map's action; a pair of 2 is held back.
pub own_deferral_and_map_action : seen (text (
    "event=1 type=void"
    ∷ "event=2 type=void"
    ∷ "machine=1"
    ∷ "expr=1 kind=this"
    ∷ "stmt=1 kind=send to=1 event=2 arg=0"
    ∷ "stmt=2 kind=raise event=1 arg=0"
    ∷ "stmt=3 kind=seq first=1 second=2"
    ∷ "stmt=4 kind=raise event=2 arg=0"
    ∷ "action=1 of=1 do=0"
    ∷ "state=1 of=1 defer=none entry=3 exit=0"
    ∷ "state=2 of=1 defer=2 entry=4 exit=0"
    ∷ "call=1 on=1 to=2"
    ∷ "act=1 on=2 do=1"
    ∷ "start=1"
    ∷ replicate 9 "choice=1"))
    ≡ ran_text
    (SEND ∷ SEQ ∷ RAISE ∷ SEQ ∷ CALL ∷ RAISE ∷ SEQ ∷ ACTION ∷ [])
    UnableToStep 9 8
    (config (
    machine 1 1 (frame 2 (nothing ∷ action 1 ∷ []) ∷ frame 1 (nothing ∷ nothing ∷ []) ∷ []) [] (vevent 2) undefined [] idle (pair 2 undefined ∷ [])
    ∷ []) 2)
unfolding seen answered said below downward tree stars tree_height expr_inside height inside serves expr_serves quietly value onto act step start_config
own_deferral_and_map_action = refl

-- State 1 defers events 2 and 3; state 2, called, has a step on 3 and says nothing of 2. 3 is taken from behind 2, and then 2 is still held back.
pub inherited_deferral : seen (text (
    "event=1 type=void"
    ∷ "event=2 type=void"
    ∷ "event=3 type=void"
    ∷ "machine=1"
    ∷ "expr=1 kind=this"
    ∷ "expr=2 kind=this"
    ∷ "stmt=1 kind=send to=1 event=2 arg=0"
    ∷ "stmt=2 kind=send to=2 event=3 arg=0"
    ∷ "stmt=3 kind=raise event=1 arg=0"
    ∷ "stmt=4 kind=seq first=2 second=3"
    ∷ "stmt=5 kind=seq first=1 second=4"
    ∷ "state=1 of=1 defer=2,3 entry=5 exit=0"
    ∷ "state=2 of=1 defer=none entry=0 exit=0"
    ∷ "step=2 on=3 to=2"
    ∷ "call=1 on=1 to=2"
    ∷ "start=1"
    ∷ replicate 11 "choice=1"))
    ≡ ran_text
    (SEND ∷ SEQ ∷ SEND ∷ SEQ ∷ RAISE ∷ SEQ ∷ CALL ∷ DEQUEUE ∷ SEQ ∷ STEP ∷ [])
    UnableToStep 11 10
    (config (
    machine 1 1 (frame 2 (nothing ∷ deferred ∷ deferred ∷ []) ∷ frame 1 (nothing ∷ nothing ∷ nothing ∷ []) ∷ []) [] (vevent 3) undefined [] idle
    (pair 2 undefined ∷ [])
    ∷ []) 2)
unfolding seen answered said below downward tree stars tree_height expr_inside height inside serves expr_serves quietly value onto act step start_config
inherited_deferral = refl

-- The map of state 3, called by state 2: of event 2 the old entry (deferred by state 1), of 3 the old entry (an action of state 1), of 4 nothing and of
-- 5 nothing, where state 2 has a transition, of 6 the action of state 2.
pub old_entries : seen (text (
    "event=1 type=void"
    ∷ "event=2 type=void"
    ∷ "event=3 type=void"
    ∷ "event=4 type=void"
    ∷ "event=5 type=void"
    ∷ "event=6 type=void"
    ∷ "machine=1"
    ∷ "expr=1 kind=this"
    ∷ "expr=2 kind=this"
    ∷ "stmt=1 kind=send to=1 event=2 arg=0"
    ∷ "stmt=2 kind=send to=2 event=3 arg=0"
    ∷ "stmt=3 kind=raise event=1 arg=0"
    ∷ "stmt=4 kind=seq first=2 second=3"
    ∷ "stmt=5 kind=seq first=1 second=4"
    ∷ "stmt=6 kind=raise event=4 arg=0"
    ∷ "action=1 of=1 do=0"
    ∷ "action=2 of=1 do=0"
    ∷ "state=1 of=1 defer=2,6 entry=5 exit=0"
    ∷ "state=2 of=1 defer=none entry=6 exit=0"
    ∷ "state=3 of=1 defer=none entry=0 exit=0"
    ∷ "step=2 on=5 to=1"
    ∷ "call=1 on=1 to=2"
    ∷ "call=2 on=4 to=3"
    ∷ "act=1 on=3 do=1"
    ∷ "act=1 on=5 do=1"
    ∷ "act=2 on=6 do=2"
    ∷ "start=1"
    ∷ replicate 14 "choice=1"))
    ≡ ran_text
    (SEND ∷ SEQ ∷ SEND ∷ SEQ ∷ RAISE ∷ SEQ ∷ CALL ∷ RAISE ∷ SEQ ∷ CALL ∷ DEQUEUE ∷ SEQ ∷ ACTION ∷ [])
    UnableToStep 14 13
    (config (
    machine 1 1 (frame 3 (nothing ∷ deferred ∷ action 1 ∷ nothing ∷ nothing ∷ action 2 ∷ []) ∷ frame 2 (nothing ∷ deferred ∷ action 1 ∷ nothing
    ∷ action 1 ∷ deferred ∷ []) ∷ frame 1 (nothing ∷ nothing ∷ nothing ∷ nothing ∷ nothing ∷ nothing ∷ []) ∷ []) [] (vevent 3) undefined [] idle
    (pair 2 undefined ∷ [])
    ∷ []) 2)
unfolding seen answered said below downward tree stars tree_height expr_inside height inside serves expr_serves quietly value onto act step start_config
old_entries = refl

-- Chosen for: an exit put in by a dequeue, a call hides an action beside a transition, a call hands on an action and not a deferral, an own deferral
-- overruled, answer 17.
pub maps_00233_of_seed_2 : seen (text (
    "event=1 type=void"
    ∷ "event=2 type=void"
    ∷ "event=3 type=void"
    ∷ "event=4 type=void"
    ∷ "machine=1"
    ∷ "var=1 of=1 type=bool"
    ∷ "expr=1 kind=star"
    ∷ "expr=2 kind=bool val=1"
    ∷ "expr=3 kind=star"
    ∷ "expr=4 kind=this"
    ∷ "expr=5 kind=bool val=1"
    ∷ "expr=6 kind=this"
    ∷ "expr=7 kind=this"
    ∷ "expr=8 kind=this"
    ∷ "expr=9 kind=this"
    ∷ "expr=10 kind=bool val=1"
    ∷ "expr=11 kind=this"
    ∷ "expr=12 kind=bool val=1"
    ∷ "stmt=1 kind=assign var=1 expr=1"
    ∷ "stmt=2 kind=assert expr=2"
    ∷ "stmt=3 kind=if cond=3 then=0 else=0"
    ∷ "stmt=4 kind=return"
    ∷ "stmt=5 kind=send to=4 event=4 arg=0"
    ∷ "stmt=6 kind=assert expr=5"
    ∷ "stmt=7 kind=send to=6 event=2 arg=0"
    ∷ "stmt=8 kind=send to=7 event=4 arg=0"
    ∷ "stmt=9 kind=return"
    ∷ "stmt=10 kind=seq first=8 second=9"
    ∷ "stmt=11 kind=seq first=7 second=10"
    ∷ "stmt=12 kind=send to=8 event=2 arg=0"
    ∷ "stmt=13 kind=send to=9 event=4 arg=0"
    ∷ "stmt=14 kind=assert expr=10"
    ∷ "stmt=15 kind=seq first=12 second=13"
    ∷ "stmt=16 kind=send to=11 event=1 arg=0"
    ∷ "stmt=17 kind=assert expr=12"
    ∷ "action=1 of=1 do=1"
    ∷ "action=2 of=1 do=2"
    ∷ "action=3 of=1 do=3"
    ∷ "action=4 of=1 do=4"
    ∷ "state=1 of=1 defer=none entry=5 exit=6"
    ∷ "state=2 of=1 defer=none entry=11 exit=0"
    ∷ "state=3 of=1 defer=1,2,4 entry=15 exit=14"
    ∷ "state=4 of=1 defer=1,4 entry=16 exit=17"
    ∷ "step=1 on=4 to=4"
    ∷ "step=2 on=4 to=2"
    ∷ "step=3 on=4 to=2"
    ∷ "step=4 on=3 to=4"
    ∷ "call=1 on=1 to=3"
    ∷ "call=1 on=2 to=4"
    ∷ "call=1 on=3 to=4"
    ∷ "call=2 on=2 to=3"
    ∷ "call=2 on=3 to=3"
    ∷ "call=3 on=3 to=1"
    ∷ "call=4 on=1 to=4"
    ∷ "act=2 on=1 do=2"
    ∷ "act=4 on=1 do=2"
    ∷ "act=4 on=2 do=2"
    ∷ "act=4 on=3 do=2"
    ∷ "act=4 on=4 do=3"
    ∷ "start=1"
    ∷ "choice=1 bits=52" ∷ "choice=1 bits=74" ∷ "choice=1 bits=118" ∷ "choice=1 bits=160" ∷ "choice=1 bits=224" ∷ "choice=1 bits=65" ∷ "choice=1 bits=29"
    ∷ "choice=1 bits=102" ∷ "choice=1 bits=85" ∷ "choice=1 bits=159" ∷ "choice=1 bits=146" ∷ "choice=1 bits=33" ∷ "choice=1 bits=178"
    ∷ "choice=1 bits=185" ∷ "choice=1 bits=229" ∷ "choice=1 bits=128" ∷ "choice=1 bits=91" ∷ "choice=1 bits=108" ∷ "choice=1 bits=126"
    ∷ "choice=1 bits=159" ∷ "choice=1 bits=237" ∷ "choice=1 bits=236" ∷ "choice=1 bits=31" ∷ "choice=1 bits=240" ∷ "choice=1 bits=164"
    ∷ "choice=1 bits=82" ∷ "choice=1 bits=157" ∷ "choice=1 bits=23" ∷ "choice=1 bits=8" ∷ "choice=1 bits=186" ∷ "choice=1 bits=141" ∷ "choice=1 bits=42"
    ∷ "choice=1 bits=76" ∷ "choice=1 bits=49" ∷ "choice=1 bits=149" ∷ "choice=1 bits=148" ∷ "choice=1 bits=123"
    ∷ []))
    ≡ ran_text
    (SEND ∷ DEQUEUE ∷ ASSERT ∷ SEQ ∷ STEP ∷ SEND ∷ DEQUEUE ∷ SEQ ∷ CALL ∷ SEND ∷ DEQUEUE ∷ SEQ ∷ CALL ∷ SEND ∷ DEQUEUE ∷ SEQ ∷ CALL ∷ SEND ∷ DEQUEUE ∷ SEQ
    ∷ CALL ∷ SEND ∷ DEQUEUE ∷ SEQ ∷ CALL ∷ SEND ∷ DEQUEUE ∷ SEQ ∷ CALL ∷ SEND ∷ DEQUEUE ∷ SEQ ∷ CALL ∷ SEND ∷ DEQUEUE ∷ SEQ ∷ [])
    StackFull 37 36
    (config (
    machine 1 1 (frame 4 (nothing ∷ action 2 ∷ nothing ∷ action 3 ∷ []) ∷ frame 4 (nothing ∷ action 2 ∷ nothing ∷ action 3 ∷ []) ∷ frame 4 (nothing
    ∷ action 2 ∷ nothing ∷ action 3 ∷ []) ∷ frame 4 (nothing ∷ action 2 ∷ nothing ∷ action 3 ∷ []) ∷ frame 4 (nothing ∷ action 2 ∷ nothing ∷ action 3
    ∷ []) ∷ frame 4 (nothing ∷ action 2 ∷ nothing ∷ action 3 ∷ []) ∷ frame 4 (nothing ∷ action 2 ∷ nothing ∷ action 3 ∷ []) ∷ frame 4 (nothing ∷ nothing
    ∷ nothing ∷ nothing ∷ []) ∷ []) (undefined ∷ []) (vevent 1) undefined [] (raising 1 undefined) []
    ∷ []) 2)
unfolding seen answered said below downward tree stars tree_height expr_inside height inside serves expr_serves quietly value onto act step start_config
maps_00233_of_seed_2 = refl

-- Chosen for: LEAVE, the second branch, the state's action and not the map's.
pub maps_00332_of_seed_3 : seen (text (
    "event=1 type=void"
    ∷ "event=2 type=void"
    ∷ "event=3 type=void"
    ∷ "event=4 type=void"
    ∷ "machine=1"
    ∷ "var=1 of=1 type=bool"
    ∷ "expr=1 kind=star"
    ∷ "expr=2 kind=bool val=1"
    ∷ "expr=3 kind=star"
    ∷ "expr=4 kind=this"
    ∷ "expr=5 kind=this"
    ∷ "expr=6 kind=this"
    ∷ "expr=7 kind=bool val=1"
    ∷ "expr=8 kind=this"
    ∷ "expr=9 kind=this"
    ∷ "expr=10 kind=this"
    ∷ "expr=11 kind=bool val=1"
    ∷ "expr=12 kind=this"
    ∷ "expr=13 kind=bool val=1"
    ∷ "stmt=1 kind=assign var=1 expr=1"
    ∷ "stmt=2 kind=assert expr=2"
    ∷ "stmt=3 kind=if cond=3 then=0 else=0"
    ∷ "stmt=4 kind=leave"
    ∷ "stmt=5 kind=send to=4 event=2 arg=0"
    ∷ "stmt=6 kind=send to=5 event=3 arg=0"
    ∷ "stmt=7 kind=send to=6 event=4 arg=0"
    ∷ "stmt=8 kind=assert expr=7"
    ∷ "stmt=9 kind=seq first=6 second=7"
    ∷ "stmt=10 kind=seq first=5 second=9"
    ∷ "stmt=11 kind=send to=8 event=4 arg=0"
    ∷ "stmt=12 kind=send to=9 event=2 arg=0"
    ∷ "stmt=13 kind=return"
    ∷ "stmt=14 kind=seq first=12 second=13"
    ∷ "stmt=15 kind=seq first=11 second=14"
    ∷ "stmt=16 kind=send to=10 event=4 arg=0"
    ∷ "stmt=17 kind=raise event=3 arg=0"
    ∷ "stmt=18 kind=assert expr=11"
    ∷ "stmt=19 kind=seq first=16 second=17"
    ∷ "stmt=20 kind=send to=12 event=2 arg=0"
    ∷ "stmt=21 kind=return"
    ∷ "stmt=22 kind=assert expr=13"
    ∷ "stmt=23 kind=seq first=20 second=21"
    ∷ "action=1 of=1 do=1"
    ∷ "action=2 of=1 do=2"
    ∷ "action=3 of=1 do=3"
    ∷ "action=4 of=1 do=4"
    ∷ "state=1 of=1 defer=2 entry=10 exit=8"
    ∷ "state=2 of=1 defer=none entry=15 exit=0"
    ∷ "state=3 of=1 defer=none entry=19 exit=18"
    ∷ "state=4 of=1 defer=none entry=23 exit=22"
    ∷ "step=2 on=3 to=4"
    ∷ "call=1 on=2 to=3"
    ∷ "call=2 on=1 to=2"
    ∷ "act=1 on=1 do=1"
    ∷ "act=1 on=3 do=3"
    ∷ "act=1 on=4 do=1"
    ∷ "act=2 on=2 do=2"
    ∷ "act=2 on=4 do=1"
    ∷ "act=3 on=1 do=4"
    ∷ "act=3 on=3 do=4"
    ∷ "act=3 on=4 do=3"
    ∷ "act=4 on=3 do=3"
    ∷ "start=1"
    ∷ "choice=1 bits=199" ∷ "choice=1 bits=58" ∷ "choice=1 bits=226" ∷ "choice=1 bits=120" ∷ "choice=1 bits=230" ∷ "choice=1 bits=121"
    ∷ "choice=1 bits=186" ∷ "choice=1 bits=213" ∷ "choice=1 bits=192" ∷ "choice=1 bits=217" ∷ "choice=1 bits=203" ∷ "choice=1 bits=96" ∷ "choice=1 bits=8"
    ∷ "choice=1 bits=187" ∷ "choice=1 bits=30" ∷ "choice=1 bits=69" ∷ "choice=1 bits=106" ∷ "choice=1 bits=202" ∷ "choice=1 bits=194" ∷ "choice=1 bits=60"
    ∷ "choice=1 bits=191" ∷ "choice=1 bits=98" ∷ "choice=1 bits=60" ∷ "choice=1 bits=0"
    ∷ []))
    ≡ ran_text
    (SEND ∷ SEQ ∷ SEND ∷ SEQ ∷ SEND ∷ DEQUEUE ∷ SEQ ∷ CALL ∷ SEND ∷ SEQ ∷ RAISE ∷ SEQ ∷ ACTION ∷ LEAVE ∷ DEQUEUE ∷ SEQ ∷ ACTION ∷ LEAVE ∷ DEQUEUE ∷ SEQ
    ∷ ACTION ∷ IF ∷ [])
    UnableToStep 23 22
    (config (
    machine 1 1 (frame 3 (action 1 ∷ nothing ∷ action 3 ∷ action 1 ∷ []) ∷ frame 1 (nothing ∷ nothing ∷ nothing ∷ nothing ∷ []) ∷ []) (undefined ∷ [])
    (vevent 4) undefined [] idle []
    ∷ []) 2)
unfolding seen answered said below downward tree stars tree_height expr_inside height inside serves expr_serves quietly value onto act step start_config
maps_00332_of_seed_3 = refl
