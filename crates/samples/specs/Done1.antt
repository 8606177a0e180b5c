-- Samples: runs that take every choice. Written by `python3 second/statements.py --write crates/samples/specs`, and not to be edited by hand.
use Rattle.std.specs.Prelude.{◌≡◌, refl, true, false, [], ◌∷◌, ◌++◌, pos, negsuc, replicate}
use Rattle.std.proofs.Math.Option.{none}
use Rattle.lists.specs.Down.{below, downward}
use Rattle.answers.specs.declared.Answer.TheVariants.{Done}
use Rattle.values.specs.declared.Value.TheVariants.{Undefined as undefined, Bool as vbool, Int as vint, Event as vevent}
use Rattle.values.specs.Values.{id_of}
use Rattle.programs.specs.Trees.{tree, stars, tree_height, expr_inside}
use Rattle.programs.specs.Statements.{height, inside, serves, expr_serves}
use Rattle.soundness.specs.Asked.{quietly}
use Rattle.machines.specs.Config.{action, nothing, idle}
use Rattle.machines.specs.Eval.{value}
use Rattle.machines.specs.Row.{onto}
use Rattle.rules.specs.declared.Rule.TheVariants.{ASSIGN, NEW, DELETE, ASSERT, SEQ, SEND, RAISE, LEAVE, RETURN, DEQUEUE, STEP, ACTION, CALL, POP1, POP2}
use Rattle.rules.specs.Act.{act}
use Rattle.rules.specs.Step.{step, start_config}
use Rattle.texts.specs.Bytes.{text}
use Rattle.texts.specs.Forms.{said}
use Rattle.texts.specs.Answered.{answered}
use Rattle.samples.specs.Seen.{seen, ran_text, frame, machine, config}

-- A machine is created with `init`, is sent its creator's id, and sends an int back to `arg`.
pub there_and_back : seen (text (
    "event=1 type=id"
    ∷ "event=2 type=int"
    ∷ "machine=1"
    ∷ "machine=2"
    ∷ "var=1 of=1 type=id"
    ∷ "var=2 of=1 type=int"
    ∷ "var=3 of=2 type=int"
    ∷ "var=4 of=2 type=id"
    ∷ "expr=1 kind=int val=5"
    ∷ "expr=2 kind=this"
    ∷ "expr=3 kind=var var=1"
    ∷ "expr=4 kind=this"
    ∷ "expr=5 kind=arg"
    ∷ "expr=6 kind=var var=3"
    ∷ "expr=7 kind=neg a=6"
    ∷ "expr=8 kind=arg"
    ∷ "stmt=1 kind=new var=1 machine=2 init=3:1,4:2"
    ∷ "stmt=2 kind=send to=3 event=1 arg=4"
    ∷ "stmt=3 kind=seq first=1 second=2"
    ∷ "stmt=4 kind=send to=5 event=2 arg=7"
    ∷ "stmt=5 kind=assign var=2 expr=8"
    ∷ "action=1 of=2 do=4"
    ∷ "action=2 of=1 do=5"
    ∷ "state=1 of=1 defer=none entry=3 exit=0"
    ∷ "state=2 of=2 defer=none entry=0 exit=0"
    ∷ "act=1 on=2 do=2"
    ∷ "act=2 on=1 do=1"
    ∷ "start=1"
    ∷ "choice=1" ∷ "choice=1" ∷ "choice=1" ∷ replicate 4 "choice=2" ++ replicate 4 "choice=1"))
    ≡ ran_text
    (NEW ∷ SEQ ∷ SEND ∷ DEQUEUE ∷ SEQ ∷ ACTION ∷ SEND ∷ DEQUEUE ∷ SEQ ∷ ACTION ∷ ASSIGN ∷ [])
    Done 0 11
    (config (
    machine 1 1 (frame 1 (nothing ∷ nothing ∷ []) ∷ []) (id_of 2 ∷ vint (negsuc 4) ∷ []) (vevent 2) (vint (negsuc 4)) [] idle []
    ∷ machine 2 2 (frame 2 (nothing ∷ nothing ∷ []) ∷ []) (vint (pos 5) ∷ id_of 1 ∷ []) (vevent 1) (id_of 1) [] idle []
    ∷ []) 3)
unfolding seen answered said below downward tree stars tree_height expr_inside height inside serves expr_serves quietly value onto act step start_config
there_and_back = refl

-- The last configuration has a free room between two machines, and a pair went with the machine.
pub a_room_in_between : seen (text (
    "event=1 type=bool"
    ∷ "machine=1"
    ∷ "machine=2"
    ∷ "var=1 of=1 type=id"
    ∷ "var=2 of=1 type=id"
    ∷ "expr=1 kind=var var=1"
    ∷ "expr=2 kind=star"
    ∷ "stmt=1 kind=new var=1 machine=2 init=none"
    ∷ "stmt=2 kind=new var=2 machine=2 init=none"
    ∷ "stmt=3 kind=send to=1 event=1 arg=2"
    ∷ "stmt=4 kind=seq first=2 second=3"
    ∷ "stmt=5 kind=seq first=1 second=4"
    ∷ "stmt=6 kind=delete"
    ∷ "state=1 of=1 defer=none entry=5 exit=0"
    ∷ "state=2 of=2 defer=none entry=6 exit=0"
    ∷ "start=1"
    ∷ replicate 4 "choice=1" ++ "choice=1 bits=1" ∷ "choice=2"
    ∷ []))
    ≡ ran_text
    (NEW ∷ SEQ ∷ NEW ∷ SEQ ∷ SEND ∷ DELETE ∷ [])
    Done 0 6
    (config (
    machine 1 1 (frame 1 (nothing ∷ []) ∷ []) (id_of 2 ∷ id_of 3 ∷ []) undefined undefined [] idle []
    ∷ none
    ∷ machine 3 2 (frame 2 (nothing ∷ []) ∷ []) [] undefined undefined (6 ∷ []) idle []
    ∷ []) 4)
unfolding seen answered said below downward tree stars tree_height expr_inside height inside serves expr_serves quietly value onto act step start_config
a_room_in_between = refl

-- "After POP1 no further exit is put in": the exit of state 3 runs, that of state 2 does not. The step keeps the first map.
pub pop1_through_two_frames : seen (text (
    "event=1 type=void"
    ∷ "event=2 type=int"
    ∷ "machine=1"
    ∷ "var=1 of=1 type=int"
    ∷ "expr=1 kind=bool val=0"
    ∷ "expr=2 kind=int val=7"
    ∷ "expr=3 kind=bool val=1"
    ∷ "expr=4 kind=arg"
    ∷ "stmt=1 kind=raise event=1 arg=0"
    ∷ "stmt=2 kind=raise event=1 arg=0"
    ∷ "stmt=3 kind=raise event=2 arg=2"
    ∷ "stmt=4 kind=assert expr=1"
    ∷ "stmt=5 kind=assert expr=3"
    ∷ "stmt=6 kind=assign var=1 expr=4"
    ∷ "state=1 of=1 defer=none entry=1 exit=0"
    ∷ "state=2 of=1 defer=none entry=2 exit=4"
    ∷ "state=3 of=1 defer=none entry=3 exit=5"
    ∷ "state=4 of=1 defer=none entry=6 exit=0"
    ∷ "step=1 on=2 to=4"
    ∷ "call=1 on=1 to=2"
    ∷ "call=2 on=1 to=3"
    ∷ "start=1"
    ∷ replicate 13 "choice=1"))
    ≡ ran_text
    (RAISE ∷ SEQ ∷ CALL ∷ RAISE ∷ SEQ ∷ CALL ∷ RAISE ∷ ASSERT ∷ SEQ ∷ POP1 ∷ POP1 ∷ STEP ∷ ASSIGN ∷ [])
    Done 0 13
    (config (
    machine 1 1 (frame 4 (nothing ∷ nothing ∷ []) ∷ []) (vint (pos 7) ∷ []) (vevent 2) (vint (pos 7)) [] idle []
    ∷ []) 2)
unfolding seen answered said below downward tree stars tree_height expr_inside height inside serves expr_serves quietly value onto act step start_config
pop1_through_two_frames = refl

-- State 2 defers event 2 and hands that on, so that a raise of 2 pops state 3. State 2's own map has the action of state 1 for it.
pub an_action_behind_pop1 : seen (text (
    "event=1 type=void"
    ∷ "event=2 type=event"
    ∷ "machine=1"
    ∷ "var=1 of=1 type=event"
    ∷ "expr=1 kind=msg"
    ∷ "expr=2 kind=arg"
    ∷ "stmt=1 kind=raise event=1 arg=0"
    ∷ "stmt=2 kind=raise event=1 arg=0"
    ∷ "stmt=3 kind=raise event=2 arg=1"
    ∷ "stmt=4 kind=assign var=1 expr=2"
    ∷ "action=1 of=1 do=4"
    ∷ "state=1 of=1 defer=none entry=1 exit=0"
    ∷ "state=2 of=1 defer=2 entry=2 exit=0"
    ∷ "state=3 of=1 defer=none entry=3 exit=0"
    ∷ "call=1 on=1 to=2"
    ∷ "call=2 on=1 to=3"
    ∷ "act=1 on=2 do=1"
    ∷ "start=1"
    ∷ replicate 11 "choice=1"))
    ≡ ran_text
    (RAISE ∷ SEQ ∷ CALL ∷ RAISE ∷ SEQ ∷ CALL ∷ RAISE ∷ SEQ ∷ POP1 ∷ ACTION ∷ ASSIGN ∷ [])
    Done 0 11
    (config (
    machine 1 1 (frame 2 (nothing ∷ action 1 ∷ []) ∷ frame 1 (nothing ∷ nothing ∷ []) ∷ []) (vevent 1 ∷ []) (vevent 2) (vevent 1) [] idle []
    ∷ []) 2)
unfolding seen answered said below downward tree stars tree_height expr_inside height inside serves expr_serves quietly value onto act step start_config
an_action_behind_pop1 = refl

-- "A pop brings back the caller's own" map. State 2 has the action of state 1 in its map and steps to state 3 with it; in state 1 again, a pair of event
-- 2 finds the state's own action.
pub a_return : seen (text (
    "event=1 type=void"
    ∷ "event=2 type=void"
    ∷ "event=3 type=void"
    ∷ "machine=1"
    ∷ "expr=1 kind=this"
    ∷ "expr=2 kind=this"
    ∷ "expr=3 kind=bool val=1"
    ∷ "stmt=1 kind=send to=1 event=3 arg=0"
    ∷ "stmt=2 kind=raise event=1 arg=0"
    ∷ "stmt=3 kind=seq first=1 second=2"
    ∷ "stmt=4 kind=send to=2 event=2 arg=0"
    ∷ "stmt=5 kind=return"
    ∷ "stmt=6 kind=seq first=4 second=5"
    ∷ "stmt=7 kind=assert expr=3"
    ∷ "action=1 of=1 do=7"
    ∷ "state=1 of=1 defer=3 entry=3 exit=0"
    ∷ "state=2 of=1 defer=none entry=0 exit=0"
    ∷ "state=3 of=1 defer=none entry=6 exit=0"
    ∷ "step=2 on=3 to=3"
    ∷ "call=1 on=1 to=2"
    ∷ "act=1 on=2 do=1"
    ∷ "start=1"
    ∷ replicate 16 "choice=1"))
    ≡ ran_text
    (SEND ∷ SEQ ∷ RAISE ∷ SEQ ∷ CALL ∷ DEQUEUE ∷ SEQ ∷ STEP ∷ SEND ∷ SEQ ∷ RETURN ∷ SEQ ∷ POP2 ∷ DEQUEUE ∷ SEQ ∷ ACTION ∷ [])
    Done 0 16
    (config (
    machine 1 1 (frame 1 (nothing ∷ nothing ∷ nothing ∷ []) ∷ []) [] (vevent 2) undefined (7 ∷ []) idle []
    ∷ []) 2)
unfolding seen answered said below downward tree stars tree_height expr_inside height inside serves expr_serves quietly value onto act step start_config
a_return = refl

-- "RAISE, LEAVE and RETURN drop the rest of the row": a false assertion behind each of them.
pub the_rest_is_dropped : seen (text (
    "event=1 type=void"
    ∷ "event=2 type=void"
    ∷ "machine=1"
    ∷ "expr=1 kind=this"
    ∷ "expr=2 kind=bool val=0"
    ∷ "expr=3 kind=bool val=0"
    ∷ "expr=4 kind=bool val=0"
    ∷ "stmt=1 kind=send to=1 event=2 arg=0"
    ∷ "stmt=2 kind=raise event=1 arg=0"
    ∷ "stmt=3 kind=assert expr=2"
    ∷ "stmt=4 kind=seq first=2 second=3"
    ∷ "stmt=5 kind=seq first=1 second=4"
    ∷ "stmt=6 kind=leave"
    ∷ "stmt=7 kind=assert expr=3"
    ∷ "stmt=8 kind=seq first=6 second=7"
    ∷ "stmt=9 kind=return"
    ∷ "stmt=10 kind=assert expr=4"
    ∷ "stmt=11 kind=seq first=9 second=10"
    ∷ "state=1 of=1 defer=none entry=5 exit=0"
    ∷ "state=2 of=1 defer=none entry=8 exit=0"
    ∷ "state=3 of=1 defer=none entry=11 exit=0"
    ∷ "step=2 on=2 to=3"
    ∷ "call=1 on=1 to=2"
    ∷ "start=1"
    ∷ replicate 12 "choice=1"))
    ≡ ran_text
    (SEND ∷ SEQ ∷ RAISE ∷ SEQ ∷ CALL ∷ LEAVE ∷ DEQUEUE ∷ SEQ ∷ STEP ∷ RETURN ∷ SEQ ∷ POP2 ∷ [])
    Done 0 12
    (config (
    machine 1 1 (frame 1 (nothing ∷ nothing ∷ []) ∷ []) [] (vevent 2) undefined [] idle []
    ∷ []) 2)
unfolding seen answered said below downward tree stars tree_height expr_inside height inside serves expr_serves quietly value onto act step start_config
the_rest_is_dropped = refl

-- 2147483647+1 and neg -2147483648 are undefined; -2147483647-1 is the least int; false and undefined is undefined.
pub edges_of_ints : seen (text (
    "machine=1"
    ∷ "var=1 of=1 type=int"
    ∷ "var=2 of=1 type=int"
    ∷ "var=3 of=1 type=int"
    ∷ "var=4 of=1 type=bool"
    ∷ "var=5 of=1 type=bool"
    ∷ "var=6 of=1 type=bool"
    ∷ "expr=1 kind=int val=2147483647"
    ∷ "expr=2 kind=int val=1"
    ∷ "expr=3 kind=add a=1 b=2"
    ∷ "expr=4 kind=int val=-2147483648"
    ∷ "expr=5 kind=neg a=4"
    ∷ "expr=6 kind=int val=-2147483647"
    ∷ "expr=7 kind=int val=1"
    ∷ "expr=8 kind=sub a=6 b=7"
    ∷ "expr=9 kind=bool val=0"
    ∷ "expr=10 kind=bot"
    ∷ "expr=11 kind=and a=9 b=10"
    ∷ "expr=12 kind=bool val=0"
    ∷ "expr=13 kind=int val=1"
    ∷ "expr=14 kind=not a=13"
    ∷ "expr=15 kind=not a=12"
    ∷ "expr=16 kind=or a=14 b=15"
    ∷ "expr=17 kind=int val=3"
    ∷ "expr=18 kind=bool val=1"
    ∷ "expr=19 kind=bool val=0"
    ∷ "expr=20 kind=and a=18 b=19"
    ∷ "stmt=1 kind=assign var=1 expr=17"
    ∷ "stmt=2 kind=assign var=1 expr=3"
    ∷ "stmt=3 kind=assign var=2 expr=5"
    ∷ "stmt=4 kind=assign var=3 expr=8"
    ∷ "stmt=5 kind=assign var=4 expr=11"
    ∷ "stmt=6 kind=assign var=5 expr=16"
    ∷ "stmt=7 kind=seq first=1 second=2"
    ∷ "stmt=8 kind=seq first=7 second=3"
    ∷ "stmt=9 kind=seq first=8 second=4"
    ∷ "stmt=10 kind=seq first=9 second=5"
    ∷ "stmt=11 kind=seq first=10 second=6"
    ∷ "stmt=12 kind=assign var=6 expr=20"
    ∷ "stmt=13 kind=seq first=11 second=12"
    ∷ "state=1 of=1 defer=none entry=13 exit=0"
    ∷ "start=1"
    ∷ replicate 13 "choice=1"))
    ≡ ran_text
    (ASSIGN ∷ SEQ ∷ ASSIGN ∷ SEQ ∷ ASSIGN ∷ SEQ ∷ ASSIGN ∷ SEQ ∷ ASSIGN ∷ SEQ ∷ ASSIGN ∷ SEQ ∷ ASSIGN ∷ [])
    Done 0 13
    (config (
    machine 1 1 (frame 1 [] ∷ []) (undefined ∷ undefined ∷ vint (negsuc 2147483647) ∷ undefined ∷ undefined ∷ vbool false ∷ []) undefined undefined []
    idle []
    ∷ []) 2)
unfolding seen answered said below downward tree stars tree_height expr_inside height inside serves expr_serves quietly value onto act step start_config
edges_of_ints = refl

-- "counted from 0 left to right": over the values of `init`, whatever the numbers of the expressions.
pub stars_over_init : seen (text (
    "machine=1"
    ∷ "var=1 of=1 type=id"
    ∷ "var=2 of=1 type=bool"
    ∷ "var=3 of=1 type=bool"
    ∷ "var=4 of=1 type=bool"
    ∷ "expr=1 kind=star"
    ∷ "expr=2 kind=star"
    ∷ "expr=3 kind=star"
    ∷ "expr=4 kind=star"
    ∷ "expr=5 kind=not a=2"
    ∷ "expr=6 kind=or a=4 b=1"
    ∷ "stmt=1 kind=new var=1 machine=1 init=2:6,3:3,4:5"
    ∷ "state=1 of=1 defer=none entry=1 exit=0"
    ∷ "start=1"
    ∷ "choice=1 bits=2" ∷ "choice=2 bits=12" ∷ "choice=3 bits=4"
    ∷ []))
    ≡ ran_text
    (NEW ∷ NEW ∷ NEW ∷ [])
    Done 0 3
    (config (
    machine 1 1 (frame 1 [] ∷ []) (id_of 2 ∷ undefined ∷ undefined ∷ undefined ∷ []) undefined undefined [] idle []
    ∷ machine 2 1 (frame 1 [] ∷ []) (id_of 3 ∷ vbool true ∷ vbool false ∷ vbool true ∷ []) undefined undefined [] idle []
    ∷ machine 3 1 (frame 1 [] ∷ []) (id_of 4 ∷ vbool false ∷ vbool true ∷ vbool false ∷ []) undefined undefined [] idle []
    ∷ machine 4 1 (frame 1 [] ∷ []) (undefined ∷ vbool false ∷ vbool true ∷ vbool true ∷ []) undefined undefined (1 ∷ []) idle []
    ∷ []) 5)
unfolding seen answered said below downward tree stars tree_height expr_inside height inside serves expr_serves quietly value onto act step start_config
stars_over_init = refl
