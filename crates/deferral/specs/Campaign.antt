-- A LOST CAMPAIGN, REPLAYED. A clock's controller is evaluating when a new coefficient of its blackbody arrives. It arrives while the controller is
-- settling, for which it was called by a state that defers the event: so the settling state holds the event back by its map alone. A runtime that
-- keeps the callee's map after the return holds it back from then on. Here it is taken, and the new coefficient is in place.
use Rattle.std.specs.Prelude.{ℕ, ◌<◌, ◌≡◌, refl, true, false, List, [], ◌∷◌, ◌++◌, pos, replicate}
use Rattle.std.proofs.Math.Option
use Rattle.std.proofs.Math.Option.{Option, some}
use Rattle.std.proofs.Common.{arith}
use Rattle.lists.specs.Down.{below, downward}
use Rattle.answers.specs.declared.Answer.TheVariants.{UnableToStep}
use Rattle.values.specs.declared.Ty.TheVariants.{Void as void, Int as int, Id as id}
use Rattle.values.specs.declared.Value.{Value}
use Rattle.values.specs.declared.Value.TheVariants.{Int as vint}
use Rattle.programs.specs.declared.Leaf.TheVariants.{Int as int_val, Var as var, Arg as arg}
use Rattle.programs.specs.declared.Expr.TheVariants.{Leaf as leaf}
use Rattle.programs.specs.Program.{Program, State, Move, assign, new, send, return, seq, Deferred}
use Rattle.programs.specs.Trees.{tree, stars, tree_height, expr_inside}
use Rattle.programs.specs.Statements.{height, inside, serves, expr_serves}
use Rattle.soundness.specs.Asked.{quietly}
use Rattle.soundness.specs.Sound.{sound}
use Rattle.runs.specs.Outcome.{refused}
use Rattle.runs.specs.Run.{run, ruled}
use Rattle.machines.specs.Config.{Reply, action, deferred, nothing, Frame, Pair, Config, Choice}
use Rattle.machines.specs.Eval.{value}
use Rattle.machines.specs.Locals.{stacked}
use Rattle.machines.specs.Maps.{call_map, held_back}
use Rattle.machines.specs.Row.{onto}
use Rattle.machines.specs.Rooms.{find, set_local, on, each}
use Rattle.rules.specs.declared.Rule.TheVariants.{ASSIGN, NEW, SEQ, SEND, RETURN, DEQUEUE, STEP, ACTION, CALL, POP2}
use Rattle.rules.specs.Act.{act}
use Rattle.rules.specs.Step.{step, start_config}
use Rattle.deferral.specs.Stacks.{stack_of}
use Rattle.deferral.specs.Returns.{Return, runs_inside_lem, returned}

-- THE PROGRAM
-- Its events: the new coefficient, with its value; and four that carry nothing.
abbrev COEFFICIENT : ℕ
COEFFICIENT = 1

abbrev BEGIN : ℕ
BEGIN = 2

abbrev SETTLE : ℕ
SETTLE = 3

abbrev SETTLED : ℕ
SETTLED = 4

abbrev NEXT : ℕ
NEXT = 5

-- Its kinds of machine: the clock's controller, and the bench that sends to it.
abbrev Clock : ℕ
Clock = 1

abbrev Bench : ℕ
Bench = 2

-- The states of the clock (the bench's only one is 5).
abbrev Standby : ℕ
Standby = 1

abbrev Evaluate : ℕ
Evaluate = 2

abbrev Settling : ℕ
Settling = 3

abbrev Apply : ℕ
Apply = 4

-- Short forms of its lines: a state that defers ds and is entered by s; a move from state n on event e to t.
abbrev state : ℕ → List ℕ → ℕ → State
state k ds s = record { of = k; defer = ds; entry = s; exit = 0 }

abbrev move : ℕ → ℕ → ℕ → Move
move n e t = record { from = n; on = e; to = t }

-- Standby has an action for the coefficient, which the states that it calls inherit: Evaluate, which defers the event, and Apply, to which Evaluate
-- steps and which says nothing of it. Evaluate calls Settling, which says nothing of it either and returns when it is told that all is settled.
abbrev pub campaign : Program
campaign = record {
  events = int ∷ void ∷ void ∷ void ∷ void ∷ [];
  machines = 2;
  variables =
      record { of = Clock; type = int }  -- 1: shift
      ∷ record { of = Bench; type = id }  -- 2: the clock's controller
      ∷ [];
  exprs =
      leaf arg
      ∷ leaf (int_val (pos 25))  -- 2: the new coefficient
      ∷ leaf (var 2)
      ∷ leaf (var 2)
      ∷ leaf (var 2)
      ∷ leaf (var 2)
      ∷ leaf (var 2)
      ∷ [];
  stmts =
      assign 1 1  -- 1: shift := arg
      ∷ return  -- 2
      ∷ new 2 Clock []  -- 3
      ∷ send 3 BEGIN 0  -- 4
      ∷ send 4 SETTLE 0  -- 5
      ∷ send 5 COEFFICIENT 2  -- 6
      ∷ send 6 SETTLED 0  -- 7
      ∷ send 7 NEXT 0  -- 8
      ∷ seq 7 8
      ∷ seq 6 9
      ∷ seq 5 10
      ∷ seq 4 11
      ∷ seq 3 12  -- 13: 3 to 8 in order
      ∷ [];
  actions = record { of = Clock; body = 1 } ∷ record { of = Clock; body = 2 } ∷ [];
  states =
      state Clock [] 0  -- Standby
      ∷ state Clock (COEFFICIENT ∷ []) 0  -- Evaluate
      ∷ state Clock [] 0  -- Settling
      ∷ state Clock [] 0  -- Apply
      ∷ state Bench [] 13
      ∷ [];
  steps = move Evaluate NEXT Apply ∷ [];
  calls = move Standby BEGIN Evaluate ∷ move Evaluate SETTLE Settling ∷ [];
  acts = move Standby COEFFICIENT 1 ∷ move Settling SETTLED 2 ∷ [];
  start = Bench;
}

-- No text is refused for it.
pub campaign_sound : sound campaign ≡ true
unfolding below downward tree stars tree_height expr_inside height inside serves expr_serves quietly sound
campaign_sound = refl

-- THE RUN
-- The live numbers: the bench is started, and creates the clock.
abbrev bench : ℕ
bench = 1

abbrev clock : ℕ
clock = 2

-- A choice of machine i, and n such choices.
abbrev choice : ℕ → Choice
choice i = record { machine = i; bits = 0 }

abbrev times : ℕ → ℕ → List Choice
times n i = replicate n (choice i)

-- The run goes in five stretches. First the bench creates the clock and tells it to begin and to settle; the clock evaluates, and is about to call.
abbrev begins : List Choice
begins = times 5 bench ++ times 5 clock

-- The clock calls Settling, and the bench sends the coefficient.
abbrev arrives : List Choice
arrives = times 1 clock ++ times 2 bench

-- The bench tells that all is settled, and the clock returns.
abbrev settles : List Choice
settles = times 2 bench ++ times 6 clock

-- The bench asks for the next, and the clock steps to Apply.
abbrev steps_on : List Choice
steps_on = times 2 bench ++ times 3 clock

-- The clock takes the coefficient.
abbrev applies : List Choice
applies = times 4 clock

-- The configurations after each of the stretches.
abbrev after : Config → List Choice → Config
after c l = (run (step campaign) c l).config

abbrev begun : Config
begun = after (start_config campaign) begins

abbrev arrived : Config
arrived = after begun arrives

abbrev settled : Config
settled = after arrived settles

abbrev stepped_on : Config
stepped_on = after settled steps_on

abbrev applied : Config
applied = after stepped_on applies

-- The rules of the run in order, a line for each stretch.
pub campaign_rules : ruled (step campaign) (start_config campaign) (begins ++ arrives ++ settles ++ steps_on ++ applies) ≡
    NEW ∷ SEQ ∷ SEND ∷ SEQ ∷ SEND ∷ DEQUEUE ∷ SEQ ∷ CALL ∷ DEQUEUE ∷ SEQ
    ∷ CALL ∷ SEQ ∷ SEND
    ∷ SEQ ∷ SEND ∷ DEQUEUE ∷ SEQ ∷ ACTION ∷ RETURN ∷ SEQ ∷ POP2
    ∷ SEQ ∷ SEND ∷ DEQUEUE ∷ SEQ ∷ STEP
    ∷ DEQUEUE ∷ SEQ ∷ ACTION ∷ ASSIGN
    ∷ []
unfolding below downward tree stars value onto act step start_config
campaign_rules = refl

-- WHAT IS SEEN OF THE CLOCK: its queue, its variables, a frame of its stack, the coefficient as it waits.
abbrev queue_of : Config → Option (List Pair)
queue_of c = Option.map (λ m. m.queue) (find clock c.rooms)

abbrev variables_of : Config → Option (List Value)
variables_of c = Option.map (λ m. m.loc.variables) (find clock c.rooms)

abbrev frame : ℕ → List Reply → Frame
frame n α = record { state = n; map = α }

abbrev new_coefficient : Pair
new_coefficient = record { event = COEFFICIENT; value = vint (pos 25) }

-- Its maps: Standby's, which says nothing; the one that Standby hands to Evaluate, with its action; the one that Evaluate hands to Settling.
abbrev silent : List Reply
silent = nothing ∷ nothing ∷ nothing ∷ nothing ∷ nothing ∷ []

abbrev acting : List Reply
acting = action 1 ∷ nothing ∷ nothing ∷ nothing ∷ nothing ∷ []

abbrev holding : List Reply
holding = deferred ∷ nothing ∷ nothing ∷ nothing ∷ nothing ∷ []

-- They are those that CALL hands over.
pub handed_over : (call_map campaign Standby silent ≡ acting) × (call_map campaign Evaluate acting ≡ holding)
handed_over = (refl, refl)

-- WHILE IT SETTLES the coefficient waits and the clock can do nothing. The event is held back by the map alone: the state does not defer it.
pub while_settling : (stack_of clock arrived ≡ some (frame Settling holding ∷ frame Evaluate acting ∷ frame Standby silent ∷ []))
    × (queue_of arrived ≡ some (new_coefficient ∷ []))
    × (held_back campaign Settling holding COEFFICIENT ≡ true)
    × (Deferred campaign Settling COEFFICIENT ≡ false)
    × (step campaign arrived (choice clock) ≡ refused UnableToStep)
unfolding below downward tree stars value onto act step start_config
while_settling = (refl, refl, refl, refl, refl)

-- The call of Settling and the return from it, for the theorem of Returns.antt.
the_return : Return campaign clock begun settled
unfolding below downward tree stars value onto act step start_config
the_return = record {
  bits = 0;
  called = after begun (times 1 clock);
  calls = refl;
  choices = times 2 bench ++ settles;
  inside = runs_inside_lem campaign clock 2 (after begun (times 1 clock)) (times 2 bench ++ settles) refl;
  back = refl;
}

clock_given : clock < begun.next
unfolding below downward tree stars value onto act step start_config
clock_given = omega arith

-- AFTER THE RETURN the stack is the caller's own again, by the theorem: with the map that has Standby's action for the coefficient.
pub after_the_return : stack_of clock settled ≡ stack_of clock begun
after_the_return = returned campaign clock begun settled the_return clock_given

-- IN APPLY, which says nothing of the event, it is held back no longer.
pub in_apply : (stack_of clock stepped_on ≡ some (frame Apply acting ∷ frame Standby silent ∷ []))
    × (queue_of stepped_on ≡ some (new_coefficient ∷ []))
    × (held_back campaign Apply acting COEFFICIENT ≡ false)
unfolding below downward tree stars value onto act step start_config
in_apply = (refl, refl, refl)

-- AT THE END the new coefficient is in place and nothing waits.
pub at_the_end : (variables_of applied ≡ some (vint (pos 25) ∷ [])) × (queue_of applied ≡ some [])
unfolding below downward tree stars value onto act step start_config
at_the_end = (refl, refl)

-- THE MISREADING. Had the return left the callee's map on top, the step to Apply would have kept it.
abbrev misread : Config
misread = record {
  rooms = each (on clock (λ m. set_local (stacked (frame Apply holding ∷ frame Standby silent ∷ []) m.loc) m)) stepped_on.rooms;
  next = stepped_on.next;
}

-- There the new coefficient would wait, held back by the map, and the clock could do nothing.
pub lost : (held_back campaign Apply holding COEFFICIENT ≡ true)
    × (queue_of misread ≡ some (new_coefficient ∷ []))
    × (step campaign misread (choice clock) ≡ refused UnableToStep)
unfolding below downward tree stars value onto act step start_config
lost = (refl, refl, refl)
