-- `checked_stacks::frames_ok` meets its contract: the depth, the states, the maps. Assumes nothing.
use Rattle.std.specs.Prelude.{◌≤◌, ◌*◌, get_or, refl}
use Rattle.std.proofs.Common.{arith}
use Rattle.lists.specs.Tells.{Tells, form, at_most_lem, second, first_only}
use Rattle.checked_stacks.specs.CheckedStacks.{StatesFit, stack_told}
use Rattle.checked_stacks.proofs.frames_ok.Goals.{Joined-depth-le-STACK, then-depth-le-STACK, else-depth-le-STACK}
use Rattle.checked_stacks.proofs.frames_ok.Goals as goal

-- the depth and the states
two : (c : Joined-depth-le-STACK) → Tells c.if-depth-le-STACK.value ((get_or c.args.flat.now.depths c.args.i 0 ≤ 8)
    × StatesFit c.args.program.now.state_of c.args.flat.now.states (get_or c.args.flat.now.kinds c.args.i 0) (get_or c.args.flat.now.depths c.args.i 0) (c.args.i * 8))
two c = elim c.if-depth-le-STACK.branch [
  | then-depth-le-STACK w ↦ rw w.value-is (form w.states_fit.ensures (λ s. (w.if-depth-le-STACK.true, s)) (λ h. h.1))
  | else-depth-le-STACK w ↦ rw w.value-is (form (at_most_lem _ 8) (λ l. absurd (omega (arith, l, w.if-depth-le-STACK.false))) (λ h. h.0))
]

pub returns-then-states_fit : goal.returns-then-states_fit
returns-then-states_fit c =
    let f = c.args.flat.now in
    let q = c.args.program.now in
    rw c.event_count-events.ensures at
    (stack_told q.«state_of» q.«action_of» f.states f.maps c.args.i (get_or f.depths c.args.i 0) (get_or f.kinds c.args.i 0) c.event_count-events.result (rw c.event_count-events.ensures c.requires)
    (form (second (two (goal.at.returns-then-states_fit c).Joined-depth-le-STACK) c.if-states_fit.true refl c.maps_fit.ensures) (λ h. record { few = h.0.0; with_states = h.0.1; with_maps = h.1 }) (λ h. ((h.few, h.with_states), h.with_maps))))

pub returns-else-states_fit : goal.returns-else-states_fit
returns-else-states_fit c =
    let f = c.args.flat.now in
    let q = c.args.program.now in
    rw c.event_count-events.ensures at
    (stack_told q.«state_of» q.«action_of» f.states f.maps c.args.i (get_or f.depths c.args.i 0) (get_or f.kinds c.args.i 0) c.event_count-events.result (rw c.event_count-events.ensures c.requires)
    (form (first_only (two (goal.at.returns-else-states_fit c).Joined-depth-le-STACK) c.if-states_fit.false refl) (λ h. record { few = h.0.0; with_states = h.0.1; with_maps = h.1 }) (λ h. ((h.few, h.with_states), h.with_maps))))
