-- `pended::pend_on` meets its contract: each way out is the law of specs/Pended.antt at what the rule's function leaves. Assumes nothing.
use Rattle.pended.specs.Pended.{pend_deep, asked_here, return_asked, step_asked, call_asked, action_asked, raise_asked, pend_return, pend_step, pend_call, pend_action, pend_raise}
use Rattle.pended.proofs.pend_on.Goals as goal

pub pop2_on-requires : goal.pop2_on-requires
pop2_on-requires c =
    return_asked c.requires

pub returns-then-x-eq1 : goal.returns-then-x-eq1
returns-then-x-eq1 c =
    pend_return c.if-x-eq1.true _ _ _ _ _ c.pop2_on.ensures

pub top_state-n-requires : goal.top_state-n-requires
top_state-n-requires c =
    (_, pend_deep c.requires)

pub top_map-b-requires : goal.top_map-b-requires
top_map-b-requires c =
    (_, (_, pend_deep c.requires))

pub turn_of-requires : goal.turn_of-requires
turn_of-requires c =
    rw (c.top_map-b.ensures, c.top_state-n.ensures, c.event_of.ensures) (asked_here c.requires c.if-x-eq1.false)

pub step_on-requires : goal.step_on-requires
step_on-requires c =
    step_asked c.requires

pub call_on-requires : goal.call_on-requires
call_on-requires c =
    call_asked c.requires _ c.event_count-events.ensures

pub action_on-requires : goal.action_on-requires
action_on-requires c =
    action_asked c.requires

pub pop1_on-requires : goal.pop1_on-requires
pop1_on-requires c =
    raise_asked c.requires c.if-x-eq1.false

pub returns-in-Step : goal.returns-in-Step
returns-in-Step c =
    pend_step c.if-x-eq1.false _ (rw (c.top_map-b.ensures, c.top_state-n.ensures, c.event_of.ensures) at c.turn_of.ensures) _ c.in-Step.is _ _ _ _ _ c.step_on.ensures

pub returns-in-Call : goal.returns-in-Call
returns-in-Call c =
    pend_call c.if-x-eq1.false _ (rw (c.top_map-b.ensures, c.top_state-n.ensures, c.event_of.ensures) at c.turn_of.ensures) _ _ c.in-Call.is c.event_count-events.ensures _ _ _ _ _ _ _ c.call_on.ensures

pub returns-in-Act : goal.returns-in-Act
returns-in-Act c =
    pend_action c.if-x-eq1.false _ (rw (c.top_map-b.ensures, c.top_state-n.ensures, c.event_of.ensures) at c.turn_of.ensures) _ c.in-Act.is _ _ _ _ c.action_on.ensures

pub returns-in-Pop : goal.returns-in-Pop
returns-in-Pop c =
    pend_raise c.if-x-eq1.false _ (rw (c.top_map-b.ensures, c.top_state-n.ensures, c.event_of.ensures) at c.turn_of.ensures) c.in-Pop.is _ _ _ _ c.pop1_on.ensures
