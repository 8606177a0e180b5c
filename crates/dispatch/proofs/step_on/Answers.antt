-- `dispatch::step_on` meets its contract, a case for each way out.
use Rattle.std.proofs.Common.{ℕ, ◌≡◌, subst, List, Option, Err, rules}
use Rattle.answers.specs.declared.Answer.TheVariants.{UnableToStep}
use Rattle.rooms.specs.Places.{Found}
use Rattle.dispatch.specs.Dispatch.{step_zero, step_none, step_empty, head_asked, step_head, pend_asked, step_pends, dequeue_asked, step_dequeues}
use Rattle.dispatch.proofs.step_on.Goals as goal

pub returns-then-i-eq0 : goal.returns-then-i-eq0
returns-then-i-eq0 c = λ a. step_zero a _ c.if-i-eq0.true

-- the room that is found
found : (ids : List ℕ) (i : ℕ) {o q : Option ℕ} → Found ids i o → o ≡ q → Found ids i q
found ids i f e = subst (Found ids i) e f

pub returns-in_err-k : goal.returns-in_err-k
returns-in_err-k c = λ a.
    let r : c.from_residual.result ≡ Err UnableToStep = search rules in
    rw r (step_none a _ c.if-i-eq0.false (found c.args.flat.now.ids c.args.i c.find_room.ensures c.in_err-k.ensures.ok_part))

pub returns-then-flat-k-eq0 : goal.returns-then-flat-k-eq0
returns-then-flat-k-eq0 c =
    λ a. step_empty a _ _ c.if-i-eq0.false (found c.args.flat.now.ids c.args.i c.find_room.ensures c.in_ok-k.ensures.ok_part) c.if-flat-k-eq0.true

pub head_on-requires : goal.head_on-requires
head_on-requires c =
    head_asked c.requires _ _ c.if-i-eq0.false (found c.args.flat.now.ids c.args.i c.find_room.ensures c.in_ok-k.ensures.ok_part) c.if-flat-k-eq0.false c.if-flat-k-ne0.true

pub returns-then-flat-k-ne0 : goal.returns-then-flat-k-ne0
returns-then-flat-k-ne0 c =
    λ a. step_head a _ _ c.if-i-eq0.false (found c.args.flat.now.ids c.args.i c.find_room.ensures c.in_ok-k.ensures.ok_part) c.if-flat-k-eq0.false c.if-flat-k-ne0.true _ _
    (c.head_on.ensures (head_asked a _ _ c.if-i-eq0.false (found c.args.flat.now.ids c.args.i c.find_room.ensures c.in_ok-k.ensures.ok_part) c.if-flat-k-eq0.false c.if-flat-k-ne0.true))

pub pend_on-requires : goal.pend_on-requires
pend_on-requires c =
    pend_asked c.requires _ _ c.if-i-eq0.false (found c.args.flat.now.ids c.args.i c.find_room.ensures c.in_ok-k.ensures.ok_part) c.if-flat-k-eq0.false c.if-flat-k-ne0.false c.if-flat-k-ne0-2.true

pub returns-then-flat-k-ne0-2 : goal.returns-then-flat-k-ne0-2
returns-then-flat-k-ne0-2 c =
    λ a. step_pends a _ _ c.if-i-eq0.false (found c.args.flat.now.ids c.args.i c.find_room.ensures c.in_ok-k.ensures.ok_part) c.if-flat-k-eq0.false c.if-flat-k-ne0.false _ _
    (c.pend_on.ensures (pend_asked a _ _ c.if-i-eq0.false (found c.args.flat.now.ids c.args.i c.find_room.ensures c.in_ok-k.ensures.ok_part) c.if-flat-k-eq0.false c.if-flat-k-ne0.false c.if-flat-k-ne0-2.true) c.args.w)

pub dequeue_on-requires : goal.dequeue_on-requires
dequeue_on-requires c =
    dequeue_asked c.requires _ _ c.if-i-eq0.false (found c.args.flat.now.ids c.args.i c.find_room.ensures c.in_ok-k.ensures.ok_part) c.if-flat-k-eq0.false c.if-flat-k-ne0.false

pub returns : goal.returns
returns c =
    λ a. step_dequeues a _ _ c.if-i-eq0.false (found c.args.flat.now.ids c.args.i c.find_room.ensures c.in_ok-k.ensures.ok_part) c.if-flat-k-eq0.false c.if-flat-k-ne0.false c.if-flat-k-ne0-2.false _ _
    (c.dequeue_on.ensures (dequeue_asked a _ _ c.if-i-eq0.false (found c.args.flat.now.ids c.args.i c.find_room.ensures c.in_ok-k.ensures.ok_part) c.if-flat-k-eq0.false c.if-flat-k-ne0.false))
