-- `sending::send_to` meets its contract: each way out is one of specs/Asked.antt. Assumes nothing.
use Rattle.std.proofs.Common.{ℕ, ◌<◌, ◌≡◌, refl, sym, ◌∙◌, subst, List, Option, Some, Err, arith, rules}
use Rattle.answers.specs.declared.Answer.TheVariants.{SendToNotLive}
use Rattle.rooms.specs.Places.{First, Found}
use Rattle.sending.specs.Asked.{send_readable, send_headed, rest_bits, to_not_live, to_ready, to_wrong, to_full, to_done}
use Rattle.sending.proofs.send_to.Goals as goal

-- what is found, where a place is
there : {o : Option ℕ} {to : ℕ} (ids : List ℕ) (i : ℕ) → Found ids i o → o ≡ Some to → (to < 32) × First ids i to
there ids i f e = subst (Found ids i) e f

-- a place of 32
live : (to : ℕ) → to < 32 → to ≡ 32 → ⊥
live to h e = omega arith

pub returns-in_err-to : goal.returns-in_err-to
returns-in_err-to c = λ q.
    let r : c.from_residual.result ≡ Err SendToNotLive = search rules in
    rw r (to_not_live q 32 (subst (Found c.args.ids.now c.args.i) c.in_err-to.ensures.ok_part c.find_room.ensures) refl)

pub number-x-requires : goal.number-x-requires
number-x-requires c = (send_readable c.requires.asked, rest_bits c.requires)

pub returns-then-not-suits : goal.returns-then-not-suits
returns-then-not-suits c =
    λ q. to_wrong q c.in_ok-to.to (there c.args.ids.now c.args.i c.find_room.ensures c.in_ok-to.ensures.ok_part).1 (live c.in_ok-to.to (there c.args.ids.now c.args.i c.find_room.ensures c.in_ok-to.ensures.ok_part).0) _ refl
    (sym c.if-not-suits.true ∙ rw (c.event_type-ty.ensures, c.from.ensures, c.value_of.ensures, c.number-x.ensures) at c.suits.ensures)

pub put_on-requires : goal.put_on-requires
put_on-requires c =
    to_ready c.requires c.in_ok-to.to (there c.args.ids.now c.args.i c.find_room.ensures c.in_ok-to.ensures.ok_part).1 (live c.in_ok-to.to (there c.args.ids.now c.args.i c.find_room.ensures c.in_ok-to.ensures.ok_part).0)

pub returns-then-not-put_on : goal.returns-then-not-put_on
returns-then-not-put_on c =
    λ q. to_full q c.in_ok-to.to (there c.args.ids.now c.args.i c.find_room.ensures c.in_ok-to.ensures.ok_part).1 (live c.in_ok-to.to (there c.args.ids.now c.args.i c.find_room.ensures c.in_ok-to.ensures.ok_part).0) _ refl _ (omega (arith, c.pair_number-pair.ensures, c.number-x.ensures))
    (sym c.if-not-suits.false ∙ rw (c.event_type-ty.ensures, c.from.ensures, c.value_of.ensures, c.number-x.ensures) at c.suits.ensures) _ _
    (rw c.if-not-put_on.true at c.put_on.ensures)

pub finish_head-requires : goal.finish_head-requires
finish_head-requires c = send_headed c.requires.asked

pub returns : goal.returns
returns c =
    λ q. to_done q c.in_ok-to.to (there c.args.ids.now c.args.i c.find_room.ensures c.in_ok-to.ensures.ok_part).1 (live c.in_ok-to.to (there c.args.ids.now c.args.i c.find_room.ensures c.in_ok-to.ensures.ok_part).0) _ refl _ (omega (arith, c.pair_number-pair.ensures, c.number-x.ensures))
    (sym c.if-not-suits.false ∙ rw (c.event_type-ty.ensures, c.from.ensures, c.value_of.ensures, c.number-x.ensures) at c.suits.ensures) _ _ _ _ _ refl
    (rw c.if-not-put_on.false at c.put_on.ensures) c.finish_head.ensures
