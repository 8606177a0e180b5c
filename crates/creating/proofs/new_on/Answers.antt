-- `creating::new_on` meets its contract: each way out is one of specs/Asked.antt. Assumes nothing.
use Prim.Native.Nat.{◌<◌}
use Rattle.std.proofs.Common.{ℕ, ◌≡◌, refl, subst, List, Option, Some, Err, rules}
use Rattle.answers.specs.declared.Answer.TheVariants.{WrongType, NoRoom}
use Rattle.rooms.specs.Places.{First, Found}
use Rattle.beginnings.specs.Inits.{Given}
use native.Mathlib.Omega.{arith}
use lib.ListN.{replicate}
use Rattle.beginnings.specs.Initial.{initial_small}
use Rattle.creating.specs.Asked.{zeros, variable_small, variable_place, room_32, new_headed, to_inits, new_wrong, new_spent, new_none, new_lay, new_done}
use Rattle.creating.proofs.new_on.Goals as goal
use Rattle.creating.proofs.new_on.Goals.{After-from-y}

-- the variable's place is one of 16
placed : (c : After-from-y) → c.from-y.result < 16
placed c = rw (c.from-y.ensures, c.from.ensures) (variable_place c.requires)

pub init_values-requires : goal.init_values-requires
init_values-requires c = to_inits c.requires (replicate 19 0) refl (zeros 19)

-- what is found, where a room is
there : {o : Option ℕ} {to : ℕ} (ids : List ℕ) → Found ids 0 o → o ≡ Some to → (to < 32) × First ids 0 to
there ids f e = subst (Found ids 0) e f

-- a place of 32
live : (to : ℕ) → to < 32 → to ≡ 32 → ⊥
live to h e = omega arith

pub returns-in_err-own : goal.returns-in_err-own
returns-in_err-own c = λ q t α.
    let r : c.from_residual.result ≡ Err WrongType = search rules in
    rw r (new_wrong q (replicate 19 0) refl (zeros 19) (replicate 19 0) t α
    (subst (Given (to_inits q (replicate 19 0) refl (zeros 19))) c.in_err-own.ensures.ok_part (c.init_values.ensures (to_inits q (replicate 19 0) refl (zeros 19)))))

pub returns-then-i-ge-LIVE_NUMBERS : goal.returns-then-i-ge-LIVE_NUMBERS
returns-then-i-ge-LIVE_NUMBERS c =
    λ q t α. new_spent q (replicate 19 0) refl (zeros 19) _ t α (subst (Given (to_inits q (replicate 19 0) refl (zeros 19))) c.in_ok-own.ensures.ok_part (c.init_values.ensures (to_inits q (replicate 19 0) refl (zeros 19)))) c.if-i-ge-LIVE_NUMBERS.true

pub returns-in_err-to : goal.returns-in_err-to
returns-in_err-to c = λ q t α.
    let r : c.from_residual-in_err-to.result ≡ Err NoRoom = search rules in
    rw r (new_none q (replicate 19 0) refl (zeros 19) _ t α (subst (Given (to_inits q (replicate 19 0) refl (zeros 19))) c.in_ok-own.ensures.ok_part (c.init_values.ensures (to_inits q (replicate 19 0) refl (zeros 19))))
    32 (subst (Found c.args.ids.now 0) c.in_err-to.ensures.ok_part c.find_room.ensures) c.if-i-ge-LIVE_NUMBERS.false refl)

pub bounds-places-from : goal.bounds-places-from
bounds-places-from c = omega (arith, variable_small c.requires, c.from.ensures)

pub overflow_add-values-2 : goal.overflow_add-values-2
overflow_add-values-2 c = omega (arith, placed (goal.at.overflow_add-values-2 c).After-from-y, room_32 c.requires)

pub offset_bounds-values-k : goal.offset_bounds-values-k
offset_bounds-values-k c = omega (arith, placed (goal.at.offset_bounds-values-k c).After-from-y, room_32 c.requires)

pub bounds-values-k : goal.bounds-values-k
bounds-values-k c = omega (arith, placed (goal.at.bounds-values-k c).After-from-y, room_32 c.requires)

pub finish_head-requires : goal.finish_head-requires
finish_head-requires c = new_headed c.requires

pub overflow_cast-state : goal.overflow_cast-state
overflow_cast-state c = omega (arith, c.initial_state-state.ensures, initial_small c.args.program.now.state_of c.args.m)

pub lay_new-requires : goal.lay_new-requires
lay_new-requires c =
    rw (c.from-y.ensures, c.from.ensures) (new_lay c.requires _ _ _ refl c.finish_head.ensures c.in_ok-to.to (there c.args.ids.now c.find_room.ensures c.in_ok-to.ensures.ok_part).1 c.if-i-ge-LIVE_NUMBERS.false (live c.in_ok-to.to (there c.args.ids.now c.find_room.ensures c.in_ok-to.ensures.ok_part).0)
    c.entry_of-entry.result c.code-id.result)

pub returns : goal.returns
returns c =
    λ q t α. new_done q _ _ _ refl c.finish_head.ensures c.in_ok-to.to (there c.args.ids.now c.find_room.ensures c.in_ok-to.ensures.ok_part).1 c.if-i-ge-LIVE_NUMBERS.false (live c.in_ok-to.to (there c.args.ids.now c.find_room.ensures c.in_ok-to.ensures.ok_part).0) (replicate 19 0) refl (zeros 19) _ t α
    (subst (Given (to_inits q (replicate 19 0) refl (zeros 19))) c.in_ok-own.ensures.ok_part (c.init_values.ensures (to_inits q (replicate 19 0) refl (zeros 19))))
    c.code-id.result c.code-id.ensures c.initial_state-state.result c.initial_state-state.ensures c.entry_of-entry.result c.entry_of-entry.ensures _ _ _ _ _ _ _
    (rw (c.from-y.ensures, c.from.ensures) at c.lay_new.ensures)
