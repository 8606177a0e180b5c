-- `owning::own_on` meets its contract, a case for each head.
use Rattle.std.proofs.Common.{⊎_elim}
use Rattle.owning.specs.Owning.{own_row, own_part, own_deep, own_assign, own_assert, own_if, own_while, own_return, own_raise, row_left, pending_left, alone_left, owned_at}
use Rattle.owning.proofs.own_on.Goals as goal

pub skip_on-requires : goal.skip_on-requires
skip_on-requires c = own_part (rw c.in-Skip.is at c.requires)

pub assign_on-requires : goal.assign_on-requires
assign_on-requires c = own_assign _ _ (rw c.in-Assign.is at c.requires)

pub top_map-b-requires : goal.top_map-b-requires
top_map-b-requires c = (_, (_, own_deep c.requires))

pub top_state-n-requires : goal.top_state-n-requires
top_state-n-requires c = (_, own_deep c.requires)

pub raise_on-requires : goal.raise_on-requires
raise_on-requires c =
    own_raise _ _ (rw c.in-Raise.is at c.requires) _ _ c.top_map-b.ensures c.top_state-n.ensures

pub leave_on-requires : goal.leave_on-requires
leave_on-requires c = own_row (rw c.in-Leave.is at c.requires)

pub top_state-n-requires-in-Return : goal.top_state-n-requires-in-Return
top_state-n-requires-in-Return c = (_, own_deep c.requires)

pub return_on-requires : goal.return_on-requires
return_on-requires c =
    own_return (rw c.in-Return.is at c.requires) _ c.top_state-n-in-Return.ensures

pub assert_on-requires : goal.assert_on-requires
assert_on-requires c = own_assert _ (rw c.in-Assert.is at c.requires)

pub if_on-requires : goal.if_on-requires
if_on-requires c = own_if _ _ _ (rw c.in-If.is at c.requires)

pub while_on-requires : goal.while_on-requires
while_on-requires c = own_while _ _ (rw c.in-While.is at c.requires)

pub returns-in-Skip-clause-owned : goal.returns-in-Skip-clause-owned
returns-in-Skip-clause-owned c = owned_at c.in-Skip.is _ _ _ _ _ (λ a. row_left a _ _ _ (c.skip_on.ensures (own_part a) c.args.w))

pub returns-in-Assign-clause-owned : goal.returns-in-Assign-clause-owned
returns-in-Assign-clause-owned c = owned_at c.in-Assign.is _ _ _ _ _ (λ a. c.assign_on.ensures (own_assign _ _ a))

pub returns-in-New-clause-owned : goal.returns-in-New-clause-owned
returns-in-New-clause-owned c = ⊎_elim
    (λ e. owned_at e.4 _ _ _ _ _ (λ a. alone_left a))
    (λ o. ⊎_elim
    (λ e. owned_at e _ _ _ _ _ (λ a. alone_left a))
    (λ q. ⊎_elim (λ e. owned_at e.3 _ _ _ _ _ (λ a. alone_left a)) (λ e. owned_at e.2 _ _ _ _ _ (λ a. alone_left a)) q)
    o)
    c.in-New.is

pub returns-in-Raise-clause-owned : goal.returns-in-Raise-clause-owned
returns-in-Raise-clause-owned c =
    owned_at c.in-Raise.is _ _ _ _ _ (λ a. c.raise_on.ensures (own_raise _ _ a _ _ c.top_map-b.ensures c.top_state-n.ensures))

pub returns-in-Leave-clause-owned : goal.returns-in-Leave-clause-owned
returns-in-Leave-clause-owned c = owned_at c.in-Leave.is _ _ _ _ _ (λ a. pending_left a _ _ _ _ (c.leave_on.ensures (own_row a) c.args.w))

pub returns-in-Return-clause-owned : goal.returns-in-Return-clause-owned
returns-in-Return-clause-owned c =
    owned_at c.in-Return.is _ _ _ _ _ (λ a. pending_left a _ _ _ _ (c.return_on.ensures (own_return a _ c.top_state-n-in-Return.ensures) c.args.w))

pub returns-in-Assert-clause-owned : goal.returns-in-Assert-clause-owned
returns-in-Assert-clause-owned c = owned_at c.in-Assert.is _ _ _ _ _ (λ a. row_left a _ _ _ (c.assert_on.ensures (own_assert _ a)))

pub returns-in-If-clause-owned : goal.returns-in-If-clause-owned
returns-in-If-clause-owned c = owned_at c.in-If.is _ _ _ _ _ (λ a. row_left a _ _ _ (c.if_on.ensures (own_if _ _ _ a)))

pub returns-in-While-clause-owned : goal.returns-in-While-clause-owned
returns-in-While-clause-owned c = owned_at c.in-While.is _ _ _ _ _ (λ a. row_left a _ _ _ (c.while_on.ensures (own_while _ _ a)))
