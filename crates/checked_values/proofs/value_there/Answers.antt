-- `checked_values::value_there` meets its contract: each kind of value by its own test. Assumes nothing.
use Rattle.std.proofs.Common.{⊎_elim}
use Rattle.codes.proofs.Held.{holdable}
use Rattle.lists.specs.Tells.{granted}
use Rattle.checked_values.specs.Tests.{event_told, id_told}
use Rattle.checked_values.proofs.value_there.Goals as goal

pub returns-in-Undefined : goal.returns-in-Undefined
returns-in-Undefined c =
    let h = holdable c.args.v c.well_formed.0 in
    λ p q. ⊎_elim (λ e. rw e (granted tt)) (⊎_elim (λ b. rw b.1 (granted tt)) (λ z. rw z.1 (granted (rw z.1 at h)))) c.in-Undefined.is

pub returns-in-Event : goal.returns-in-Event
returns-in-Event c = λ p q. rw (c.in-Event.is, c.there.ensures, c.from.ensures) (event_told p c.args.next _ _ q)

pub returns-in-Id : goal.returns-in-Id
returns-in-Id c = λ p q. rw (c.in-Id.is, c.handed_out.ensures) (id_told p _ _)
