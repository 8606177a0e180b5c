-- `sending::send_on` meets its contract: in each arm by what the target is. Assumes nothing.
use mathlib.Core.Path.{refl, sym, ◌∙◌}
use Rattle.std.proofs.Common.{ap, ⊎_elim}
use Rattle.answers.specs.declared.Answer.TheVariants.{SendToUndefined, WrongType}
use Rattle.values.specs.declared.Value.{Value}
use Rattle.values.specs.declared.Value.TheVariants.{Undefined as undefined}
use Rattle.rules.specs.Act.{on_target}
use Rattle.sending.specs.Asked.{send_readable, send_refused, send_to, send_sent}
use Rattle.sending.proofs.send_on.Goals as goal

pub eval-u-requires : goal.eval-u-requires
eval-u-requires c = (send_readable c.requires, c.requires.bits)

pub send_to-requires : goal.send_to-requires
send_to-requires c =
    send_to c.requires c.eval-u.result c.value_of.result (rw c.from.ensures at c.eval-u.ensures) c.value_of.ensures c.in-Id.i c.in-Id.is

pub returns-in-Undefined : goal.returns-in-Undefined
returns-in-Undefined c =
    λ q n α. send_refused q c.eval-u.result undefined (rw c.from.ensures at c.eval-u.ensures) (sym c.in-Undefined.is ∙ c.value_of.ensures) n α SendToUndefined (λ f. refl)

pub returns-in-Bool : goal.returns-in-Bool
returns-in-Bool c =
    λ q n α. send_refused q c.eval-u.result c.value_of.result (rw c.from.ensures at c.eval-u.ensures) c.value_of.ensures n α WrongType
    (λ f. ⊎_elim (λ x. ap (λ (v : Value). on_target v f) x.1) (λ o. ⊎_elim (λ x. ap (λ (v : Value). on_target v f) x.1) (λ x. ap (λ (v : Value). on_target v f) x.1) o) c.in-Bool.is)

pub returns-in-Id : goal.returns-in-Id
returns-in-Id c =
    λ q n α. send_sent q c.eval-u.result c.value_of.result (rw c.from.ensures at c.eval-u.ensures) c.value_of.ensures c.in-Id.i c.in-Id.is n α c.send_to.result _ _ _ _
    (c.send_to.ensures (send_to q c.eval-u.result c.value_of.result (rw c.from.ensures at c.eval-u.ensures) c.value_of.ensures c.in-Id.i c.in-Id.is))
