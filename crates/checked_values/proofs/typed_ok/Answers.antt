-- `checked_values::typed_ok` meets its contract: a value's number is asked whether the value suits. Assumes nothing.
use mathlib.Core.Path.{sym, ◌∙◌}
use mathlib.Core.Bool.{true≢false}
use Rattle.lists.specs.Tells.{refuted}
use Rattle.checked_values.specs.Tests.{typed_told, untyped}
use Rattle.checked_values.proofs.typed_ok.Goals as goal

pub returns-then-value_ok : goal.returns-then-value_ok
returns-then-value_ok c =
    let a = c.args in
    λ p q. rw (c.suits.ensures, c.value_of.ensures) (typed_told p a.next a.x a.t ((c.value_ok.ensures p q).holds c.if-value_ok.true))

pub returns-else-value_ok : goal.returns-else-value_ok
returns-else-value_ok c =
    let a = c.args in
    λ p q. rw c.if-value_ok.false (refuted (λ k. true≢false (sym ((c.value_ok.ensures p q).test (untyped p a.next a.x a.t k)) ∙ c.if-value_ok.false)))
