-- `checked_values::value_ok` meets its contract: a canonical number is asked its value, and refuted other is a value's. Assumes nothing.
use mathlib.Core.Path.{sym, ◌∙◌}
use mathlib.Core.Bool.{true≢false}
use Rattle.codes.specs.Codes.{Canonical}
use Rattle.codes.specs.Laws.{canonical_tells}
use Rattle.lists.specs.Tells.{refuted}
use Rattle.checked_values.specs.Tests.{value_told}
use Rattle.checked_values.proofs.value_ok.Goals as goal

pub returns-then-canonical : goal.returns-then-canonical
returns-then-canonical c =
    let a = c.args in
    let h : Canonical a.x = (canonical_tells a.x).holds (sym c.canonical.ensures ∙ c.if-canonical.true) in
    λ p q. value_told p a.next a.x c.value_there.result h (rw (← c.value_of.ensures) (c.value_there.ensures p q))

pub returns-else-canonical : goal.returns-else-canonical
returns-else-canonical c =
    let a = c.args in
    λ p q. rw c.if-canonical.false (refuted (λ k. true≢false (sym ((canonical_tells a.x).test k.written) ∙ sym c.canonical.ensures ∙ c.if-canonical.false)))
