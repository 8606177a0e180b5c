-- `taking_states::home` meets its contract. Assumes nothing.
use mathlib.Core.Path.{ap, ◌∙◌}
use Rattle.tabled.specs.Tabled.{byte_of}
use Rattle.putting.specs.Words.{byte_kept}
use Rattle.taking_states.proofs.home.Goals as goal

pub returns-then-can : goal.returns-then-can
returns-then-can c = rw c.if-can.true (c.byte_of.ensures ∙ ap byte_of c.number_at.ensures ∙ byte_kept _)

pub returns-else-can : goal.returns-else-can
returns-else-can c = rw c.if-can.false
