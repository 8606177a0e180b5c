-- `operands::operand` meets its contract. Assumes nothing.
use mathlib.Core.Path.{ap, ◌∙◌}
use Rattle.tabled.specs.Tabled.{word_of}
use Rattle.putting.specs.Words.{word_kept}
use Rattle.operands.proofs.operand.Goals as goal

pub returns-then-there : goal.returns-then-there
returns-then-there c = rw c.if-there.true (c.short.ensures ∙ ap word_of c.number_at.ensures ∙ word_kept _)

pub returns-else-there : goal.returns-else-there
returns-else-there c = rw c.if-there.false
