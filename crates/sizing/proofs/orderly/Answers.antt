-- `sizing::orderly` meets its contract: by the variables and the statements. Assumes nothing.
use mathlib.Core.Path.{sym, ◌∙◌}
use Rattle.sizing.specs.Orderly.{orderly_is}
use Rattle.sizing.proofs.orderly.Goals as goal

pub returns-then-none_void : goal.returns-then-none_void
returns-then-none_void c p states entries exits flags v s e =
    sym (orderly_is p states entries exits flags e ∙ rw (sym (c.none_void.ensures p v) ∙ c.if-none_void.true) (sym (c.all_ascend.ensures p s)))

pub returns-else-none_void : goal.returns-else-none_void
returns-else-none_void c p states entries exits flags v s e =
    sym (orderly_is p states entries exits flags e ∙ rw (sym (c.none_void.ensures p v) ∙ c.if-none_void.false) (sym c.if-none_void.false))
