-- `marks::mark` meets its contract: its cases are those of specs/Kinds.antt.
use Rattle.std.proofs.Common.{sym, ◌∙◌}
use Rattle.marks.specs.Kinds.{marked_there, marked_behind, marked_absent}
use Rattle.marks.proofs.mark.Goals as goal
use Rattle.marks.proofs.mark.Goals.{else-there-via-then-there+else-j-n, else-there-via-else-there}

pub returns-then-j-n : goal.returns-then-j-n
returns-then-j-n c = marked_there _ _ _ _ c.from-i.ensures c.from-j.ensures (sym c.there.ensures ∙ c.if-there.true) c.if-j-n.true

pub returns-else-there : goal.returns-else-there
returns-else-there c = elim c.else-there.branch [
  | else-there-via-then-there+else-j-n w ↦ marked_behind _ _ _ _ c.from-j.ensures w.if-j-n.false
  | else-there-via-else-there w ↦ marked_absent _ _ _ _ c.from-i.ensures (sym c.there.ensures ∙ w.if-there.false)
]
