-- `queues::room_for` meets its contract: the number waits, or a place is left. Assumes nothing.
use mathlib.Core.Path.{sym, ◌∙◌}
use Rattle.queues.specs.Queues.{can_there, can_new}
use Rattle.queues.proofs.room_for.Goals as goal

pub returns-then-holds : goal.returns-then-holds
returns-then-holds c =
    let a = c.args in
    c.if-holds.true ∙ can_there a.pairs.now a.waiting.now a.i c.requires a.x (sym c.holds.ensures ∙ c.if-holds.true)

pub returns-else-holds : goal.returns-else-holds
returns-else-holds c =
    let a = c.args in
    can_new a.pairs.now a.waiting.now a.i c.requires a.x (sym c.holds.ensures ∙ c.if-holds.false)
