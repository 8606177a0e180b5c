-- `queues::put_on` meets its contract: its three ways are those of specs/Queues.antt. Assumes nothing.
use mathlib.Core.Path.{sym, ◌∙◌}
use Rattle.queues.specs.Queues.{left_there, left_full, left_new}
use Rattle.queues.proofs.put_on.Goals as goal

pub returns-then-holds : goal.returns-then-holds
returns-then-holds c =
    let a = c.args in
    left_there a.pairs.now a.waiting.now a.i c.requires a.x (sym c.holds.ensures ∙ c.if-holds.true)

pub returns-then-n-ge-QUEUE : goal.returns-then-n-ge-QUEUE
returns-then-n-ge-QUEUE c =
    let a = c.args in
    left_full a.pairs.now a.waiting.now a.i c.requires a.x (sym c.holds.ensures ∙ c.if-holds.false) c.if-n-ge-QUEUE.true

pub returns : goal.returns
returns c =
    let a = c.args in
    left_new a.pairs.now a.waiting.now a.i c.requires a.x (sym c.holds.ensures ∙ c.if-holds.false) c.if-n-ge-QUEUE.false
