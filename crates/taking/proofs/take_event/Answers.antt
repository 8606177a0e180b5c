-- `taking::take_event` meets its contract: the own number is tested by how many there are, and the form says the type. Assumes nothing.
use mathlib.Core.Path.{refl, sym, ◌∙◌}
use native.Mathlib.Omega.{arith}
use Rattle.programs.specs.Sizes.{EVENTS}
use Rattle.spoken.specs.Counted.{next_told}
use Rattle.spoken.specs.Took.{took, refused}
use Rattle.putting.specs.More.{event_put}
use Rattle.taking.specs.Held.{events_count, event_room}
use Rattle.taking.specs.Lines.{event_says}
use Rattle.taking.proofs.take_event.Goals as goal

pub returns-then-not-is_next : goal.returns-then-not-is_next
returns-then-not-is_next c h i t e =
    let a = c.args in
    let told = next_told EVENTS (omega arith) (events_count h) (event_says a.s.now a.places a.row i t c.requires.row_bound e).0 c.number_at.ensures (rw c.from-n.ensures at c.is_next.ensures) in
    refused (sym told ∙ c.if-not-is_next.true) refl

pub put_event-requires : goal.put_event-requires
put_event-requires c =
    event_room c.requires.event_held _ (rw c.from-n.ensures at c.is_next.ensures) (c.if-not-is_next.false)

pub returns : goal.returns
returns c h i t e =
    let a = c.args in
    let says = event_says a.s.now a.places a.row i t c.requires.row_bound e in
    let told = next_told EVENTS (omega arith) (events_count h) says.0 c.number_at.ensures (rw c.from-n.ensures at c.is_next.ensures) in
    let yes = c.if-not-is_next.false in
    took (sym told ∙ yes) (c.put_event.ensures ∙ event_put (event_room h _ (rw c.from-n.ensures at c.is_next.ensures) yes) t says.1)
