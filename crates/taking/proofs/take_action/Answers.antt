-- `taking::take_action` meets its contract: the own number is tested by how many there are. Assumes nothing.
use mathlib.Core.Path.{refl, sym, ◌∙◌}
use native.Mathlib.Omega.{arith}
use Rattle.programs.specs.Sizes.{ACTIONS}
use Rattle.spoken.specs.Counted.{next_told}
use Rattle.spoken.specs.Took.{took, refused}
use Rattle.putting.specs.More.{action_put}
use Rattle.taking.specs.Held.{actions_count, action_room, byte_written, word_written}
use Rattle.taking.specs.Lines.{action_says}
use Rattle.taking.proofs.take_action.Goals as goal

pub returns-then-not-is_next : goal.returns-then-not-is_next
returns-then-not-is_next c h i x e =
    let a = c.args in
    let told = next_told ACTIONS (omega arith) (actions_count h) (action_says a.s.now a.places i x e).0 c.number_at.ensures (rw c.from-n.ensures at c.is_next.ensures) in
    refused (sym told ∙ c.if-not-is_next.true) (refl, refl)

pub put_action-requires : goal.put_action-requires
put_action-requires c =
    action_room c.requires _ (rw c.from-n.ensures at c.is_next.ensures) (c.if-not-is_next.false)

pub returns : goal.returns
returns c h i x e =
    let a = c.args in
    let says = action_says a.s.now a.places i x e in
    let told = next_told ACTIONS (omega arith) (actions_count h) says.0 c.number_at.ensures (rw c.from-n.ensures at c.is_next.ensures) in
    let yes = c.if-not-is_next.false in
    took (sym told ∙ yes)
    (action_put (action_room h _ (rw c.from-n.ensures at c.is_next.ensures) yes) x
    (byte_written says.1.0 c.number_at-2.ensures c.byte_of.ensures) (word_written says.1.1 c.number_at-3.ensures c.short.ensures) (c.put_action.ensures.kinds_after, c.put_action.ensures.bodies_after))
