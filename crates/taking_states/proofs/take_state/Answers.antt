-- `taking_states::take_state` meets its contract: all that is tested comes before the stores. Assumes nothing.
use mathlib.Core.Path.{refl, sym, ◌∙◌}
use Rattle.spoken.specs.Took.{took, refused}
use Rattle.taking_states.specs.Lines.{state_says}
use Rattle.taking_states.specs.Held.{line_room, state_next}
use Rattle.taking_states.proofs.take_state.Goals as goal

pub returns-then-not-is_next : goal.returns-then-not-is_next
returns-then-not-is_next c h i t q =
    refused (sym (state_next h _ _ q c.number_at.ensures) ∙ sym (rw c.from-n.ensures at c.is_next.ensures) ∙ c.if-not-is_next.true) (refl, refl, refl, refl)

pub put_line-requires : goal.put_line-requires
put_line-requires c =
    line_room c.requires.state_held _ _ _ (sym (rw c.from-n.ensures at c.is_next.ensures) ∙ c.if-not-is_next.false) c.requires.places_value

pub returns : goal.returns
returns c h i t q =
    let f = sym (rw c.from-n.ensures at c.is_next.ensures) ∙ c.if-not-is_next.false in
    let w = (state_says _ _ q).1 in
    took (sym (state_next h _ _ q c.number_at.ensures) ∙ f) (rw (← w) (c.put_line.ensures (line_room h _ _ _ f c.requires.places_value)))
