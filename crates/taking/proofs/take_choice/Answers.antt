-- `taking::take_choice` meets its contract: a choice in range is not cut. Assumes nothing.
use mathlib.Core.Path.{refl, sym, ◌∙◌}
use native.Mathlib.Omega.{arith}
use Rattle.spoken.specs.Took.{took, refused}
use Rattle.putting.specs.More.{choice_put}
use Rattle.taking.specs.Held.{choosable_is, choice_told, choice_room, uncut}
use Rattle.taking.specs.Lines.{choice_says}
use Rattle.taking.proofs.take_choice.Goals as goal

pub returns-then-not-choosable : goal.returns-then-not-choosable
returns-then-not-choosable c h x e =
    let a = c.args in
    let told = choice_told h x (choice_says a.s.now a.places a.row x c.requires.le_row e) c.number_at-machine.ensures (c.bits_at-bits.ensures x e) c.choosable.ensures in
    refused (sym told ∙ c.if-not-choosable.true) (refl, refl)

pub overflow_cast-bits : goal.overflow_cast-bits
overflow_cast-bits c =
    let q = (choosable_is c.args.count.now c.number_at-machine.result c.bits_at-bits.result).holds
    (sym c.choosable.ensures ∙ c.if-not-choosable.false) in
    omega (arith, q.low)

pub put_choice-requires : goal.put_choice-requires
put_choice-requires c =
    let q = (choosable_is c.args.count.now c.number_at-machine.result c.bits_at-bits.result).holds
    (sym c.choosable.ensures ∙ c.if-not-choosable.false) in
    record { choice_room = choice_room c.requires.choice_held q; machine_bound = q.small }

pub overflow_add-count : goal.overflow_add-count
overflow_add-count c =
    let q = (choosable_is c.args.count.now c.number_at-machine.result c.bits_at-bits.result).holds
    (sym c.choosable.ensures ∙ c.if-not-choosable.false) in
    omega (arith, q.room)

pub returns : goal.returns
returns c h x e =
    let a = c.args in
    let says = choice_says a.s.now a.places a.row x c.requires.le_row e in
    let yes = c.if-not-choosable.false in
    let q = (choosable_is a.count.now c.number_at-machine.result c.bits_at-bits.result).holds (sym c.choosable.ensures ∙ yes) in
    let told = choice_told h x says c.number_at-machine.ensures (c.bits_at-bits.ensures x e) c.choosable.ensures in
    took (sym told ∙ yes)
    (c.put_choice.ensures ∙ choice_put (choice_room h q) x (uncut says c.number_at-machine.ensures q.small) (uncut refl (c.bits_at-bits.ensures x e) (omega (arith, q.low))), refl)
