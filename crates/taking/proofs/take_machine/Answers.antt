-- `taking::take_machine` meets its contract: the own number is tested by how many there are. Assumes nothing.
use mathlib.Core.Path.{refl, sym, ◌∙◌}
use native.Mathlib.Omega.{arith}
use Rattle.programs.specs.Sizes.{KINDS}
use Rattle.spoken.specs.Counted.{next_told, next_room}
use Rattle.spoken.specs.Took.{took, refused}
use Rattle.taking.specs.Lines.{machine_says}
use Rattle.taking.proofs.take_machine.Goals as goal

pub returns-then-not-is_next : goal.returns-then-not-is_next
returns-then-not-is_next c i e =
    let a = c.args in
    let told = next_told KINDS (omega arith) refl (machine_says a.s.now a.places i e) c.number_at.ensures c.is_next.ensures in
    refused (sym told ∙ c.if-not-is_next.true) refl

pub overflow_add-kinds : goal.overflow_add-kinds
overflow_add-kinds c =
    omega (arith, next_room KINDS c.args.kinds.now c.number_at.result (sym c.is_next.ensures ∙ c.if-not-is_next.false))

pub returns : goal.returns
returns c i e =
    let a = c.args in
    let told = next_told KINDS (omega arith) refl (machine_says a.s.now a.places i e) c.number_at.ensures c.is_next.ensures in
    took (sym told ∙ c.if-not-is_next.false) refl
