-- `taking::take_variable` meets its contract: the own number and the kind are tested before anything is stored. Assumes nothing.
use mathlib.Core.Path.{refl, sym, ◌∙◌}
use Prim.Native.Nat.{◌+◌}
use native.Mathlib.Omega.{arith}
use lib.Dec.{eqb}
use lib.ListN.{length}
use Rattle.lists.specs.Facts.{and_both, and_fails}
use Rattle.spoken.specs.Took.{took, refused}
use Rattle.taking.specs.Lines.{variable_says}
use Rattle.taking.specs.More.{number_other, number_next, room_told, enter_room, countable, cut_of, held_more}
use Rattle.taking.proofs.take_variable.Goals as goal

pub overflow_add-n : goal.overflow_add-n
overflow_add-n c = omega (arith, c.requires.variables_bound)

pub returns-then-number_at-n : goal.returns-then-number_at-n
returns-then-number_at-n c h i v e =
    let a = c.args in
    let says = variable_says a.s.now a.places a.row i v c.requires.le_row e in
    refused (number_other h.held c.requires.variables_bound says.number c.number_at.ensures c.if-number_at-n.true _)
    (record { owners = refl; holds = refl; rooms = refl; variables = refl; absent = refl })

pub in_room-requires : goal.in_room-requires
in_room-requires c = c.requires.kinds_bound

pub returns-then-not-in_room : goal.returns-then-not-in_room
returns-then-not-in_room c h i v e =
    let a = c.args in
    let says = variable_says a.s.now a.places a.row i v c.requires.le_row e in
    let told = room_told h.held c.requires.kinds_bound says.of c.number_at-k.ensures c.in_room.ensures in
    refused (and_fails (eqb i (length h.rows + 1)) _ (sym told ∙ c.if-not-in_room.true))
    (record { owners = refl; holds = refl; rooms = refl; variables = refl; absent = refl })

pub enter-requires : goal.enter-requires
enter-requires c =
    enter_room c.requires.variables.held c.requires.kinds_bound c.number_at-k.result (sym c.in_room.ensures ∙ c.if-not-in_room.false)

pub count_one-requires : goal.count_one-requires
count_one-requires c =
    countable c.requires.variables.held c.requires.variables_bound

pub returns : goal.returns
returns c h i v e =
    let a = c.args in
    let says = variable_says a.s.now a.places a.row i v c.requires.le_row e in
    let told = room_told h.held c.requires.kinds_bound says.of c.number_at-k.ensures c.in_room.ensures in
    let yes = sym told ∙ c.if-not-in_room.false in
    took (and_both _ _ (number_next h.held c.requires.variables_bound says.number c.number_at.ensures c.if-number_at-n.false) yes)
    (held_more h.held c.requires.kinds_bound v (cut_of says.of c.number_at-k.ensures) says.type yes c.enter.ensures c.count_one.ensures)
