-- `forms::first_form` meets its contract: at each turn the first of the forms that are left is the first of all. Assumes nothing.
use Rattle.texts.specs.Forms.{forms}
use Rattle.std.proofs.Common.{sym, ◌∙◌}
use Rattle.forms.specs.Trying.{turn_none, turn_all, begin_room, begin_other, begin_found, begin_more}
use Rattle.forms.specs.Recognised.{forms_sound}
use Rattle.forms.proofs.first_form.Goals as goal
use Rattle.forms.proofs.first_form.Goals.{then-begins_alike+in_default, else-begins_alike}

pub loop-row-init : goal.loop-row-init
loop-row-init c = let a = c.args in turn_none forms a.s.now a.a a.e

pub scan-requires : goal.scan-requires
scan-requires c =
    let a = c.args in
    record { room = begin_room forms a.t.now a.s.now a.a a.e c.loop-row.row c.requires.written c.loop-row-test.true forms_sound; inside = c.requires.inside; known = c.requires.known }

pub returns-in-Some : goal.returns-in-Some
returns-in-Some c =
    let a = c.args in
    (begin_found forms a.t.now a.s.now a.a a.e c.loop-row.row c.requires.written c.loop-row-test.true c.scan.result c.scan.ensures c.loop-row.invariant c.in-Some.at c.in-Some.is, c.loop-row-test.true)

pub loop-row-preserved : goal.loop-row-preserved
loop-row-preserved c =
    let a = c.args in
    elim c.if-begins_alike.branch [
      | then-begins_alike+in_default w ↦ begin_more forms a.t.now a.s.now a.a a.e c.loop-row.row c.requires.written c.loop-row-test.true w.scan.result w.scan.ensures c.loop-row.invariant w.in_default.is
      | else-begins_alike w ↦ begin_other forms a.t.now a.s.now a.a a.e c.loop-row.row c.requires.written c.loop-row-test.true forms_sound c.requires.inside c.loop-row.invariant (sym c.begins_alike.ensures ∙ w.if-begins_alike.false)
    ]

pub returns : goal.returns
returns c =
    let a = c.args in
    turn_all forms a.s.now a.a a.e c.loop-row.row c.loop-row.invariant c.loop-row-test.false
