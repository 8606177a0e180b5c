-- `maps::inherited` meets its contract: what specs/Maps.antt says by the numbers, a case for each way out.
use mathlib.Core.Path.{sym, ◌∙◌}
use borrow.Author.Tests.{eq-eqb, ne_eqb}
use Rattle.maps.specs.Maps.{inherits_is, inherits_line, deferred_said}
use Rattle.maps.proofs.inherited.Goals as goal

pub returns-then-goes : goal.returns-then-goes
returns-then-goes c p entries exits t =
    let a = c.args in
    sym (inherits_is p a.says.now t.lines a.n a.e a.old c.requires.0 c.requires.1
    ∙ rw (sym c.goes.ensures ∙ c.if-goes.true))

pub returns-then-a-ne0 : goal.returns-then-a-ne0
returns-then-a-ne0 c p entries exits t =
    let a = c.args in
    sym (inherits_line p a.says.now t.lines a.n a.e a.old c.requires.0 c.requires.1 _ c.look_up-a.ensures
    ∙ rw (sym c.goes.ensures ∙ c.if-goes.false, ne_eqb _ 0 c.if-a-ne0.true))

pub returns-then-defers : goal.returns-then-defers
returns-then-defers c p entries exits t =
    let a = c.args in
    sym (inherits_line p a.says.now t.lines a.n a.e a.old c.requires.0 c.requires.1 _ c.look_up-a.ensures
    ∙ rw (sym c.goes.ensures ∙ c.if-goes.false, eq-eqb _ 0 c.if-a-ne0.false, deferred_said p a.says.now a.program.now.state_of entries exits a.program.now.defers t a.n a.e ∙ sym (c.defers.ensures entries exits) ∙ c.if-defers.true))

pub returns : goal.returns
returns c p entries exits t =
    let a = c.args in
    sym (inherits_line p a.says.now t.lines a.n a.e a.old c.requires.0 c.requires.1 _ c.look_up-a.ensures
    ∙ rw (sym c.goes.ensures ∙ c.if-goes.false, eq-eqb _ 0 c.if-a-ne0.false, deferred_said p a.says.now a.program.now.state_of entries exits a.program.now.defers t a.n a.e ∙ sym (c.defers.ensures entries exits) ∙ c.if-defers.false))
