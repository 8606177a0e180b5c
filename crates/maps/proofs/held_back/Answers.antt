-- `maps::held_back` meets its contract: what specs/Maps.antt says by the numbers, a case for each way out.
use mathlib.Core.Path.{sym, ◌∙◌}
use borrow.Author.Tests.{eq-eqb, ne_eqb}
use Rattle.maps.specs.Maps.{held_is, deferred_said}
use Rattle.maps.proofs.held_back.Goals as goal

pub returns-else-not-own : goal.returns-else-not-own
returns-else-not-own c p entries exits t h =
    let a = c.args in
    sym (held_is p a.says.now a.maps.now t.lines a.b a.n a.e c.requires h ∙ rw (sym c.own.ensures ∙ c.if-not-own.false, c.if-not-own.false))

pub returns-then-x : goal.returns-then-x
returns-then-x c p entries exits t h =
    let a = c.args in
    sym (held_is p a.says.now a.maps.now t.lines a.b a.n a.e c.requires h ∙ rw (sym c.own.ensures ∙ c.if-not-own.true, eq-eqb _ 255 c.if-x.true))

pub returns-else-x : goal.returns-else-x
returns-else-x c p entries exits t h =
    let a = c.args in
    sym (held_is p a.says.now a.maps.now t.lines a.b a.n a.e c.requires h
    ∙ rw (sym c.own.ensures ∙ c.if-not-own.true, ne_eqb _ 255 c.if-x.false)
    (deferred_said p a.says.now a.program.now.state_of entries exits a.program.now.defers t a.n a.e ∙ sym (c.defers.ensures entries exits)))
