-- `turns::turn_of` meets its contract: what specs/Turns.antt says by the numbers, a case for each way out. Assumes nothing.
use mathlib.Core.Path.{sym, ◌∙◌}
use borrow.Author.Tests.{eq-eqb, ne_eqb}
use Rattle.turns.specs.Turns.{turn_line}
use Rattle.turns.proofs.turn_of.Goals.{then-y-eq0-via-then-y-eq0, then-y-eq0-via-else-y-eq0+then-y}
use Rattle.turns.proofs.turn_of.Goals as goal

pub returns-then-line-ne0 : goal.returns-then-line-ne0
returns-then-line-ne0 c p l h =
    let a = c.args in
    sym (turn_line p a.says.now a.maps.now l a.b a.n a.e c.requires h _ c.look_up-line.ensures ∙ rw (ne_eqb _ 0 c.if-line-ne0.true))

pub returns-then-line-ne0-2 : goal.returns-then-line-ne0-2
returns-then-line-ne0-2 c p l h =
    let a = c.args in
    sym (turn_line p a.says.now a.maps.now l a.b a.n a.e c.requires h _ c.look_up-line.ensures ∙ rw (eq-eqb _ 0 c.if-line-ne0.false, ne_eqb _ 0 c.if-line-ne0-2.true))

pub returns-then-line-ne0-3 : goal.returns-then-line-ne0-3
returns-then-line-ne0-3 c p l h =
    let a = c.args in
    sym (turn_line p a.says.now a.maps.now l a.b a.n a.e c.requires h _ c.look_up-line.ensures ∙ rw (eq-eqb _ 0 c.if-line-ne0.false, eq-eqb _ 0 c.if-line-ne0-2.false, ne_eqb _ 0 c.if-line-ne0-3.true))

-- no action is handed on
pub returns-then-y-eq0 : goal.returns-then-y-eq0
returns-then-y-eq0 c p l h =
    let a = c.args in
    elim c.then-y-eq0.branch [
      | then-y-eq0-via-then-y-eq0 w ↦
          sym (turn_line p a.says.now a.maps.now l a.b a.n a.e c.requires h _ c.look_up-line.ensures ∙ rw (eq-eqb _ 0 c.if-line-ne0.false, eq-eqb _ 0 c.if-line-ne0-2.false, eq-eqb _ 0 c.if-line-ne0-3.false, eq-eqb _ 0 w.if-y-eq0.true))
      | then-y-eq0-via-else-y-eq0+then-y w ↦
          sym (turn_line p a.says.now a.maps.now l a.b a.n a.e c.requires h _ c.look_up-line.ensures ∙ rw (eq-eqb _ 0 c.if-line-ne0.false, eq-eqb _ 0 c.if-line-ne0-2.false, eq-eqb _ 0 c.if-line-ne0-3.false, ne_eqb _ 0 w.if-y-eq0.false, eq-eqb _ 255 w.if-y.true))
    ]

pub returns : goal.returns
returns c p l h =
    let a = c.args in
    sym (turn_line p a.says.now a.maps.now l a.b a.n a.e c.requires h _ c.look_up-line.ensures ∙ rw (eq-eqb _ 0 c.if-line-ne0.false, eq-eqb _ 0 c.if-line-ne0-2.false, eq-eqb _ 0 c.if-line-ne0-3.false, ne_eqb _ 0 c.if-y-eq0.false, ne_eqb _ 255 c.if-y.false))
