-- `forms::form_of` meets its contract: the first of the forms is the one that is told. Assumes nothing.
use mathlib.Core.Path.{refl}
use Rattle.forms.specs.Trying.{known_first}
use Rattle.forms.specs.Recognised.{recognised_as}
use Rattle.forms.proofs.form_of.Goals as goal

pub until-k-requires : goal.until-k-requires
until-k-requires c = let l = c.requires in record { ordered = l.inside; inside = l.low }

pub take-first-requires : goal.take-first-requires
take-first-requires c = refl

pub first_form-requires : goal.first_form-requires
first_form-requires c =
    record { written = refl; inside = c.requires.low; known = known_first _ c.if-k-e.q c.take-first.result c.take-first.ensures }

pub returns : goal.returns
returns c =
    let a = c.args in
    recognised_as a.s.now a.a a.e c.first_form.result c.requires c.first_form.ensures
