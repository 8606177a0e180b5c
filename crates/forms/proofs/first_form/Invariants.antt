-- `forms::first_form` meets its contract: at each turn the first of the forms that are left is the first of all. Assumes nothing.
use Rattle.texts.specs.Forms.{forms}
use Rattle.forms.specs.Trying.{Turn}
use Rattle.forms.proofs.first_form.Given as goal

abbrev pub invariant-loop-row : goal.invariant-loop-row
invariant-loop-row l = Turn forms l.s l.a l.e l.row
