-- `exports::namakviz_fit` meets its contract. Assumes nothing.
use mathlib.Core.Path.{ap, sym, ◌∙◌}
use Rattle.exports.specs.Read.{fit_number}
use Rattle.exports.proofs.namakviz_fit.Goals as goal

pub returns-then-not-fit : goal.returns-then-not-fit
returns-then-not-fit c = c.number.ensures ∙ ap fit_number (sym c.if-not-fit.true ∙ c.fit.ensures)

pub returns : goal.returns
returns c = c.number-2.ensures ∙ ap fit_number (sym c.if-not-fit.false ∙ c.fit.ensures)
