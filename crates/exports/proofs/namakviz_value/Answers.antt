-- `exports::namakviz_value` meets its contract. Assumes nothing.
use mathlib.Core.Path.{ap, ◌∙◌}
use Rattle.exports.specs.Read.{value_numbers}
use Rattle.exports.proofs.namakviz_value.Goals as goal

pub returns : goal.returns
returns c = c.value_numbers.ensures ∙ ap value_numbers c.value_of.ensures
