-- `exports::namakviz_pair` meets its contract. Assumes nothing.
use mathlib.Core.Path.{ap, ◌∙◌}
use Rattle.codes.specs.Codes.{code_of}
use Rattle.exports.proofs.namakviz_pair.Goals as goal

pub returns : goal.returns
returns c = λ t. record { event = c.event_of.ensures t; value = (c.code.ensures ∙ ap code_of c.value_of.ensures) t }
