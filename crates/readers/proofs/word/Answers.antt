-- `readers::word` meets its contract: the front as `position` cuts it, of specs/Words.antt. Assumes nothing.
use mathlib.Core.Path.{ap, ◌∙◌}
use lib.ListN.{take}
use Rattle.readers.specs.Words.{word_found}
use Rattle.readers.proofs.word.Goals as goal

pub returns : goal.returns
returns c = let s = c.args.s.now in ap (λ k. take k s) c.unwrap_or.ensures ∙ word_found s c.first_gap.result c.first_gap.ensures
