-- `listings::pairs_ok` meets its contract: the parts ascend by their variables. Assumes nothing.
use Rattle.std.proofs.Common.{sym, ◌∙◌}
use Rattle.listings.specs.Rising.{variable_key}
use Rattle.listings.specs.Going.{rising_pairs}
use Rattle.listings.proofs.pairs_ok.Goals as goal

pub returns-else-is_none : goal.returns-else-is_none
returns-else-is_none c =
    c.ascends.ensures variable_key (λ x r p. p.0) ∙ rising_pairs c.args.d.now (sym c.is_none.ensures ∙ c.if-is_none.false)
