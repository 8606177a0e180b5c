-- `listings::numbers_ok` meets its contract: the parts ascend by themselves. Assumes nothing.
use Rattle.std.proofs.Common.{sym, ◌∙◌}
use Rattle.listings.specs.Rising.{number_key}
use Rattle.listings.specs.Going.{rising_numbers}
use Rattle.listings.proofs.numbers_ok.Goals as goal

pub returns-else-is_none : goal.returns-else-is_none
returns-else-is_none c =
    c.ascends.ensures number_key (λ x r p. p) ∙ rising_numbers c.args.d.now (sym c.is_none.ensures ∙ c.if-is_none.false)
