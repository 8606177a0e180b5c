-- `numerals::until` meets its contract: the place by `position`, of specs/Splits.antt. Assumes nothing.
use Rattle.std.proofs.Common.{rules}
use Rattle.numerals.specs.Splits.{placed}
use Rattle.numerals.proofs.until.Goals as goal

pub returns : goal.returns
returns c =
    let a = c.args in placed a.c a.d.now a.from a.to c.requires c.first.result c.map_or.result c.first.ensures (search rules)
