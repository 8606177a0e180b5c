-- `listings::below` meets its contract: the library's order of the digits, the lengths first. Assumes nothing.
use Rattle.std.proofs.Common.{rules}
use Rattle.listings.specs.Order.{compared}
use Rattle.listings.proofs.below.Goals as goal

pub returns : goal.returns
returns c = let e = compared c.args.p.now c.args.q.now c.requires in search rules
