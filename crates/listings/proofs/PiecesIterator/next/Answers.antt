-- The `next` of `Pieces` meets its contract: the part up to the next comma. Assumes nothing.
use Rattle.std.proofs.Common.{rules, ap, ◌∙◌, length}
use Rattle.listings.specs.Pieces.{parts_in, parts_next}
use Rattle.listings.proofs.PiecesIterator.next.Goals as goal

pub returns-clause-steps : goal.returns-clause-steps
returns-clause-steps c = ap parts_in c.in_ok-d.was ∙ parts_next c.in_ok-d.d.now c.until-e.result c.get-self.result c.until-e.ensures c.get-self.ensures.lookup

pub returns-clause-goes : goal.returns-clause-goes
returns-clause-goes c =
    let s = ap length (ap parts_in c.in_ok-d.was ∙ parts_next c.in_ok-d.d.now c.until-e.result c.get-self.result c.until-e.ensures c.get-self.ensures.lookup) in
    search rules
