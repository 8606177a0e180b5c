-- `distinct::distinct_ok` meets its contract: `all` over the rooms tells of each whether it is free or has a number that no later one holds. Assumes nothing.
use Rattle.std.proofs.Common.{refl, rules, arith}
use Rattle.std.proofs.lemmas.Iterator.{cases_from_all, YieldsList-from_range}
use Rattle.zeros.specs.Each.{yes, no, below_told}
use Rattle.distinct.specs.Distinct.{Single, distinct_told}
use Rattle.distinct.proofs.distinct_ok.Goals as goal

pub returns : goal.returns
returns c =
    let ids = c.args.ids.now in
    distinct_told ids
    (below_told (Single ids) 32
    (cases_from_all _ _ _ (Single ids) (λ i. Single ids i → ⊥) c.all.ensures.ran (YieldsList-from_range 0 32 32 refl (omega arith)) (λ i q k. search (yes, rules)) (λ i q k. search (no, rules))))
