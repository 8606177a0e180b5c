-- `ownness::own_pairs` meets its contract: the pairs of the list, tested one after the other.
use Prim.Native.Nat.{◌+◌}
use native.Mathlib.Omega.{arith}
use Rattle.std.proofs.Common.{refl, ◌∙◌, rules}
use Rattle.std.proofs.lemmas.Iterator.{YieldsList-from_range}
use Rattle.std.proofs.lemmas.Iterator.Search.{all_from_yields_List}
use Rattle.tables.specs.Decode.{pair_in}
use Rattle.ownness.specs.Own.{own_pair, pairs_tested}
use Rattle.ownness.proofs.own_pairs.Goals as goal

pub returns : goal.returns
returns c =
    let q = c.args.program.now in
    let n = c.rows_from-n in
    rw (← c.from-a.ensures, ← c.from.ensures) (all_from_yields_List (λ j. own_pair q.variable_of c.args.m.0 (pair_in q.inits (c.from-a.result + j))) _ _ _ c.all.ensures.ran (YieldsList-from_range 0 n.result n.result refl (omega arith)) (λ x b f k. search rules)
    ∙ pairs_tested (own_pair q.variable_of c.args.m.0) q.inits c.from-a.result n.result c.from.result n.ensures)
