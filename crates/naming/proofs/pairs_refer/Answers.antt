-- `naming::pairs_refer` meets its contract: what is asked of number j is what is asked of pair j. Assumes nothing.
use Rattle.std.proofs.Common.{◌≡◌, ℕ, ◌+◌, ◌-◌, ◌*◌, ◌<◌, ◌∙◌, min, Bool, ◌&&◌, List, length, get_or, refl, arith, rules}
use Rattle.lists.specs.Lists.{there}
use Rattle.programs.specs.Program.{Program as Lines}
use Rattle.tables.specs.Decode.{pairs_of}
use Rattle.tables.specs.Tables.{no_pair, pairs_length, pairs_get}
use Rattle.faults.specs.Ranges.{all_below, each_told}
use Rattle.naming.specs.Naming.{pair_refers}
use Rattle.naming.proofs.pairs_refer.Goals as goal

-- what is asked of pair j
asked : (p : Lines) (inits : List ℕ) (i n j variables exprs : ℕ) {r : Bool} → length p.variables ≡ variables → length p.exprs ≡ exprs → j < min n (15000 - i)
    → r ≡ there variables (get_or inits ((i + j) * 2) 0) && there exprs (get_or inits ((i + j) * 2 + 1) 0)
    → r ≡ (pair_refers p (get_or (pairs_of inits i n) j no_pair)).test
asked p inits i n j variables exprs v e h q = rw (pairs_get inits i n j h, v, e) q

pub returns : goal.returns
returns c = λ p v e.
    let a = c.args in
    let q = a.program.now.inits in
    let m : length (pairs_of q a.i a.n) ≡ c.rows_from.result = pairs_length q a.i a.n ∙ search rules in
    each_told no_pair (pairs_of q a.i a.n) m (pair_refers p) c.all.result
    (all_below (λ j b. j < c.rows_from.result → b ≡ (pair_refers p (get_or (pairs_of q a.i a.n) j no_pair)).test) (λ x r f k. search rules)
    (λ j b k h. asked p q a.i a.n j a.c.variables a.c.exprs v e (omega (arith, c.rows_from.ensures)) (search rules)) c.all.result refl c.all.ensures.runs)
