-- `sizing::pairs_ascend` meets its contract: what is asked of number j is that variable j - 1 is below variable j. Assumes nothing.
use Rattle.std.proofs.Common.{◌≡◌, ℕ, ◌+◌, ◌-◌, ◌*◌, ◌≤◌, ◌<◌, ◌∙◌, min, Bool, List, map, length, get_or, refl, arith, rules}
use Rattle.std.proofs.Math.Dec.{ltb}
use Rattle.tables.specs.Decode.{pairs_of}
use Rattle.tables.specs.Tables.{column_length, column_get}
use Rattle.faults.specs.Ranges.{all_below}
use Rattle.sizing.specs.Ascending.{ascends_told}
use Rattle.sizing.proofs.pairs_ascend.Goals as goal

-- the variables of the pairs
abbrev variables : List ℕ → ℕ → ℕ → List ℕ
variables inits i n = map (λ xe. xe.0) (pairs_of inits i n)

-- what is asked of number j
asked : (inits : List ℕ) (i n j : ℕ) {r : Bool} → 1 ≤ j → j < min n (15000 - i) → r ≡ ltb (get_or inits ((i + (j - 1)) * 2) 0) (get_or inits ((i + j) * 2) 0)
    → r ≡ ltb (get_or (variables inits i n) (j - 1) 0) (get_or (variables inits i n) j 0)
asked inits i n j low high q = rw (column_get inits i n (λ xe. xe.0) (j - 1) (omega arith), column_get inits i n (λ xe. xe.0) j high) q

pub returns : goal.returns
returns c =
    let a = c.args in
    let q = a.inits.now in
    let m : length (variables q a.i a.n) ≡ c.rows_from.result = column_length q a.i a.n (λ xe. xe.0) ∙ search rules in
    ascends_told (variables q a.i a.n) c.rows_from.result m c.all.result
    (all_below (λ j b. 1 ≤ j → j < c.rows_from.result → b ≡ ltb (get_or (variables q a.i a.n) (j - 1) 0) (get_or (variables q a.i a.n) j 0)) (λ x r f k. search rules)
    (λ j b k low high. asked q a.i a.n j low (omega (arith, c.rows_from.ensures)) (search rules)) c.all.result refl c.all.ensures.runs)
