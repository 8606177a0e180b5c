-- `doubling::name_pairs` meets its contract: before a turn the first j expressions are named. Assumes nothing.
use Rattle.std.proofs.Common.{ℕ, List, map, take_all, arith}
use Rattle.tables.specs.Decode.{pairs_of}
use Rattle.tables.specs.Tables.{column_length, column_get}
use Rattle.doubling.specs.Doubling.{named_next}
use Rattle.doubling.proofs.name_pairs.Goals as goal

-- the expressions of the pairs
abbrev exprs : List ℕ → ℕ → ℕ → List ℕ
exprs inits i n = map (λ xe. xe.1) (pairs_of inits i n)

pub loop-j-preserved : goal.loop-j-preserved
loop-j-preserved c =
    let j = c.loop-j.j in
    let a = c.args in
    named_next (exprs a.inits.now a.i a.n) j _ (omega (arith, column_length a.inits.now a.i a.n (λ xe. xe.1), c.rows_from-j-end.ensures))
    (column_get a.inits.now a.i a.n (λ xe. xe.1) j (omega (arith, c.rows_from-j-end.ensures))) c.loop-j.invariant c.name-again.ensures

pub returns : goal.returns
returns c =
    let j = c.loop-j.j in
    let a = c.args in
    rw (take_all j (exprs a.inits.now a.i a.n) (omega (arith, column_length a.inits.now a.i a.n (λ xe. xe.1), c.rows_from-j-end.ensures))) at c.loop-j.invariant
