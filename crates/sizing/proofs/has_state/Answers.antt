-- `sizing::has_state` meets its contract: what is asked of number q is what is asked of state q. Assumes nothing.
use Rattle.std.proofs.Common.{◌≡◌, ◌∙◌, sym, length, rules}
use Rattle.std.proofs.Math.Dec.{eqb}
use Rattle.lists.specs.Lists.{at}
use Rattle.tables.specs.Decode.{no_state, states_of}
use Rattle.tables.specs.Tables.{states_length}
use Rattle.faults.specs.Ranges.{any_within, any_told}
use Rattle.sizing.proofs.has_state.Goals as goal

pub returns : goal.returns
returns c entries exits flags =
    let a = c.args in
    let s = states_of a.program.now.state_of entries exits flags in
    let m : length s ≡ c.state_count.result = states_length a.program.now.state_of entries exits flags ∙ sym c.state_count.ensures in
    any_told no_state s m (λ q. eqb q.of a.k.0) c.any.result
    (any_within (λ q b. b ≡ eqb (at no_state s q).of a.k.0) (λ x r f k. search rules) (λ q b k. search rules) c.any.result (search rules) (search rules) (search rules) c.any.ensures.runs)
