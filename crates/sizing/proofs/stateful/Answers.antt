-- `sizing::stateful` meets its contract: what is asked of number k is that kind k has a state. Assumes nothing.
use Rattle.std.proofs.Common.{◌≡◌, ℕ, Bool, List, eqb, rules}
use Rattle.lists.specs.Lists.{any}
use Rattle.tables.specs.Decode.{states_of}
use Rattle.faults.specs.Ranges.{all_within, up_to_told}
use Rattle.sizing.proofs.stateful.Goals as goal

-- kind k has a state
abbrev has : List ℕ → List ℕ → List ℕ → List ℕ → ℕ → Bool
has states entries exits flags k = any (λ q. eqb q.of k) (states_of states entries exits flags)

pub returns : goal.returns
returns c = λ p entries exits flags m e.
    let test = has c.args.program.now.state_of entries exits flags in
    rw (m, e) (up_to_told test c.args.program.now.kinds c.all.result
    (all_within (λ k b. b ≡ test k) (λ x r f h. search rules) (λ k b h. search rules) c.all.result (search rules) (search rules) (search rules) c.all.ensures.runs))
