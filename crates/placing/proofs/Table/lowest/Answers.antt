-- `placing::Table::lowest` meets its contract: the first of the rows with the least number. Assumes nothing.
use Rattle.std.proofs.Common.{ℕ, ◌≡◌, ◌≤◌, ◌<◌, MatchOption, Option, Some, None, get_or, List, rules}
use Rattle.std.proofs.iter.runs.Sources.{ranges}
use Rattle.placing.specs.Closing.{Lowest}
use Rattle.placing.proofs.Table.lowest.Goals as goal

-- the same as a record
so : (who : List ℕ) (used : ℕ) (r : Option ℕ) → MatchOption r (used ≡ 0) (λ s. (s < used) × ((t : ℕ) → t < used → get_or who s 0 ≤ get_or who t 0)) → MatchOption r (used ≡ 0) (λ s. Lowest who used s)
so who used None h = h
so who used (Some s) h = record { within = h.0; lowest = h.1 }

pub returns : goal.returns
returns c = so c.args.self.now.who c.args.self.now.used c.min_by_key.result (search (rules, ranges))
