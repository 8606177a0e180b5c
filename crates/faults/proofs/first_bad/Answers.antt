-- `faults::first_bad` meets its contract: the search of std over the numbers from 1 to n finds the first of which no is said. Assumes nothing.
use Rattle.std.proofs.Common.{subst, sym, rules}
use Rattle.faults.specs.Ranges.{found_first, serves_within}
use Rattle.faults.proofs.first_bad.Goals as goal

pub returns : goal.returns
returns g c = found_first (goal.F-post g c.args.ok) (λ a r f e. search rules) (λ x b k. search rules) c.find.result (search rules) (search rules) (search rules) c.find.ensures.runs

pub find-requires-clause-callable : goal.find-requires-clause-callable
find-requires-clause-callable g c = serves_within {a = 1} {n = c.args.n} (search rules) (search rules) (λ x q h. search rules) (λ x low high y e. search (rules, subst (goal.F-pre g c.args.ok) (sym e) (c.requires x low high)))
