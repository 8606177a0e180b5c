-- `beginnings::initial_state` meets its contract: what `find` says of the states' kinds. Assumes nothing.
use Rattle.std.proofs.Common.{ℕ, ◌≡◌, ◌+◌, ◌≤◌, ◌<◌, List, Option, Some, None, MatchOption, unwrap_or, get_or, ◌∙◌, arith, rules, tests}
use Rattle.std.proofs.lemmas.Iterator.{first_from_Range, serves_from_Range}
use Rattle.programs.specs.Sizes.{STATES}
use Rattle.tables.specs.Decode.{count}
use Rattle.beginnings.specs.Initial.{initial_in, initial_here, initial_none}
use Rattle.beginnings.proofs.initial_state.Goals as goal

-- the first state of the kind, or 0
found : (kinds : List ℕ) (m n : ℕ) → n ≡ count STATES kinds → (o : Option ℕ)
    → MatchOption o ((k : ℕ) → 1 ≤ k → k < n + 1 → get_or kinds k 0 ≡ m → ⊥)
    (λ i. (1 ≤ i) × (i < n + 1) × (get_or kinds i 0 ≡ m) × ((k : ℕ) → 1 ≤ k → k < i → get_or kinds k 0 ≡ m → ⊥))
    → unwrap_or o 0 ≡ initial_in kinds m
found kinds m n e (Some i) h = initial_here kinds m i h.0 (omega (arith, e, h.1)) h.3 h.2
found kinds m n e None h = initial_none kinds m (n + 1) (omega (arith, e)) h

pub find-requires : goal.find-requires
find-requires c = record { can = tt; finite = tt; callable = serves_from_Range (λ x q k. search (rules, tests)) (λ x low high. search rules) }

pub returns : goal.returns
returns c =
    c.unwrap_or.ensures
    ∙ found c.args.kinds.now c.args.m _ c.state_count.ensures _
    (first_from_Range _ _ _ _ (λ i. get_or c.args.kinds.now i 0 ≡ c.args.m) (λ i. get_or c.args.kinds.now i 0 ≡ c.args.m → ⊥) c.find.ensures.ran
    (λ x q k. search (rules, tests)) (λ x q k. search (rules, tests)))
