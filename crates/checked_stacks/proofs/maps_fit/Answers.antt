-- `checked_stacks::maps_fit` meets its contract: each map, and zeros behind them. Assumes nothing.
use Rattle.std.specs.Prelude.{ℕ, ◌+◌, ◌*◌, ◌<◌, refl}
use Rattle.std.proofs.Common.{arith, rules}
use Rattle.std.proofs.lemmas.Iterator.{cases_from_all, YieldsList-from_range}
use Rattle.lists.specs.Tells.{Tells, form, second, first_only}
use Rattle.zeros.specs.Zeros.{zeros_told}
use Rattle.zeros.specs.Each.{below_told, yes, no}
use Rattle.checked_stacks.specs.CheckedStacks.{MapFits}
use Rattle.checked_stacks.proofs.maps_fit.Goals.{After-all}
use Rattle.checked_stacks.proofs.maps_fit.Goals as goal

-- the maps
each : (c : After-all) → Tells c.all.result ((d : ℕ) → d < c.args.depth → MapFits c.args.«action_of».now c.args.maps.now c.args.kind c.args.events (c.args.b + d * 64))
each c =
    let a = c.args in
    let fits = λ (d : ℕ). MapFits a.«action_of».now a.maps.now a.kind a.events (a.b + d * 64) in
    below_told fits a.depth
    (cases_from_all _ _ _ fits (λ d. fits d → ⊥) c.all.ensures.ran (YieldsList-from_range 0 a.depth a.depth refl (omega arith))
    (λ x q k. search (yes, rules)) (λ x q k. search (no, rules)))

pub returns-then-all : goal.returns-then-all
returns-then-all c =
    form (second (each (goal.at.returns-then-all c).After-all) c.if-all.true refl (zeros_told (record { ordered = omega arith; inside = omega arith }) c.all_are.ensures))
    (λ h. record { each = h.0; behind = h.1 }) (λ h. (h.each, h.behind))

pub returns-else-all : goal.returns-else-all
returns-else-all c =
    form (first_only (each (goal.at.returns-else-all c).After-all) c.if-all.false refl) (λ h. record { each = h.0; behind = h.1 }) (λ h. (h.each, h.behind))
