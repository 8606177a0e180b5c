-- `checked_stacks::states_fit` meets its contract: each state, and zeros behind them. Assumes nothing.
use Rattle.std.specs.Prelude.{ℕ, ◌+◌, ◌<◌, get_or, refl}
use Rattle.std.proofs.Common.{arith, rules}
use Rattle.std.proofs.lemmas.Iterator.{cases_from_all, YieldsList-from_slice}
use Rattle.lists.specs.Tells.{Tells, form, second, first_only}
use Rattle.zeros.specs.Zeros.{zeros_told}
use Rattle.zeros.specs.Each.{run_told, yes, no}
use Rattle.checked_stacks.specs.CheckedStacks.{StateFits}
use Rattle.checked_stacks.proofs.states_fit.Goals.{After-all}
use Rattle.checked_stacks.proofs.states_fit.Goals as goal

-- the states
each : (c : After-all) → Tells c.all.result ((d : ℕ) → d < c.args.depth → StateFits c.args.«state_of».now c.args.kind (get_or c.args.states.now (c.args.b + d) 0))
each c =
    let a = c.args in
    run_told (StateFits a.«state_of».now a.kind) a.states.now a.b a.depth (omega (arith, c.requires))
    (cases_from_all _ _ _ (StateFits a.«state_of».now a.kind) (λ s. StateFits a.«state_of».now a.kind s → ⊥) c.all.ensures.ran (YieldsList-from_slice _ c.iter.ensures.rest)
    (λ x q k. search (yes, rules)) (λ x q k. search (no, rules)))

pub returns-then-all : goal.returns-then-all
returns-then-all c =
    form (second (each (goal.at.returns-then-all c).After-all) c.if-all.true refl (zeros_told (record { ordered = omega arith; inside = omega arith }) c.all_are.ensures))
    (λ h. record { each = h.0; behind = h.1 }) (λ h. (h.each, h.behind))

pub returns-else-all : goal.returns-else-all
returns-else-all c =
    form (first_only (each (goal.at.returns-else-all c).After-all) c.if-all.false refl) (λ h. record { each = h.0; behind = h.1 }) (λ h. (h.each, h.behind))
