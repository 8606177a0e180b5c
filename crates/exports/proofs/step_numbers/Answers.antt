-- `exports::step_numbers` meets its contract, by the outcome's two cases. Assumes nothing.
use Prim.Native.Nat.{ℕ}
use mathlib.Core.Path.{ap, sym, ◌∙◌}
use Rattle.exports.specs.Exported.{step_numbers}
use Rattle.exports.proofs.step_numbers.Goals as goal

pub returns-in-Ok : goal.returns-in-Ok
returns-in-Ok c = ap (λ (n : ℕ). record { answer = 0; rule = n }) c.rule_number.ensures ∙ sym (ap step_numbers c.in-Ok.is)

pub returns-in-Err : goal.returns-in-Err
returns-in-Err c = ap (λ (n : ℕ). record { answer = n; rule = 0 }) c.number.ensures ∙ sym (ap step_numbers c.in-Err.is)
