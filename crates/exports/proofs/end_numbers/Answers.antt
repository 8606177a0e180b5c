-- `exports::end_numbers` meets its contract. Assumes nothing.
use Prim.Native.Nat.{ℕ}
use mathlib.Core.Path.{ap}
use Rattle.exports.proofs.end_numbers.Goals as goal

pub returns : goal.returns
returns c = let e = c.args.e in ap (λ (n : ℕ). record { answer = n; place = e.place; steps = e.steps }) c.number.ensures
