-- `dequeuing::take` meets its contract: four stores and what `only` leaves. Assumes nothing.
use Prim.Native.Nat.{ℕ, ◌+◌, ◌*◌, ◌%◌}
use mathlib.Core.Path.{refl, ap, ◌∙◌}
use lib.ListN.{set}
use Rattle.values.specs.declared.Value.TheVariants.{Event as vevent}
use Rattle.codes.specs.Codes.{code_of}
use Rattle.dequeuing.proofs.take.Goals as goal

pub returns : goal.returns
returns c =
    let a = c.args in
    record {
      values_told = ap (λ (y : ℕ). set (set a.values.now (a.k * 19 + 17) y) (a.k * 19 + 18) (a.x % 1099511627776)) (c.code.ensures ∙ ap (λ (e : ℕ). code_of (vevent e)) c.event_of.ensures);
      row = c.only.ensures;
      pends = refl;
    }
