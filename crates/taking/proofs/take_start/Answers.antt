-- `taking::take_start` meets its contract: the kind is written in 8 bits. Assumes nothing.
use Prim.Native.Nat.{ℕ}
use mathlib.Core.Path.{sym, ap}
use Rattle.std.specs.Prelude.{Some}
use Rattle.taking.specs.Held.{byte_written}
use Rattle.taking.specs.Lines.{start_says}
use Rattle.taking.proofs.take_start.Goals as goal

pub returns : goal.returns
returns c k e =
    let a = c.args in
    ap (λ (n : ℕ). Some (record { 0 = n })) (sym (byte_written (start_says a.s.now a.places k e) c.number_at.ensures c.byte_of.ensures))
