-- `lowness::expr_heights` meets its contract: the heights worked out upward are the program's.
use Prim.Native.Nat.{◌-◌}
use mathlib.Core.Path.{refl}
use native.Mathlib.Omega.{arith}
use Rattle.std.proofs.Common.{rules}
use Rattle.marks.specs.Inner.{operands_in}
use Rattle.marks.specs.Tall.{climbed_up}
use Rattle.lowness.specs.Trees.{climbed_exprs}
use Rattle.lowness.proofs.expr_heights.Goals as goal

pub climb-requires : goal.climb-requires
climb-requires c =
    let exprs = c.args.exprs.now in (
      omega arith,
      (
        omega (arith, c.expr_count.ensures),
        λ m k low high lent. (low, (omega (arith, c.expr_count.ensures), (climbed_up (operands_in exprs) _ refl (λ k m x said. search rules) (m - 1) m (omega arith) (omega (arith, c.expr_count.ensures)) k.now lent).low)),
      ),
    )

pub returns : goal.returns
returns c p t =
    let exprs = c.args.exprs.now in
    climbed_exprs exprs _ _ (climbed_up (operands_in exprs) _ refl (λ k m x said. search rules) _ _ refl (omega (arith, c.expr_count.ensures)) _ c.climb.ensures) (omega (arith, c.expr_count.ensures)) p t
