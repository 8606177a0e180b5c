-- `marks::heights` meets its contract: the heights worked out upward are the program's.
use Prim.Native.Nat.{◌-◌}
use mathlib.Core.Path.{refl}
use native.Mathlib.Omega.{arith}
use Rattle.std.proofs.Common.{rules}
use Rattle.marks.specs.Inner.{parts_in}
use Rattle.marks.specs.Tall.{climbed_up, climbed_heights}
use Rattle.marks.proofs.heights.Goals as goal

pub climb-requires : goal.climb-requires
climb-requires c =
    let stmts = c.args.stmts.now in (
      omega arith,
      (
        omega (arith, c.stmt_count.ensures),
        λ m k low high lent. (low, (omega (arith, c.stmt_count.ensures), (climbed_up (parts_in stmts) _ refl (λ k m x said. search rules) (m - 1) m (omega arith) (omega (arith, c.stmt_count.ensures)) k.now lent).low)),
      ),
    )

pub returns : goal.returns
returns c p t =
    let stmts = c.args.stmts.now in
    climbed_heights stmts _ _ (climbed_up (parts_in stmts) _ refl (λ k m x said. search rules) _ _ refl (omega (arith, c.stmt_count.ensures)) _ c.climb.ensures) (omega (arith, c.stmt_count.ensures)) p t
