-- `lowness::expr_stars` meets its contract: the stars worked out upward are the program's.
use Prim.Native.Nat.{◌-◌}
use mathlib.Core.Path.{refl}
use native.Mathlib.Omega.{arith}
use Rattle.std.proofs.Common.{rules}
use Rattle.lists.specs.Lists.{at}
use Rattle.programs.specs.declared.Leaf.TheVariants.{Bot as bot}
use Rattle.programs.specs.declared.Expr.TheVariants.{Leaf as leaf}
use Rattle.tables.specs.Decode.{exprs_of}
use Rattle.lowness.specs.Trees.{counted_up, counted_exprs}
use Rattle.lowness.proofs.expr_stars.Goals as goal

pub climb-requires : goal.climb-requires
climb-requires c =
    let xs = exprs_of c.args.exprs.now in (
      omega arith,
      (
        omega (arith, c.expr_count.ensures),
        λ m k low high lent. (omega (arith, c.expr_count.ensures), (counted_up (at (leaf bot) xs) _ refl (λ k m n said. search rules) (m - 1) m (omega arith) (omega (arith, c.expr_count.ensures)) k.now lent).few),
      ),
    )

pub returns : goal.returns
returns c =
    let exprs = c.args.exprs.now in
    let h = counted_up (at (leaf bot) (exprs_of exprs)) _ refl (λ k m n said. search rules) _ _ refl (omega (arith, c.expr_count.ensures)) _ c.climb.ensures in
    (h.few, counted_exprs exprs _ _ h (omega (arith, c.expr_count.ensures)))
