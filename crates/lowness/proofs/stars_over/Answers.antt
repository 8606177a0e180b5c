-- `lowness::stars_over` meets its contract: a leaf has its own stars.
use Rattle.lowness.specs.Trees.{leaf_low}
use native.Mathlib.Omega.{arith}
use Rattle.lowness.proofs.stars_over.Goals as goal

pub returns-in-Leaf : goal.returns-in-Leaf
returns-in-Leaf c = (rw c.in-Leaf.is c.leaf_stars.ensures, omega (arith, c.leaf_stars.ensures, leaf_low c.in-Leaf.l))
