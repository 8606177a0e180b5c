-- `remaining::push_part` meets its contract: a store and what `tidy` makes of the row, with its count stored.
use Rattle.remaining.specs.Remaining.{push_fits, push_ready, push_left}
use native.Mathlib.Omega.{arith}
use Rattle.remaining.proofs.push_part.Goals as goal

pub bounds-parts-b : goal.bounds-parts-b
bounds-parts-b c =
    omega (arith, push_fits c.requires)

pub tidy-requires : goal.tidy-requires
tidy-requires c =
    push_ready c.requires

pub returns : goal.returns
returns c =
    push_left c.requires c.args.pending _ _ c.tidy.ensures
