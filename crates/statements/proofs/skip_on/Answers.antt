-- `statements::skip_on` meets its contract: the head goes, and what is pending stays.
use mathlib.Core.Path.{refl}
use Rattle.statements.specs.Heading.{asked_dropping}
use Rattle.statements.specs.Left.{skip_left}
use native.Mathlib.Omega.{arith}
use Rattle.statements.proofs.skip_on.Goals as goal

pub offset_bounds-held-k : goal.offset_bounds-held-k
offset_bounds-held-k c = omega (arith, c.requires.row.heading.stands.room)

pub bounds-held-k : goal.bounds-held-k
bounds-held-k c = omega (arith, c.requires.row.heading.stands.room)

pub drop_head-requires : goal.drop_head-requires
drop_head-requires c = asked_dropping c.requires

pub returns : goal.returns
returns c = λ a w. skip_left a w _ refl c.drop_head.ensures
