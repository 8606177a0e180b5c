-- `storing::return_on` meets its contract: the exit alone remains, and the return is pending.
use Rattle.statements.specs.Heading.{placing_alone}
use Rattle.storing.specs.Storing.{return_left}
use native.Mathlib.Omega.{arith}
use Rattle.storing.proofs.return_on.Goals as goal

pub only-requires : goal.only-requires
only-requires c = placing_alone c.requires.part c.exit_of-s.result

pub offset_bounds-held-k : goal.offset_bounds-held-k
offset_bounds-held-k c = omega (arith, c.requires.part.row.heading.stands.room)

pub bounds-held-k : goal.bounds-held-k
bounds-held-k c = omega (arith, c.requires.part.row.heading.stands.room)

pub returns : goal.returns
returns c = λ a w. return_left a w c.exit_of-s.result (c.exit_of-s.ensures a.entries a.flags) c.only.ensures
