-- `laying::lay` meets its contract: when all rooms are laid, the arrays are those of the configuration. Assumes nothing.
use Rattle.laying.specs.Laying.{laid_all}
use Rattle.laying.proofs.lay.Goals as goal

pub returns : goal.returns
returns c = laid_all c.args.c.now c.lay_rooms.new.flat c.lay_rooms.ensures.0 c.lay_rooms.ensures.1
