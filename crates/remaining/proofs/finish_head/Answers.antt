-- `remaining::finish_head` meets its contract: what `finish` makes of the row, with its count stored.
use Rattle.remaining.specs.Remaining.{finish_left}
use Rattle.remaining.proofs.finish_head.Goals as goal

pub returns : goal.returns
returns c =
    finish_left c.args.pending c.requires c.finish.ensures
