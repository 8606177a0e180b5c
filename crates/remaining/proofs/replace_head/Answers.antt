-- `remaining::replace_head` meets its contract: a store and what `tidy` makes of the row, with its count stored.
use Rattle.remaining.specs.Remaining.{replace_ready, replace_left}
use Rattle.remaining.proofs.replace_head.Goals as goal

pub tidy-requires : goal.tidy-requires
tidy-requires c =
    replace_ready c.requires.0 c.requires.1

pub returns : goal.returns
returns c =
    replace_left c.requires.0 c.requires.1 c.args.pending _ _ c.tidy.ensures
