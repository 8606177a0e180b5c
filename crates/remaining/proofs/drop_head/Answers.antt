-- `remaining::drop_head` meets its contract: a store and what `tidy` makes of the row, with its count stored; nothing is left where the head was the only part.
use Rattle.remaining.specs.Remaining.{drop_ready, drop_left, drop_last}
use Rattle.remaining.proofs.drop_head.Goals as goal

pub returns-then-last-eq0 : goal.returns-then-last-eq0
returns-then-last-eq0 c =
    drop_last c.requires c.args.pending c.if-last-eq0.true

pub tidy-requires : goal.tidy-requires
tidy-requires c =
    drop_ready c.requires c.if-last-eq0.false

pub returns : goal.returns
returns c =
    drop_left c.requires c.args.pending _ _ c.tidy.ensures
