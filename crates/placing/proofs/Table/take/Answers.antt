-- `placing::Table::take` meets its contract: the machine's row is closed, or it has none. Assumes nothing.
use Rattle.placing.specs.Closing.{without_none, without_row}
use Rattle.placing.proofs.Table.take.Goals as goal

pub returns-in-Some : goal.returns-in-Some
returns-in-Some c = λ cs u w.
    let f = c.in-Some.ensures in
    rw (c.close.ensures.value, c.close.ensures.used_after, c.close.ensures.who_after, c.close.ensures.since_after)
    (rw (f.1.here f.0) at (without_row c.in-Some.s w f.0 c.args.self.now.bounded))

pub returns-in-None : goal.returns-in-None
returns-in-None c = λ cs u w. without_none _ w c.in-None.ensures.others_before
