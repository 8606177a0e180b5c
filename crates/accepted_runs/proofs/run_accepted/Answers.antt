-- `accepted_runs::run_accepted` meets its contract: the program is lent to the loop, with what is worked out of it. Assumes nothing.
use Rattle.accepted_runs.specs.AcceptedRuns.{loop_asked}
use Rattle.accepted_runs.proofs.run_accepted.Goals as goal

pub run_on-requires : goal.run_on-requires
run_on-requires c = loop_asked c.requires c.of-index.ensures.says c.of-index.ensures.places

pub returns : goal.returns
returns c =
    c.run_on.ensures (loop_asked c.requires c.of-index.ensures.says c.of-index.ensures.places)
