-- `living::live_machines` meets its contract: the rooms that are not free are counted. Assumes nothing.
use Rattle.std.proofs.Common.{◌≡◌, ◌∙◌, sym, rules}
use Rattle.std.specs.Prelude.{count_by}
use Rattle.std.proofs.iter.runs.Made.{chains}
use Rattle.living.specs.Living.{taken, taken_rooms, living}
use Rattle.living.proofs.live_machines.Goals as goal

pub returns : goal.returns
returns c p =
    let e : c.count.result ≡ count_by taken c.args.c.rooms = search (rules, chains) in
    e ∙ sym (taken_rooms c.args.c.rooms) ∙ living p c.args.c
