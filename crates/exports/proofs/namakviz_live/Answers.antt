-- `exports::namakviz_live` meets its contract: the numbers, or the answer with none. Assumes nothing.
use Rattle.std.proofs.Common.{ap, sym, ◌∙◌}
use Rattle.rows.specs.Pad.{pad}
use Rattle.showing.specs.Shown.{told_living}
use Rattle.exports.specs.Read.{living_numbers}
use Rattle.exports.proofs.namakviz_live.Goals as goal

pub returns-in-Ok : goal.returns-in-Ok
returns-in-Ok c = ap living_numbers (sym (ap told_living c.in-Ok.is) ∙ c.live.ensures.told)

pub returns-in-Err : goal.returns-in-Err
unfolding pad
returns-in-Err c = rw c.number.ensures (ap living_numbers (sym (ap told_living c.in-Err.is) ∙ c.live.ensures.told))
