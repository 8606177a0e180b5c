-- `exports::namakviz_machine` meets its contract: the machine, or the answer alone. Assumes nothing.
use Rattle.std.proofs.Common.{ap, sym, ◌∙◌}
use Rattle.showing.specs.Shown.{told_shown}
use Rattle.exports.specs.Read.{machine_numbers}
use Rattle.exports.proofs.namakviz_machine.Goals as goal

pub returns-in-Ok : goal.returns-in-Ok
returns-in-Ok c = ap machine_numbers (sym (ap told_shown c.in-Ok.is) ∙ c.look.ensures.told)

pub returns-in-Err : goal.returns-in-Err
returns-in-Err c = rw c.number.ensures (ap machine_numbers (sym (ap told_shown c.in-Err.is) ∙ c.look.ensures.told))
