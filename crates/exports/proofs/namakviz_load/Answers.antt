-- `exports::namakviz_load` meets its contract: what is loaded, or the refusal with nothing. Assumes nothing.
use Rattle.std.proofs.Common.{refl, ap, sym, ◌∙◌}
use Rattle.tabled.specs.Tabled.{handed, loads_of}
use Rattle.exports.specs.Exported.{load_numbers}
use Rattle.exports.proofs.namakviz_load.Goals as goal

pub returns-in-Ok : goal.returns-in-Ok
returns-in-Ok c = ap load_numbers (ap handed (c.load_in.ensures.handed c.in-Ok.is) ∙ loads_of _)

pub returns-in-Err : goal.returns-in-Err
returns-in-Err c = c.nothing_loaded.ensures ∙ ap load_numbers (ap handed ((rw c.in-Err.is at c.load_in.ensures.refused)) ∙ loads_of _)
