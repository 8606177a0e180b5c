-- `loading::load` meets its contract: what the lines hold is handed out, or they are refused. Assumes nothing.
use mathlib.Core.Path.{ap, refl, ◌∙◌}
use Rattle.std.proofs.lemmas.Result.{err_from_is_err_and}
use Rattle.tabled.specs.Tabled.{handed, loads_of}
use Rattle.loading.proofs.load.Goals as goal

pub returns-in_err-load_in : goal.returns-in_err-load_in
returns-in_err-load_in c =
    let p = err_from_is_err_and c.from_residual.result c.from_residual.ensures.1 in
    record { handed = rw (p.1, p.2) (ap handed c.in_err-load_in.ensures.refused ∙ loads_of _); said = rw (p.1, p.2) c.in_err-load_in.ensures.refused }

pub returns : goal.returns
returns c = let e = c.in_ok-load_in.ensures.handed refl in record { handed = ap handed e ∙ loads_of _; said = e }
