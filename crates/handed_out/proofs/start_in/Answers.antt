-- `handed_out::start_in` meets its contract: a refusal is the loader's, and what is loaded is never refused a start. Assumes nothing.
use Rattle.std.proofs.Common.{ap, sym, ◌∙◌, refl}
use Rattle.std.proofs.lemmas.Result.{err_from_is_err_and}
use Rattle.tabled.specs.Tabled.{handed, loads_of}
use Rattle.handed_out.specs.Called.{starts_fine}
use Rattle.handed_out.specs.Starts.{starts_refused, starts_loaded}
use Rattle.handed_out.proofs.start_in.Goals as goal

pub returns-in_err-load_in : goal.returns-in_err-load_in
returns-in_err-load_in c =
    let p = err_from_is_err_and c.from_residual.result c.from_residual.ensures.1 in
    record { refused = rw (p.1, p.2) (starts_refused c.args.text.now _ c.in_err-load_in.ensures.refused); handed = rw p.1 (record {}) }

pub unreachable-requires : goal.unreachable-requires
unreachable-requires c = c.in_default.not-Ok _ (c.start.ensures ∙ starts_fine c.args.text.now (ap handed (c.in_ok-load_in.ensures.handed refl) ∙ loads_of _) refl)

pub returns : goal.returns
returns c = record { refused = record {}; handed = starts_loaded c.args.text.now _ c.in-Ok.config (c.in_ok-load_in.ensures.handed refl) (sym c.in-Ok.is ∙ c.start.ensures) }
