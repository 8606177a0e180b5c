-- `handed_out::start_text` meets its contract: what the lines hold is handed out, or the refusal. Assumes nothing.
use Rattle.std.proofs.lemmas.Result.{err_from_is_err_and}
use Rattle.handed_out.proofs.start_text.Goals as goal

pub start_in-requires : goal.start_in-requires
start_in-requires c = c.new-lines.ensures

pub returns-in_err-config : goal.returns-in_err-config
returns-in_err-config c =
    let p = err_from_is_err_and c.from_residual.result c.from_residual.ensures.1 in
    rw (p.1, p.2) c.in_err-config.ensures.refused

pub returns : goal.returns
returns c = c.in_ok-config.ensures.handed
