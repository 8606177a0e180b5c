-- `showing::live` meets its contract: what is not one shows no number. Assumes nothing.
use mathlib.Core.Path.{sym, ◌∙◌}
use Rattle.rows.specs.Pad.{pad}
use Rattle.tables.specs.Decode.{program_of}
use Rattle.showing.specs.Shown.{refused_20, live_unfit, live_fit}
use Rattle.showing.proofs.live.Goals as goal

pub returns-then-not-fit : goal.returns-then-not-fit
unfolding pad
returns-then-not-fit c =
    record { told = live_unfit c.args.program c.args.c (sym c.fit.ensures ∙ c.if-not-fit.true); refused = refused_20 }

pub returns : goal.returns
returns c =
    let q = c.args.program in
    record { told = c.gather.ensures (program_of q) ∙ live_fit q c.args.c (sym c.fit.ensures ∙ c.if-not-fit.false); refused = λ a e z. cc }
