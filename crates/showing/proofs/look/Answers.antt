-- `showing::look` meets its contract: what is not one shows no machine. Assumes nothing.
use mathlib.Core.Path.{sym, ◌∙◌}
use Rattle.handed.specs.Handed.{fit_is}
use Rattle.showing.specs.Shown.{refused_20, shown_unfit, shown_fit}
use Rattle.showing.proofs.look.Goals as goal

pub look_for-requires : goal.look_for-requires
look_for-requires c =
    (fit_is c.args.program c.args.c).holds (sym c.fit.ensures ∙ c.if-fit.true)

pub returns-then-fit : goal.returns-then-fit
returns-then-fit c =
    record { told = c.look_for.ensures.told ∙ shown_fit c.args.program c.args.c c.args.machine (sym c.fit.ensures ∙ c.if-fit.true); refused = c.look_for.ensures.refused }

pub returns-else-fit : goal.returns-else-fit
returns-else-fit c =
    record { told = shown_unfit c.args.program c.args.c c.args.machine (sym c.fit.ensures ∙ c.if-fit.false); refused = refused_20 }
