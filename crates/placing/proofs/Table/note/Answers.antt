-- `placing::Table::note` meets its contract: a machine that has a row keeps it, and another gets one. Assumes nothing.
use mathlib.Core.Path.{sym, ◌∙◌}
use native.Mathlib.Omega.{arith}
use Rattle.placing.specs.Closing.{none_found, some_found}
use Rattle.placing.specs.Waiting.{stays, opens}
use Rattle.placing.proofs.Table.note.Goals as goal

pub returns-then-is_none : goal.returns-then-is_none
returns-then-is_none c = λ cs u w l e. opens w l c.args.k e (omega arith) (none_found _ _ _ c.find.result c.if-is_none.ensures c.find.ensures)

pub returns-else-is_none : goal.returns-else-is_none
returns-else-is_none c = λ cs u w l e.
    let f = some_found _ _ _ c.find.result c.if-is_none.ensures c.find.ensures in
    stays w l f.0 f.1.0 (f.1.1 ∙ sym e)
