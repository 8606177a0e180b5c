-- `marks::flow` meets its contract: the turns that are left give what all turns give.
use mathlib.Core.Path.{refl}
use native.Mathlib.Omega.{arith}
use Rattle.marks.specs.Flow.{passed_marked, passed_unmarked, flowed_turn, flowed_done}
use Rattle.marks.proofs.flow.Goals as goal
use Rattle.marks.proofs.flow.Goals.{then-marks-b-ne0, else-marks-b-ne0}

pub loop-s-init : goal.loop-s-init
loop-s-init g c kids told = refl

pub loop-s-preserved : goal.loop-s-preserved
loop-s-preserved g c kids told =
    let l = c.loop-s in
    flowed_turn kids c.args.b l.s l.marks _ _ (omega arith) (elim c.if-marks-b-ne0.branch [
      | then-marks-b-ne0 w ↦ rw w.marks-is (passed_marked kids c.args.b l.s _ l.marks _ w.if-marks-b-ne0.true (told l.s w.inner.result w.inner.ensures) w.mark_inner.ensures)
      | else-marks-b-ne0 w ↦ rw w.marks-is (passed_unmarked kids c.args.b l.s l.marks w.if-marks-b-ne0.false)
    ]) (l.invariant kids told)

pub returns : goal.returns
returns g c kids told =
    let l = c.loop-s in
    flowed_done kids c.args.b l.s l.marks _ (omega arith) (l.invariant kids told)
