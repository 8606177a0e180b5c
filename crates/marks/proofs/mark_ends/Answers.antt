-- `marks::mark_ends` meets its contract: before a turn the entries and exits of the states behind q are marked.
use Rattle.marks.specs.Kinds.{ends_none, ends_more, ends_done}
use native.Mathlib.Omega.{arith}
use Rattle.marks.proofs.mark_ends.Goals as goal

pub loop-q-init : goal.loop-q-init
loop-q-init c flags =
    let p = c.args.program.now in
    ends_none p.state_of p.state_entry p.state_exit flags c.args.marks.now c.args.n c.state_count-q.result

pub loop-q-preserved : goal.loop-q-preserved
loop-q-preserved c flags =
    let l = c.loop-q in
    let p = c.args.program.now in
    ends_more p.state_of p.state_entry p.state_exit flags c.args.marks.now c.args.n c.state_count-q.result l.q l.marks _ _ (omega arith) l.auto.q (l.invariant flags) c.mark.ensures c.mark-in-loop-q.ensures

pub returns : goal.returns
returns c flags =
    let l = c.loop-q in
    let p = c.args.program.now in
    ends_done p.state_of p.state_entry p.state_exit flags c.args.marks.now c.args.n c.state_count-q.result l.q l.marks c.state_count-q.ensures (omega arith) (l.invariant flags)
