-- `marks::mark_bodies` meets its contract: before a turn the bodies of the actions behind a are marked.
use Rattle.marks.specs.Kinds.{bodies_none, bodies_more, bodies_done}
use native.Mathlib.Omega.{arith}
use Rattle.marks.proofs.mark_bodies.Goals as goal

pub loop-a-init : goal.loop-a-init
loop-a-init c =
    let p = c.args.program.now in
    bodies_none p.action_of p.action_body c.args.marks.now c.args.n c.action_count-a.result

pub loop-a-preserved : goal.loop-a-preserved
loop-a-preserved c =
    let l = c.loop-a in
    let p = c.args.program.now in
    bodies_more p.action_of p.action_body c.args.marks.now c.args.n c.action_count-a.result l.a l.marks _ (omega arith) l.auto.a l.invariant c.mark.ensures

pub returns : goal.returns
returns c =
    let l = c.loop-a in
    let p = c.args.program.now in
    bodies_done p.action_of p.action_body c.args.marks.now c.args.n c.action_count-a.result l.a l.marks c.action_count-a.ensures (omega arith) l.invariant
