-- `expr_marks::mark_roots` meets its contract: before a turn what the statements behind s name is marked.
use Rattle.expr_marks.specs.Naming.{root_marked, root_unmarked, roots_none, roots_more, roots_done}
use native.Mathlib.Omega.{arith}
use Rattle.expr_marks.proofs.mark_roots.Goals as goal
use Rattle.expr_marks.proofs.mark_roots.Goals.{then-served-b-ne0, else-served-b-ne0}

pub loop-s-init : goal.loop-s-init
loop-s-init c =
    let a = c.args in
    let p = a.program.now in
    roots_none p.stmts p.inits a.served.now a.x a.b a.n a.marks.now

pub loop-s-preserved : goal.loop-s-preserved
loop-s-preserved c =
    let l = c.loop-s in
    let a = c.args in
    let p = a.program.now in
    roots_more p.stmts p.inits a.served.now a.x a.b a.n l.s a.marks.now l.marks _ (omega arith) l.auto.s l.invariant (elim c.if-served-b-ne0.branch [
      | then-served-b-ne0 w ↦ rw w.marks-is (root_marked p.stmts p.inits a.served.now a.x a.b l.s _ l.marks _ w.if-served-b-ne0.true w.stmt_at-h.ensures w.mark_named.ensures)
      | else-served-b-ne0 w ↦ rw w.marks-is (root_unmarked p.stmts p.inits a.served.now a.x a.b l.s l.marks w.if-served-b-ne0.false)
    ])

pub returns : goal.returns
returns c =
    let l = c.loop-s in
    let a = c.args in
    let p = a.program.now in
    roots_done p.stmts p.inits a.served.now a.x a.b a.n l.s a.marks.now l.marks (omega arith) l.invariant
