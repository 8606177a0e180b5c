-- `parts::settle` meets its contract: the loop that splits, of specs/Parts.antt; the head's number falls.
use Prim.Native.Nat.{◌-◌}
use mathlib.Core.Path.{sym, ap, ◌∙◌}
use native.Mathlib.Omega.{arith}
use Rattle.parts.specs.Parts.{is_seq_head, settle_first, settle_more, settle_less, settle_fits, settle_done}
use Rattle.parts.proofs.Arms.{no_seq}
use Rattle.parts.proofs.settle.Goals as goal

pub loop-first-init : goal.loop-first-init
loop-first-init c =
    let a = c.args in
    settle_first a.stmts.now a.b a.n a.parts.now (a.n - 1) _ c.requires (omega arith) c.from-s.ensures

pub returns : goal.returns
returns c =
    let l = c.loop-first in
    let a = c.args in
    settle_done a.stmts.now a.b a.n a.parts.now l.last l.s l.parts l.invariant (ap is_seq_head (sym c.stmt_at.ensures) ∙ no_seq c.stmt_at.result c.in_default.not-Seq)

pub bounds-parts-b-in-Seq-2 : goal.bounds-parts-b-in-Seq-2
bounds-parts-b-in-Seq-2 c =
    let l = c.loop-first in
    let a = c.args in
    omega (arith, settle_fits a.stmts.now a.b a.n a.parts.now l.last l.s l.parts l.invariant c.in-Seq.first c.in-Seq.second (sym c.stmt_at.ensures ∙ c.in-Seq.is), l.invariant.ready.row.inside)

pub loop-first-smaller : goal.loop-first-smaller
loop-first-smaller c =
    let l = c.loop-first in
    let a = c.args in
    rw c.from-s-in-Seq.ensures (settle_less a.stmts.now a.b a.n a.parts.now l.last l.s l.parts l.invariant c.in-Seq.first c.in-Seq.second (sym c.stmt_at.ensures ∙ c.in-Seq.is))

pub loop-first-preserved : goal.loop-first-preserved
loop-first-preserved c =
    let l = c.loop-first in
    let a = c.args in
    rw c.from-s-in-Seq.ensures (settle_more a.stmts.now a.b a.n a.parts.now l.last l.s l.parts l.invariant c.in-Seq.first c.in-Seq.second (sym c.stmt_at.ensures ∙ c.in-Seq.is))
