-- `singling::first_double` meets its contract: before a turn the first i moves are marked, and the first of them that doubles one is known. Assumes nothing.
use Rattle.std.proofs.Common.{◌≡◌, ℕ, ◌+◌, Bool, true, false, cond, not, List, ◌++◌, take, refl, ap, ◌∙◌, append-nil, arith}
use Rattle.programs.specs.Program.{Move}
use Rattle.tables.specs.Decode.{move_in, moves_of}
use Rattle.faults.specs.Faults.{row_fault}
use Rattle.faults.specs.Lines.{line_of}
use Rattle.faults.specs.Read.{moves_length}
use Rattle.singling.specs.Marking.{Marked}
use Rattle.singling.specs.Singling.{double, Doubling, doubling_more, doubling_all, moves_get}
use Rattle.singling.proofs.first_double.Goals as goal

-- the fault of a move that doubles one
fault_again : (b : Bool) → cond {A = ℕ} (not b) 0 1 ≡ cond b 1 0
fault_again true = refl
fault_again false = refl

-- what is known after the first i moves
known : (k ms : List Move) (i : ℕ) (seen : List ℕ) → Marked (k ++ take i ms) seen → Doubling k ms i (row_fault (double k ms) (take i ms)) seen
known k ms i seen m = record { fault = refl; marked = m }

pub loop-i-init : goal.loop-i-init
loop-i-init c = (omega arith, λ k h. (refl, rw (append-nil k) h))

pub loop-i-preserved : goal.loop-i-preserved
loop-i-preserved c =
    let l = c.loop-i in
    let a = c.args in
    let q = a.program.now in
    let ms = moves_of q.moves a.a a.n in (
      omega (arith, c.joined-first.ensures.next, c.fault.ensures.bound),
      λ k h.
          let inv = l.invariant.1 k h in
          let more = doubling_more k ms l.i _ _ _ l.seen _ (omega (arith, moves_length q.moves a.a a.n, c.rows_from-i-end.ensures)) (known k ms l.i l.seen inv.1)
          (rw (moves_get q.moves a.a a.n l.i (omega (arith, c.rows_from-i-end.ensures))) (rw (c.move_at-m.ensures.from, c.move_at-m.ensures.on) at (c.mark-again.ensures (k ++ take l.i ms) (move_in q.moves (a.a + l.i)).to inv.1))) refl in
          (c.joined-first.ensures.line _ _ inv.0 (c.fault.ensures.line ∙ ap line_of (fault_again c.mark-again.result)) ∙ ap line_of more.fault, more.marked),
    )

pub returns-clause-row : goal.returns-clause-row
returns-clause-row c =
    let l = c.loop-i in
    let a = c.args in
    let q = a.program.now in
    let ms = moves_of q.moves a.a a.n in
    λ k h.
    let inv = l.invariant.1 k h in
    let all = doubling_all k ms l.i _ l.seen (omega (arith, moves_length q.moves a.a a.n, c.rows_from-i-end.ensures)) (known k ms l.i l.seen inv.1) in
    (inv.0 ∙ ap line_of all.fault, all.marked)
