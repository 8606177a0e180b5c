-- `referring::moves_fault` meets its contract: the first faults of the steps, the calls, the acts and `start`, one behind the other. Assumes nothing.
use Rattle.std.proofs.Common.{◌≡◌, ℕ, ◌+◌, ◌-◌, ◌≤◌, min, Bool, Option, List, refl, ap, sym, ◌∙◌, zero-add, arith, rules}
use Rattle.lists.specs.Lists.{there}
use Rattle.lists.specs.Check.{Check}
use Rattle.programs.specs.Program.{Move}
use Rattle.soundness.specs.Asked.{move_refers, act_refers, refers}
use Rattle.tables.specs.Decode.{move_in, moves_of}
use Rattle.index.specs.Saying.{moves_cut}
use Rattle.faults.specs.Read.{no_move, moves_length, moves_at, moves_fault_is}
use Rattle.faults.specs.Faults.{row_fault, line_fault}
use Rattle.faults.specs.Lines.{line_of, Finds, finds_row}
use Rattle.referring.proofs.moves_fault.Goals as goal

-- the first faulty one of the n moves from row a on, where number i is asked as the move in row a + (i - 1)
moves_found : (f : Move → Check) (moves : List ℕ) (a n : ℕ) {said : ℕ → Bool → Type 0} {m : ℕ} {r : Option ℕ} → Finds said m r → m ≡ min n (4096 - a)
    → ((i : ℕ) (b : Bool) → 1 ≤ i → i ≤ m → said i b → b ≡ (f (move_in moves (a + (i - 1)))).test) → r ≡ line_of (row_fault (λ i t. f t) (moves_of moves a n))
moves_found f moves a n h e t =
    finds_row (λ i m. f m) no_move (moves_of moves a n) h (moves_length moves a n ∙ sym e) (λ i b low high w.
    let k : i - 1 + 1 ≡ i = omega (arith, low) in
    t i b low high w ∙ ap (λ (m : Move). (f m).test) (sym (rw k at (moves_at moves a n (i - 1) (omega (arith, low, high, e))))))

pub returns-clause-line : goal.returns-clause-line
returns-clause-line c = λ p n h g start.
    let q = c.args.program.now in
    let behind = c.row_after-behind.result in
    let s : c.first_bad-s.result ≡ line_of (row_fault (λ i m. move_refers p m) (moves_of q.moves 0 q.steps))
    = moves_found (move_refers p) q.moves 0 q.steps c.first_bad-s.ensures c.rows_from-steps.ensures (λ i b low high w. rw zero-add (search rules)) in
    let k : c.first_bad-k.result ≡ line_of (row_fault (λ i m. move_refers p m) (moves_of q.moves q.steps q.calls))
    = moves_found (move_refers p) q.moves q.steps q.calls c.first_bad-k.ensures c.rows_from-calls.ensures (λ i b low high w. search rules) in
    let t : c.first_bad-t.result ≡ line_of (row_fault (λ i m. act_refers p m) (moves_of q.moves (q.steps + q.calls) q.acts))
    = moves_found (act_refers p) q.moves behind q.acts c.first_bad-t.ensures c.rows_from-acts.ensures (λ i b low high w. search rules)
    ∙ ap (λ (b : ℕ). line_of (row_fault (λ i m. act_refers p m) (moves_of q.moves b q.acts))) c.row_after-behind.ensures
    ∙ ap (λ (l : List Move). line_of (row_fault (λ i m. act_refers p m) l)) (moves_cut q.moves (q.steps + q.calls) q.acts) in
    let k_there : there p.machines p.start ≡ c.there.result = rw (n.machines, start) (search rules) in
    let last : c.fault-last.result ≡ line_of (line_fault ((refers p).start p.start)) = c.fault-last.ensures.line ∙ rw k_there refl in
    let rest : min q.acts (4096 - behind) ≡ min q.acts (4096 - (q.steps + q.calls)) = omega (arith, c.row_after-behind.ensures) in
    c.joined-3.ensures.line _ _ s (c.joined-2.ensures.line _ _ k (c.joined.ensures.line _ _ t last))
    ∙ rw (c.rows_from-steps.ensures, c.rows_from-calls.ensures, c.rows_from-acts.ensures, rest) (ap line_of (moves_fault_is p (refers p) g refl refl refl refl refl))
