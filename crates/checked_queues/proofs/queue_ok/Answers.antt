-- `checked_queues::queue_ok` meets its contract: the count, then the pairs, and then the zeros decide. Assumes nothing.
use Rattle.std.specs.Prelude.{◌+◌, ◌-◌, ◌*◌, ◌≤◌, ◌≡◌, get_or}
use Rattle.std.proofs.Common.{arith}
use Rattle.rows.specs.Part.{part, part_length}
use Rattle.lists.specs.Tells.{Tells, form, at_most_lem, refuted, denied}
use Rattle.programs.specs.Program.{Program}
use Rattle.tables.specs.Decode.{events_of}
use Rattle.zeros.specs.Zeros.{zeros_told}
use Rattle.checked_queues.specs.Queues.{Apart, held_few, told_pairs, told_zeros}
use Rattle.checked_queues.proofs.queue_ok.Goals as goal
use Rattle.checked_queues.proofs.queue_ok.Goals.{Joined-n-le-QUEUE, then-n-le-QUEUE, else-n-le-QUEUE}

-- the count and the pairs
two : (c : Joined-n-le-QUEUE) (p : Program) → p.events ≡ events_of c.args.types.now
    → Tells c.if-n-le-QUEUE.value ((get_or c.args.flat.now.waiting c.args.i 0 ≤ 16) × Apart p c.args.flat.now.next (part (c.args.i * 16) (get_or c.args.flat.now.waiting c.args.i 0) c.args.flat.now.pairs))
unfolding part
two c p told =
    let b = c.args.i * 16 in
    let n = get_or c.args.flat.now.waiting c.args.i 0 in
    let width : b + n - b ≡ n = omega arith in
    elim c.if-n-le-QUEUE.branch [
      | then-n-le-QUEUE w ↦ rw w.value-is (form (rw width at (w.pairs_ok.ensures p told)) (λ a. (w.if-n-le-QUEUE.true, a)) (λ h. h.1))
      | else-n-le-QUEUE w ↦ rw w.value-is (form (at_most_lem _ 16) (λ l. absurd (omega (arith, l, w.if-n-le-QUEUE.false))) (λ h. h.0))
    ]

pub returns-then-pairs_ok : goal.returns-then-pairs_ok
returns-then-pairs_ok c = λ p told.
    let f = c.args.flat.now in
    let h = (two (goal.at.returns-then-pairs_ok c).Joined-n-le-QUEUE p told).holds c.if-pairs_ok.true in
    told_zeros p f.next _ f.pairs c.args.i c.requires.0 c.requires.1 c.all_are.result h.0 h.1 (zeros_told (record { ordered = omega arith; inside = omega (arith, c.requires.0, c.requires.1, h.0) }) c.all_are.ensures)

pub returns-else-pairs_ok : goal.returns-else-pairs_ok
returns-else-pairs_ok c = λ p told.
    let f = c.args.flat.now in
    rw c.if-pairs_ok.false (refuted (λ k. denied (two (goal.at.returns-else-pairs_ok c).Joined-n-le-QUEUE p told) c.if-pairs_ok.false (
      held_few p f.next _ (part (c.args.i * 16) 16 f.pairs) (part_length (c.args.i * 16) 16 f.pairs (omega (arith, c.requires.0, c.requires.1))) k,
      told_pairs p f.next _ f.pairs c.args.i c.requires.0 c.requires.1 k,
    )))
