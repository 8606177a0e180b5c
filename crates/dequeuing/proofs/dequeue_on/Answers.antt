-- `dequeuing::dequeue_on` meets its contract: the two ways out are the laws of specs/Dequeuing.antt. Assumes nothing.
use Rattle.std.proofs.Common.{◌≡◌, Err, get_or, arith, rules}
use Rattle.answers.specs.declared.Answer.TheVariants.{UnableToStep}
use Rattle.dequeuing.specs.Dequeuing.{dequeue_deep, dequeue_search, dequeue_queue, dequeue_asked, dequeue_take, dequeue_none, dequeue_some}
use Rattle.dequeuing.proofs.dequeue_on.Goals as goal

pub top_state-n-requires : goal.top_state-n-requires
top_state-n-requires c =
    (_, dequeue_deep c.requires)

pub top_map-b-requires : goal.top_map-b-requires
top_map-b-requires c =
    (_, (_, dequeue_deep c.requires))

pub first_free-requires : goal.first_free-requires
first_free-requires c =
    rw (c.top_map-b.ensures, c.top_state-n.ensures) (dequeue_search c.requires)

pub returns-in_err-j : goal.returns-in_err-j
returns-in_err-j c h =
    let a = c.args in
    let r : c.from_residual.result ≡ Err UnableToStep = search rules in
    rw r (dequeue_none h (get_or a.waiting.now a.k 0)
    (λ p entries exits t e. rw (c.in_err-j.ensures.ok_part, c.top_map-b.ensures, c.top_state-n.ensures) at (c.first_free.ensures.first p entries exits t e)) (omega arith))

pub overflow_add-x : goal.overflow_add-x
overflow_add-x c =
    let q = dequeue_queue c.requires in
    search rules

pub offset_bounds-pairs-k : goal.offset_bounds-pairs-k
offset_bounds-pairs-k c =
    let q = dequeue_queue c.requires in
    search rules

pub bounds-pairs-k : goal.bounds-pairs-k
bounds-pairs-k c =
    let q = dequeue_queue c.requires in
    search rules

pub exit_or_skip-s-requires : goal.exit_or_skip-s-requires
exit_or_skip-s-requires c =
    rw (c.top_map-b.ensures, c.top_state-n.ensures) (dequeue_asked c.requires _ (λ p entries exits t e. rw (c.in_ok-j.ensures.ok_part, c.top_map-b.ensures, c.top_state-n.ensures) at (c.first_free.ensures.first p entries exits t e)) (rw c.in_ok-j.ensures.ok_part at c.first_free.ensures.inside) _ c.event_of.ensures)

pub take-requires : goal.take-requires
take-requires c =
    dequeue_take c.requires _ (λ p entries exits t e. rw (c.in_ok-j.ensures.ok_part, c.top_map-b.ensures, c.top_state-n.ensures) at (c.first_free.ensures.first p entries exits t e)) (rw c.in_ok-j.ensures.ok_part at c.first_free.ensures.inside) _

pub remove_on-requires : goal.remove_on-requires
remove_on-requires c =
    (dequeue_queue c.requires, (rw c.in_ok-j.ensures.ok_part at c.first_free.ensures.inside))

pub returns : goal.returns
returns c h =
    dequeue_some h _ (λ p entries exits t e. rw (c.in_ok-j.ensures.ok_part, c.top_map-b.ensures, c.top_state-n.ensures) at (c.first_free.ensures.first p entries exits t e)) (rw c.in_ok-j.ensures.ok_part at c.first_free.ensures.inside) _ c.take.ensures c.remove_on.ensures _ c.event_of.ensures (rw (c.top_map-b.ensures, c.top_state-n.ensures) at c.exit_or_skip-s.ensures)
