-- `checked_values::pair_ok` meets its contract: a pair whose event is there is asked its value. Assumes nothing.
use mathlib.Core.Path.{◌≡◌, ap, sym, ◌∙◌}
use mathlib.Core.List.{List}
use lib.ListN.{length}
use Rattle.lists.specs.Lists.{at}
use Rattle.values.specs.declared.Ty.{Ty}
use Rattle.values.specs.declared.Ty.TheVariants.{Void as void}
use Rattle.programs.specs.Program.{event_type}
use Rattle.codes.specs.Pairs.{pair_event}
use Rattle.tables.specs.Tables.{events_length}
use Rattle.lists.specs.Tells.{refuted}
use Rattle.checked_values.specs.Tests.{pair_told, pair_absent}
use Rattle.checked_values.proofs.pair_ok.Goals as goal

pub returns-then-there : goal.returns-then-there
returns-then-there c =
    let a = c.args in
    let n = c.event_count-n in
    λ p q.
    let l : length p.events ≡ n.result = ap length q ∙ events_length a.types.now ∙ sym n.ensures in
    let t : c.event_type.result ≡ event_type p (pair_event a.x) = rw c.event_of-e.ensures at c.event_type.ensures ∙ sym (ap (λ (l : List Ty). at void l (pair_event a.x)) q) in
    pair_told p a.next a.x c.typed_ok.result n.result l (rw c.event_of-e.ensures at (sym c.there.ensures ∙ c.if-there.true))
    (rw (← t) (c.typed_ok.ensures p l))

pub returns-else-there : goal.returns-else-there
returns-else-there c =
    let a = c.args in
    let n = c.event_count-n in
    λ p q.
    let l : length p.events ≡ n.result = ap length q ∙ events_length a.types.now ∙ sym n.ensures in
    rw c.if-there.false (refuted (pair_absent p a.next a.x n.result l (rw c.event_of-e.ensures at (sym c.there.ensures ∙ c.if-there.false))))
