-- `tables::defers` meets its contract, whatever the entries and the exits are: an event is among those kept exactly where its flag is set.
use Rattle.std.proofs.Common.{◌≡◌, true, false, sym, ap, ◌∙◌, true≢false, eqb}
use Rattle.lists.specs.Lists.{any}
use Rattle.programs.specs.Program.{State}
use Rattle.tables.specs.Decode.{no_state, state_in, states_of}
use Rattle.tables.specs.Numbered.{at_there, at_absent}
use Rattle.tables.specs.Tables.{deferred_there, deferred_absent}
use Rattle.tables.proofs.defers.Goals.{then-there, else-there}
use Rattle.tables.proofs.defers.Goals as goal

pub returns-then-there-2 : goal.returns-then-there-2
unfolding states_of
returns-then-there-2 c entries exits =
    let a = c.args in
    elim c.if-there.branch [
      | then-there w ↦
          let t = sym c.there.ensures ∙ w.if-there.true in
          let k = sym w.there-then-there.ensures ∙ (sym w.value-is ∙ c.if-there-2.true) in
          sym
          (ap (λ (q : State). any (eqb a.e) q.defer) (at_there (state_in a.kinds.now entries exits a.flags.now) no_state a.n c.state_count.ensures t)
          ∙ deferred_there a.flags.now a.n a.e k)
      | else-there w ↦ absurd (true≢false (sym c.if-there-2.true ∙ (w.value-is ∙ w.if-there.false)))
    ]

pub returns-else-there-2 : goal.returns-else-there-2
unfolding states_of
returns-else-there-2 c entries exits =
    let a = c.args in
    elim c.if-there.branch [
      | then-there w ↦
          let t = sym c.there.ensures ∙ w.if-there.true in
          let k = sym w.there-then-there.ensures ∙ (sym w.value-is ∙ c.if-there-2.false) in
          c.if-there-2.false
          ∙ sym
          (ap (λ (q : State). any (eqb a.e) q.defer) (at_there (state_in a.kinds.now entries exits a.flags.now) no_state a.n c.state_count.ensures t)
          ∙ deferred_absent a.flags.now a.n a.e k)
      | else-there w ↦
          let t = sym c.there.ensures ∙ w.if-there.false in
          c.if-there-2.false
          ∙ sym (ap (λ (q : State). any (eqb a.e) q.defer) (at_absent (state_in a.kinds.now entries exits a.flags.now) no_state a.n c.state_count.ensures t))
    ]
