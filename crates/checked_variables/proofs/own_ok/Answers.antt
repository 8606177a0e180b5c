-- `checked_variables::own_ok` meets its contract: each of the three places by its own test. Assumes nothing.
use Rattle.std.specs.Prelude.{◌≡◌, ◌+◌, ◌*◌, get_or, length}
use mathlib.Core.Path.{ap, sym, ◌∙◌}
use Rattle.lists.specs.Tells.{Tells, form, equal, refuted, denied}
use Rattle.values.specs.declared.Ty.TheVariants.{Event as event}
use Rattle.values.specs.Values.{id_of}
use Rattle.programs.specs.Program.{Program}
use Rattle.codes.specs.Codes.{code_of}
use Rattle.tables.specs.Decode.{events_of}
use Rattle.tables.specs.Tables.{events_length}
use Rattle.checked_values.specs.Numbers.{TypedNumber}
use Rattle.checked_variables.specs.Room.{own_told, own_is, msg_is}
use Rattle.checked_variables.proofs.own_ok.Goals.{After-event_count-events, Joined-flat-b, then-flat-b, else-flat-b}
use Rattle.checked_variables.proofs.own_ok.Goals as goal

-- as many events as are counted
many : (c : After-event_count-events) (p : Program) → p.events ≡ events_of c.args.program.now.event_types → length p.events ≡ c.event_count-events.result
many c p told = ap length told ∙ events_length c.args.program.now.event_types ∙ sym c.event_count-events.ensures

-- the first two tests
two : (c : Joined-flat-b) (p : Program) → length p.events ≡ c.event_count-events.result
    → Tells c.if-flat-b.value ((get_or c.args.flat.now.values (c.args.i * 19 + 16) 0 ≡ code_of (id_of (get_or c.args.flat.now.ids c.args.i 0))) × TypedNumber p c.args.flat.now.next event (get_or c.args.flat.now.values (c.args.i * 19 + 17) 0))
two c p q = elim c.if-flat-b.branch [
  | then-flat-b w ↦ rw w.value-is (form (w.typed_ok.ensures p q) (λ t. (w.if-flat-b.true ∙ c.code.ensures, t)) (λ h. h.1))
  | else-flat-b w ↦ rw w.value-is (form (equal _ _) (λ l. absurd (w.if-flat-b.false l)) (λ h. h.0 ∙ sym c.code.ensures))
]

pub returns-then-typed_ok : goal.returns-then-typed_ok
returns-then-typed_ok c = λ p told.
    let f = c.args.flat.now in
    let q = many (goal.at.returns-then-typed_ok c).After-event_count-events p told in
    let h = (two (goal.at.returns-then-typed_ok c).Joined-flat-b p q).holds c.if-typed_ok.true in
    own_told p f.next (get_or f.ids c.args.i 0) (c.args.i * 19) f.values c.value_ok.result h.0 h.1 (c.value_ok.ensures p q)

pub returns-else-typed_ok : goal.returns-else-typed_ok
returns-else-typed_ok c = λ p told.
    let f = c.args.flat.now in
    let q = many (goal.at.returns-else-typed_ok c).After-event_count-events p told in
    rw c.if-typed_ok.false (refuted (λ h. denied (two (goal.at.returns-else-typed_ok c).Joined-flat-b p q) c.if-typed_ok.false
    (own_is p f.next (get_or f.ids c.args.i 0) (c.args.i * 19) f.values h, msg_is p f.next (get_or f.ids c.args.i 0) (c.args.i * 19) f.values h)))
