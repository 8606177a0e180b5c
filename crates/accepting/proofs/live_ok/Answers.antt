-- `accepting::live_ok` meets its contract: test by test, each where those before it have passed. Assumes nothing.
use Rattle.std.specs.Prelude.{◌*◌, ◌<◌, get_or, refl}
use native.Mathlib.Omega.{arith}
use Rattle.lists.specs.Lists.{There}
use Rattle.lists.specs.Tells.{Tells, form, less, there_is, second, first_only}
use Rattle.rows.specs.Part.{part}
use Rattle.programs.specs.Program.{Program}
use Rattle.configs.specs.Decode.{pending_of}
use Rattle.checked_values.specs.Numbers.{HeldNumber}
use Rattle.checked_variables.specs.Variables.{ValuesHeld}
use Rattle.checked_stacks.specs.CheckedStacks.{StackHeld}
use Rattle.checked_rows.specs.CheckedRows.{RowHeld}
use Rattle.accepting.specs.Asked.{ToldOf, frames_told, row_told, live_told}
use Rattle.accepting.proofs.live_ok.Goals as goal
use Rattle.accepting.proofs.live_ok.Goals.{Joined-flat-i, then-flat-i, else-flat-i, Joined-there, then-there, else-there, Joined-row_ok, then-row_ok, else-row_ok, Joined-frames_ok, then-frames_ok, else-frames_ok, Joined-values_ok, then-values_ok, else-values_ok}

-- the number and the kind
two : (c : Joined-flat-i) → Tells c.if-flat-i.value ((get_or c.args.flat.now.ids c.args.i 0 < c.args.flat.now.next) × There c.args.program.now.kinds (get_or c.args.flat.now.kinds c.args.i 0))
two c = elim c.if-flat-i.branch [
  | then-flat-i w ↦ rw w.value-is (form (rw (w.there.ensures, w.from.ensures, w.from-then-flat-i.ensures) (there_is _ _)) (λ t. (w.if-flat-i.true, t)) (λ h. h.1))
  | else-flat-i w ↦ rw w.value-is (form (less _ _) (λ l. absurd (omega (arith, l, w.if-flat-i.false))) (λ h. h.0))
]

-- and the row
three : (c : Joined-there) {P : Type 0} → Tells c.if-flat-i.value P → (p : Program) → ToldOf c.args.program.now c.args.heights.now c.args.served.now p
    → Tells c.if-there.value (P × RowHeld p (get_or c.args.flat.now.kinds c.args.i 0) (pending_of (get_or c.args.flat.now.held c.args.i 0)) (get_or c.args.flat.now.counts c.args.i 0) (part (c.args.i * 33) 33 c.args.flat.now.parts))
three c s p t = elim c.if-there.branch [
  | then-there w ↦ second s w.if-there.true w.value-is (w.row_ok.ensures p _ (row_told t (get_or c.args.flat.now.held c.args.i 0)))
  | else-there w ↦ first_only s w.if-there.false w.value-is
]

-- and the stack
four : (c : Joined-row_ok) {P : Type 0} → Tells c.if-there.value P → (p : Program) → ToldOf c.args.program.now c.args.heights.now c.args.served.now p
    → Tells c.if-row_ok.value (P × StackHeld p (get_or c.args.flat.now.kinds c.args.i 0) (get_or c.args.flat.now.depths c.args.i 0) (part (c.args.i * 8) 8 c.args.flat.now.states) (part (c.args.i * 512) 512 c.args.flat.now.maps))
four c s p t = elim c.if-row_ok.branch [
  | then-row_ok w ↦ second s w.if-row_ok.true w.value-is (w.frames_ok.ensures p (frames_told t _ refl))
  | else-row_ok w ↦ first_only s w.if-row_ok.false w.value-is
]

-- and the values
five : (c : Joined-frames_ok) {P : Type 0} → Tells c.if-row_ok.value P → (p : Program) → ToldOf c.args.program.now c.args.heights.now c.args.served.now p
    → Tells c.if-frames_ok.value (P × ValuesHeld p c.args.flat.now.next (get_or c.args.flat.now.kinds c.args.i 0) (get_or c.args.flat.now.ids c.args.i 0) (part (c.args.i * 19) 19 c.args.flat.now.values))
five c s p t = elim c.if-frames_ok.branch [
  | then-frames_ok w ↦ second s w.if-frames_ok.true w.value-is (w.values_ok.ensures p t.variables_are t.events_are)
  | else-frames_ok w ↦ first_only s w.if-frames_ok.false w.value-is
]

-- and what is pending
six : (c : Joined-values_ok) {P : Type 0} → Tells c.if-frames_ok.value P → (p : Program) → ToldOf c.args.program.now c.args.heights.now c.args.served.now p
    → Tells c.if-values_ok.value (P × HeldNumber p c.args.flat.now.next (get_or c.args.flat.now.held c.args.i 0))
six c s p t = elim c.if-values_ok.branch [
  | then-values_ok w ↦ second s w.if-values_ok.true w.value-is (w.pending_ok.ensures p t.events_are)
  | else-values_ok w ↦ first_only s w.if-values_ok.false w.value-is
]

pub row_ok-requires : goal.row_ok-requires
row_ok-requires c =
    let h = (two (goal.at.row_ok-requires c).Joined-flat-i).holds c.if-there.true in
    record { long = c.requires.0.sized.parts_1056; room = c.requires.1; from_1 = h.1.0; kinds = omega (arith, h.1.1, c.requires.0.few) }

pub frames_ok-requires : goal.frames_ok-requires
frames_ok-requires c =
    record { states_long = c.requires.0.sized.states_256; maps_long = c.requires.0.sized.maps_16384; room = c.requires.1; events_few = omega arith }

pub values_ok-requires : goal.values_ok-requires
values_ok-requires c = (c.requires.0.sized.values_608, c.requires.1)

pub queue_ok-requires : goal.queue_ok-requires
queue_ok-requires c = (c.requires.0.sized.pairs_512, c.requires.1)

pub returns-then-pending_ok : goal.returns-then-pending_ok
returns-then-pending_ok c = λ p t.
    let g = goal.at.returns-then-pending_ok c in
    live_told t _ _ c.requires.2
    (second (six g.Joined-values_ok (five g.Joined-frames_ok (four g.Joined-row_ok (three g.Joined-there (two g.Joined-flat-i) p t) p t) p t) p t) c.if-pending_ok.true refl (c.queue_ok.ensures p t.events_are))

pub returns-else-pending_ok : goal.returns-else-pending_ok
returns-else-pending_ok c = λ p t.
    let g = goal.at.returns-else-pending_ok c in
    live_told t _ _ c.requires.2
    (first_only (six g.Joined-values_ok (five g.Joined-frames_ok (four g.Joined-row_ok (three g.Joined-there (two g.Joined-flat-i) p t) p t) p t) p t) c.if-pending_ok.false refl)
