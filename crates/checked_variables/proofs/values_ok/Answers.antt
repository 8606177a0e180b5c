-- `checked_variables::values_ok` meets its contract: the count, the variables' numbers, the zeros, and the machine's own three places. Assumes nothing.
use Rattle.std.specs.Prelude.{◌+◌, ◌*◌, ◌≤◌, ◌≡◌, get_or}
use native.Mathlib.Omega.{arith}
use Rattle.lists.specs.Lists.{keep}
use Rattle.rows.specs.Part.{part}
use Rattle.programs.specs.Program.{Program, is_of}
use Rattle.tables.specs.Decode.{events_of, variables_of}
use Rattle.lists.specs.Tells.{Tells, form, at_most_lem, second, first_only, refuted, denied}
use Rattle.zeros.specs.Zeros.{Zeros, zeros_told}
use Rattle.checked_variables.specs.Variables.{Fits}
use Rattle.checked_variables.specs.Room.{told_few, told_fits, told_zeros, told_own}
use Rattle.checked_variables.proofs.values_ok.Goals as goal
use Rattle.checked_variables.proofs.values_ok.Goals.{Joined-m-le-VARIABLES, then-m-le-VARIABLES, else-m-le-VARIABLES, Joined-variables_ok, then-variables_ok, else-variables_ok}

-- the count and the variables' numbers
two : (c : Joined-m-le-VARIABLES) (p : Program) → p.events ≡ events_of c.args.program.now.event_types
    → Tells c.if-m-le-VARIABLES.value ((c.variables_of-m.result ≤ 16) × Fits p c.args.flat.now.next (keep (is_of (get_or c.args.flat.now.kinds c.args.i 0)) (variables_of c.args.program.now.variable_of c.args.program.now.variable_type)) (part (c.args.i * 19) 19 c.args.flat.now.values))
two c p told = elim c.if-m-le-VARIABLES.branch [
  | then-m-le-VARIABLES w ↦ rw w.value-is (form (w.variables_ok.ensures p told) (λ a. (w.if-m-le-VARIABLES.true, a)) (λ h. h.1))
  | else-m-le-VARIABLES w ↦ rw w.value-is (form (at_most_lem _ 16) (λ l. absurd (omega (arith, l, w.if-m-le-VARIABLES.false))) (λ h. h.0))
]

-- and the zeros
three : (c : Joined-variables_ok) {P : Type 0} → Tells c.if-m-le-VARIABLES.value ((c.variables_of-m.result ≤ 16) × P)
    → Tells c.if-variables_ok.value (((c.variables_of-m.result ≤ 16) × P) × Zeros (c.args.i * 19 + c.variables_of-m.result) (c.args.i * 19 + 16) c.args.flat.now.values)
three c t = elim c.if-variables_ok.branch [
  | then-variables_ok w ↦ second t w.if-variables_ok.true w.value-is (zeros_told (record { ordered = omega (arith, (t.holds w.if-variables_ok.true).0); inside = omega (arith, c.requires.0, c.requires.1) }) w.all_are.ensures)
  | else-variables_ok w ↦ first_only t w.if-variables_ok.false w.value-is
]

pub variables_ok-requires : goal.variables_ok-requires
variables_ok-requires c =
    (c.requires.0, c.requires.1, omega (arith, rw c.from.ensures at (c.variables_of-m.ensures c.args.program.now.variable_type), c.if-m-le-VARIABLES.true))

pub returns-then-all_are : goal.returns-then-all_are
returns-then-all_are c = λ p vs es.
    let f = c.args.flat.now in
    let q = c.args.program.now in
    let h = (three (goal.at.returns-then-all_are c).Joined-variables_ok (two (goal.at.returns-then-all_are c).Joined-m-le-VARIABLES p es)).holds c.if-all_are.true in
    told_own p f.next (get_or f.kinds c.args.i 0) (get_or f.ids c.args.i 0) c.variables_of-m.result (variables_of q.variable_of q.variable_type) f.values c.args.i vs (rw c.from.ensures at (c.variables_of-m.ensures q.variable_type))
    c.requires.0 c.requires.1 c.own_ok.result h.0.0 h.0.1 h.1 (c.own_ok.ensures p es)

pub returns-else-all_are : goal.returns-else-all_are
returns-else-all_are c = λ p vs es.
    let f = c.args.flat.now in
    let q = c.args.program.now in
    let kind = get_or f.kinds c.args.i 0 in
    let this = get_or f.ids c.args.i 0 in
    let vars = variables_of q.variable_of q.variable_type in
    let m = c.variables_of-m.result in
    let e = rw c.from.ensures at (c.variables_of-m.ensures q.variable_type) in
    rw c.if-all_are.false (refuted (λ v.
    denied (three (goal.at.returns-else-all_are c).Joined-variables_ok (two (goal.at.returns-else-all_are c).Joined-m-le-VARIABLES p es)) c.if-all_are.false (
      (
        told_few p f.next kind this m vars f.values c.args.i vs e c.requires.0 c.requires.1 v,
        told_fits p f.next kind this m vars f.values c.args.i vs e c.requires.0 c.requires.1 v,
      ),
      told_zeros p f.next kind this m vars f.values c.args.i vs e c.requires.0 c.requires.1 v,
    )))
