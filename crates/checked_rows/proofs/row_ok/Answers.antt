-- `checked_rows::row_ok` meets its contract: not too many parts, zeros, the parts, the head. Assumes nothing.
use Rattle.std.proofs.Common.{ℕ, ◌≡◌, ◌+◌, ◌*◌, ◌-◌, ◌≤◌, Bool, true, false, true≢false, not, eqb, get_or, sym, ◌∙◌, eq-eqb}
use mir.Val.{bool_byte}
use native.Mathlib.Omega.{arith}
use Rattle.lists.specs.Tells.{Tells, form, at_most_lem, second, first_only}
use Rattle.programs.specs.Sizes.{STMTS}
use Rattle.tables.specs.Decode.{count}
use Rattle.zeros.specs.Zeros.{Zeros, zeros_told}
use Rattle.checked_rows.specs.CheckedRows.{one, PartsFit, row_told, head_told}
use Rattle.checked_rows.proofs.row_ok.Goals as goal
use Rattle.checked_rows.proofs.row_ok.Goals.{Joined-count-le-ROW, then-count-le-ROW, else-count-le-ROW, Joined-all_are, then-all_are, else-all_are}

-- a test as a number
counted : (b : Bool) (n : ℕ) → n ≡ bool_byte b → n ≡ one b
counted true n e = e
counted false n e = e

-- the count and the zeros
two : (c : Joined-count-le-ROW) → Tells c.if-count-le-ROW.value ((get_or c.args.flat.now.counts c.args.i 0 ≤ 33) × Zeros (c.args.i * 33 + get_or c.args.flat.now.counts c.args.i 0) (c.args.i * 33 + 33) c.args.flat.now.parts)
two c = elim c.if-count-le-ROW.branch [
  | then-count-le-ROW w ↦ rw w.value-is (form (zeros_told (record { ordered = omega arith; inside = omega (arith, c.requires.long, c.requires.room) }) w.all_are.ensures) (λ z. (w.if-count-le-ROW.true, z)) (λ h. h.1))
  | else-count-le-ROW w ↦ rw w.value-is (form (at_most_lem _ 33) (λ l. absurd (omega (arith, l, w.if-count-le-ROW.false))) (λ h. h.0))
]

-- and the parts
three : (c : Joined-all_are) {P : Type 0} → Tells c.if-count-le-ROW.value P → Tells c.if-all_are.value (P × PartsFit c.args.heights.now c.args.served.now c.args.flat.now.parts (count STMTS c.args.stmts.now) (c.args.i * 33)
    (get_or c.args.flat.now.counts c.args.i 0) (get_or c.args.flat.now.kinds c.args.i 0) (one (not (eqb (get_or c.args.flat.now.held c.args.i 0) 0))))
three c t = elim c.if-all_are.branch [
  | then-all_are w ↦ second t w.if-all_are.true w.value-is (rw (w.stmt_count.ensures, w.from.ensures, counted _ _ w.from-then-all_are.ensures) at w.parts_fit.ensures)
  | else-all_are w ↦ first_only t w.if-all_are.false w.value-is
]

pub returns-then-count-eq0 : goal.returns-then-count-eq0
returns-then-count-eq0 c =
    let a = c.args in
    let f = a.flat.now in
    let h = (three (goal.at.returns-then-count-eq0 c).Joined-all_are (two (goal.at.returns-then-count-eq0 c).Joined-count-le-ROW)).holds c.if-parts_fit.true in
    row_told a.stmts.now a.heights.now a.served.now f.parts a.i (get_or f.counts a.i 0) (get_or f.kinds a.i 0) (not (eqb (get_or f.held a.i 0) 0)) c.requires
    (record {
      holds = λ e. record { few = h.0.0; behind = h.0.1; each = h.1; head = λ l e. absurd (omega (arith, e, c.if-count-eq0.true)) };
      test = λ r. eq-eqb _ 0 c.if-count-eq0.true;
    })

pub returns-else-count-eq0 : goal.returns-else-count-eq0
returns-else-count-eq0 c =
    let a = c.args in
    let f = a.flat.now in
    let n = get_or f.counts a.i 0 in
    let h = (three (goal.at.returns-else-count-eq0 c).Joined-all_are (two (goal.at.returns-else-count-eq0 c).Joined-count-le-ROW)).holds c.if-parts_fit.true in
    let place : a.i * 33 + n - 1 ≡ a.i * 33 + (n - 1) = omega (arith, c.if-count-eq0.false) in
    row_told a.stmts.now a.heights.now a.served.now f.parts a.i n (get_or f.kinds a.i 0) (not (eqb (get_or f.held a.i 0) 0)) c.requires
    (head_told a.stmts.now a.heights.now a.served.now f.parts (a.i * 33) n (get_or f.kinds a.i 0) (n - 1) (not (eqb (get_or f.held a.i 0) 0)) h.0.0 h.0.1 h.1 (omega (arith, c.if-count-eq0.false))
    (rw (c.is_alone.ensures, c.from-else-count-eq0.ensures, place) at c.head_fits.ensures))

pub returns-else-parts_fit : goal.returns-else-parts_fit
returns-else-parts_fit c =
    let a = c.args in
    let f = a.flat.now in
    let t = three (goal.at.returns-else-parts_fit c).Joined-all_are (two (goal.at.returns-else-parts_fit c).Joined-count-le-ROW) in
    row_told a.stmts.now a.heights.now a.served.now f.parts a.i (get_or f.counts a.i 0) (get_or f.kinds a.i 0) (not (eqb (get_or f.held a.i 0) 0)) c.requires
    (record { holds = λ e. absurd (true≢false (sym e ∙ c.if-parts_fit.false)); test = λ r. t.test ((r.few, r.behind), r.each) })
