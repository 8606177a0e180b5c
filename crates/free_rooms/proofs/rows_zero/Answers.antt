-- `free_rooms::rows_zero` meets its contract: one row after the other. Assumes nothing.
use Rattle.std.specs.Prelude.{ℕ, ◌+◌, ◌*◌, ◌≤◌, List, Bool, length, refl}
use Rattle.std.proofs.Common.{arith}
use Rattle.lists.specs.Tells.{Tells, form, second, first_only}
use Rattle.zeros.specs.Zeros.{Run, Zeros, zeros_told}
use Rattle.configs.specs.declared.Flat.{Flat}
use Rattle.free_rooms.specs.FreeRooms.{RowsZero}
use Rattle.free_rooms.proofs.rows_zero.Goals as goal
use Rattle.free_rooms.proofs.rows_zero.Goals.{then-all_are, else-all_are, then-all_are-2, else-all_are-2, then-all_are-3, else-all_are-3}

-- row i, of w places, of a list with places enough
run : (xs : List ℕ) (b w : ℕ) → b + w ≤ length xs → Run xs b (b + w)
run xs b w h = record { ordered = omega arith; inside = h }

-- the first two, three, four rows, and all five
abbrev Two : Flat → ℕ → Type 0
Two f i = Zeros (i * 8) (i * 8 + 8) f.states × Zeros (i * 512) (i * 512 + 512) f.maps

abbrev Three : Flat → ℕ → Type 0
Three f i = Two f i × Zeros (i * 19) (i * 19 + 19) f.values

abbrev Four : Flat → ℕ → Type 0
Four f i = Three f i × Zeros (i * 33) (i * 33 + 33) f.parts

abbrev Five : Flat → ℕ → Type 0
Five f i = Four f i × Zeros (i * 16) (i * 16 + 16) f.pairs

rows : (f : Flat) (i : ℕ) {v : Bool} → Tells v (Five f i) → Tells v (RowsZero f.states f.maps f.values f.parts f.pairs i)
rows f i t = form t
    (λ z. record { of_states = z.0.0.0.0; of_maps = z.0.0.0.1; of_values = z.0.0.1; of_parts = z.0.1; of_pairs = z.1 })
    (λ h. ((((h.of_states, h.of_maps), h.of_values), h.of_parts), h.of_pairs))

pub returns-then-all_are-4 : goal.returns-then-all_are-4
returns-then-all_are-4 c =
    let f : Flat = c.args.flat.now in
    let i : ℕ = c.args.i in
    let one : Tells c.all_are.result (Zeros (i * 8) (i * 8 + 8) f.states) = zeros_told (run f.states (i * 8) 8 (omega arith)) c.all_are.ensures in
    let two : Tells c.if-all_are.value (Two f i) = elim c.if-all_are.branch [
      | then-all_are w ↦ second one w.if-all_are.true w.value-is (zeros_told (run f.maps (i * 512) 512 (omega arith)) w.all_are-then-all_are.ensures)
      | else-all_are w ↦ first_only one w.if-all_are.false w.value-is
    ] in
    let three : Tells c.if-all_are-2.value (Three f i) = elim c.if-all_are-2.branch [
      | then-all_are-2 w ↦ second two w.if-all_are-2.true w.value-is (zeros_told (run f.values (i * 19) 19 (omega arith)) w.all_are-then-all_are-2.ensures)
      | else-all_are-2 w ↦ first_only two w.if-all_are-2.false w.value-is
    ] in
    let four : Tells c.if-all_are-3.value (Four f i) = elim c.if-all_are-3.branch [
      | then-all_are-3 w ↦ second three w.if-all_are-3.true w.value-is (zeros_told (run f.parts (i * 33) 33 (omega arith)) w.all_are-then-all_are-3.ensures)
      | else-all_are-3 w ↦ first_only three w.if-all_are-3.false w.value-is
    ] in
    rows f i (second four c.if-all_are-4.true refl (zeros_told (run f.pairs (i * 16) 16 (omega arith)) c.all_are-then-all_are-4.ensures))

pub returns-else-all_are-4 : goal.returns-else-all_are-4
returns-else-all_are-4 c =
    let f : Flat = c.args.flat.now in
    let i : ℕ = c.args.i in
    let one : Tells c.all_are.result (Zeros (i * 8) (i * 8 + 8) f.states) = zeros_told (run f.states (i * 8) 8 (omega arith)) c.all_are.ensures in
    let two : Tells c.if-all_are.value (Two f i) = elim c.if-all_are.branch [
      | then-all_are w ↦ second one w.if-all_are.true w.value-is (zeros_told (run f.maps (i * 512) 512 (omega arith)) w.all_are-then-all_are.ensures)
      | else-all_are w ↦ first_only one w.if-all_are.false w.value-is
    ] in
    let three : Tells c.if-all_are-2.value (Three f i) = elim c.if-all_are-2.branch [
      | then-all_are-2 w ↦ second two w.if-all_are-2.true w.value-is (zeros_told (run f.values (i * 19) 19 (omega arith)) w.all_are-then-all_are-2.ensures)
      | else-all_are-2 w ↦ first_only two w.if-all_are-2.false w.value-is
    ] in
    let four : Tells c.if-all_are-3.value (Four f i) = elim c.if-all_are-3.branch [
      | then-all_are-3 w ↦ second three w.if-all_are-3.true w.value-is (zeros_told (run f.parts (i * 33) 33 (omega arith)) w.all_are-then-all_are-3.ensures)
      | else-all_are-3 w ↦ first_only three w.if-all_are-3.false w.value-is
    ] in
    rows f i (first_only four c.if-all_are-4.false refl)
