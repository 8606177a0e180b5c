-- A free room in the flat lists of all rooms: it is written as a free room is where all its places are zero.
use Rattle.std.specs.Prelude.{ℕ, ◌+◌, ◌-◌, ◌*◌, ◌≤◌, ◌<◌, ◌≡◌, Bool, List, length, get_or, replicate}
use Rattle.std.proofs.Common.{ap, sym, ◌∙◌, arith}
use Rattle.std.proofs.lemmas.List.{get_or-replicate}
use Rattle.lists.specs.Tells.{Tells, form}
use Rattle.rows.specs.Part.{part, part_length, part_get}
use Rattle.rows.specs.Pad.{zeros_replicate}
use Rattle.programs.specs.Sizes.{LIVE, STACK, EVENTS, VARIABLES, ROW, QUEUE}
use Rattle.configs.specs.Encode.{free}
use Rattle.configs.specs.declared.Flat.{Flat}
use Rattle.configs.specs.Flat.{Sized, flat, room_at, room_path}
use Rattle.zeros.specs.Zeros.{Zeros}

-- WHAT IS ASKED: a room of flat lists
pub record Asked (states maps values parts pairs : List ℕ) (i : ℕ) : Type 0 where
  pub states_long : length states ≡ 256
  pub maps_long : length maps ≡ 16384
  pub values_long : length values ≡ 608
  pub parts_long : length parts ≡ 1056
  pub pairs_long : length pairs ≡ 512
  pub room : i < LIVE

-- the arrays of rooms are such
pub asked : (f : Flat) (i : ℕ) → i < 32 → Sized f → Asked f.states f.maps f.values f.parts f.pairs i
asked f i h s = record { states_long = s.states_256; maps_long = s.maps_16384; values_long = s.values_608; parts_long = s.parts_1056; pairs_long = s.pairs_512; room = h }

-- WHAT IS LOOKED AT
-- the numbers of room i
pub record NumbersZero (kinds depths counts held waiting : List ℕ) (i : ℕ) : Type 0 where
  pub kind : get_or kinds i 0 ≡ 0
  pub depth : get_or depths i 0 ≡ 0
  pub count : get_or counts i 0 ≡ 0
  pub pending : get_or held i 0 ≡ 0
  pub queued : get_or waiting i 0 ≡ 0

-- and its rows
pub record RowsZero (states maps values parts pairs : List ℕ) (i : ℕ) : Type 0 where
  pub of_states : Zeros (i * STACK) (i * STACK + STACK) states
  pub of_maps : Zeros (i * (STACK * EVENTS)) (i * (STACK * EVENTS) + STACK * EVENTS) maps
  pub of_values : Zeros (i * (VARIABLES + 3)) (i * (VARIABLES + 3) + (VARIABLES + 3)) values
  pub of_parts : Zeros (i * ROW) (i * ROW + ROW) parts
  pub of_pairs : Zeros (i * QUEUE) (i * QUEUE + QUEUE) pairs

-- A ROW OF ZEROS
module _ (b w : ℕ) (xs : List ℕ) (inside : b + w ≤ length xs) where
  -- zeros in all of its places,
  row_zero : Zeros b (b + w) xs → part b w xs ≡ replicate w 0
  row_zero z = zeros_replicate 0 w (part b w xs) (part_length b w xs inside) (λ k h. part_get b w xs k 0 h ∙ z (b + k) (omega arith) (omega arith))

  -- and the other way round
  zero_row : part b w xs ≡ replicate w 0 → Zeros b (b + w) xs
  zero_row e k h l =
      let q : b + (k - b) ≡ k = omega arith in
      ap (λ (j : ℕ). get_or xs j 0) (sym q) ∙ sym (part_get b w xs (k - b) 0 (omega arith)) ∙ ap (λ (r : List ℕ). get_or r (k - b) 0) e ∙ get_or-replicate w (k - b) 0 0 (omega arith)

-- a test of the numbers is a test of the room
pub free_told : (kinds depths states maps values counts parts held waiting pairs : List ℕ) (i : ℕ) {r : Bool} → Asked states maps values parts pairs i
    → Tells r (NumbersZero kinds depths counts held waiting i × RowsZero states maps values parts pairs i) → (ids : List ℕ) (next : ℕ) → get_or ids i 0 ≡ 0
    → Tells r (room_at (flat ids kinds depths states maps values counts parts held waiting pairs next) i ≡ free)
free_told kinds depths states maps values counts parts held waiting pairs i asked t ids next e = form t
    (λ h. room_path e h.0.kind h.0.depth (row_zero (i * STACK) STACK states in_states h.1.of_states) (row_zero (i * (STACK * EVENTS)) (STACK * EVENTS) maps in_maps h.1.of_maps)
    (row_zero (i * (VARIABLES + 3)) (VARIABLES + 3) values in_values h.1.of_values) h.0.count (row_zero (i * ROW) ROW parts in_parts h.1.of_parts) h.0.pending h.0.queued
    (row_zero (i * QUEUE) QUEUE pairs in_pairs h.1.of_pairs))
    (λ h. (
      record {
        kind = ap (λ r. r.kind.0) h;
        depth = ap (λ r. r.depth) h;
        count = ap (λ r. r.count) h;
        pending = ap (λ r. r.held) h;
        queued = ap (λ r. r.waiting) h;
      },
      record {
        of_states = zero_row (i * STACK) STACK states in_states (ap (λ r. r.states) h);
        of_maps = zero_row (i * (STACK * EVENTS)) (STACK * EVENTS) maps in_maps (ap (λ r. r.maps) h);
        of_values = zero_row (i * (VARIABLES + 3)) (VARIABLES + 3) values in_values (ap (λ r. r.values) h);
        of_parts = zero_row (i * ROW) ROW parts in_parts (ap (λ r. r.parts) h);
        of_pairs = zero_row (i * QUEUE) QUEUE pairs in_pairs (ap (λ r. r.pairs) h);
      },
    ))
  where
    in_states : i * STACK + STACK ≤ length states
    in_states = omega (arith, asked.states_long, asked.room)

    in_maps : i * (STACK * EVENTS) + STACK * EVENTS ≤ length maps
    in_maps = omega (arith, asked.maps_long, asked.room)

    in_values : i * (VARIABLES + 3) + (VARIABLES + 3) ≤ length values
    in_values = omega (arith, asked.values_long, asked.room)

    in_parts : i * ROW + ROW ≤ length parts
    in_parts = omega (arith, asked.parts_long, asked.room)

    in_pairs : i * QUEUE + QUEUE ≤ length pairs
    in_pairs = omega (arith, asked.pairs_long, asked.room)
