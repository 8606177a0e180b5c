-- A configuration is accepted with zeros in its unused places exactly when each room is, live numbers are distinct and the next one is in range; and what that is of
-- one room, field by field.
use Prim.Native.Nat.{ℕ, zero, suc, ◌+◌, ◌≤◌, ◌<◌}
use Rattle.std.specs.Prelude.{◌≡◌, refl, Bool, cond, [], ◌∷◌, ◌++◌, map, reverse, length, get_or}
use Rattle.std.proofs.Common.{ap, sym, ◌∙◌, zero-add, eq-eqb, ne_eqb}
use Rattle.std.proofs.Math.Option.{none, some}
use native.Mathlib.Omega.{arith}
use Rattle.std.proofs.lemmas.List.{length-map}
use Rattle.lists.specs.Keep.{map_back, back_map, All-image, image-All}
use Rattle.configs.specs.Reversed.{down_to_length}
use Rattle.lists.specs.Lists.{All, flat}
use Rattle.rows.specs.Pad.{pad}
use Rattle.rows.specs.Seek.{table, table_length}
use Rattle.values.specs.Values.{id_of}
use Rattle.programs.specs.Sizes.{SPENT}
use Rattle.programs.specs.Program.{Program}
use Rattle.tables.specs.Numbered.{table_all}
use Rattle.acceptance.specs.Accepted.{RoomOk, MachineOk, Distinct, Accepted}
use Rattle.codes.specs.Codes.{code_of}
use Rattle.configs.specs.declared.Room.{Room}
use Rattle.configs.specs.declared.Config.{Config as Held}
use Rattle.configs.specs.Decode.{machine_of, room_of}
use Rattle.configs.specs.Encode.{map_codes, held_code, pair_number, free, room_code, Zeroed}
use Rattle.configs.specs.declared.Flat.{Flat}
use Rattle.configs.specs.Flat.{room_at, held, flat_config, room_path}

-- ROOM k is accepted, and writing what it reads as gives it again
pub record RoomFit (p : Program) (f : Flat) (k : ℕ) : Type 0 where
  pub ok : RoomOk p f.next (room_of p (room_at f k))
  pub written : room_code (room_of p (room_at f k)) ≡ room_at f k

-- a table of what holds of each
module _ {A : Type 0} (P : A → Type 0) (g : ℕ → A) where
  all_table : (k n : ℕ) → All P (table g k n) → (j : ℕ) → j < n → P (g (k + j))
  unfolding table
  all_table k zero h j b = absurd (omega arith)
  all_table k (suc n) h zero b = let z : k + 0 ≡ k = omega arith in rw z h.0
  all_table k (suc n) h (suc j) b = let e : k + suc j ≡ k + 1 + j = omega arith in rw e (all_table (k + 1) n h.1 j (omega arith))

  -- from place 0 on
  up_table : (n : ℕ) → ((j : ℕ) → j < n → P (g j)) → All P (table g 0 n)
  up_table n h = table_all P g 0 n (λ j a b. h j (omega arith))

  table_up : (n : ℕ) → All P (table g 0 n) → (j : ℕ) → j < n → P (g j)
  table_up n h j b = rw (zero-add j) at (all_table 0 n h j b)

-- THE WHOLE CONFIGURATION
module _ (p : Program) (f : Flat) where
  rooms_length : length (flat_config p f).rooms ≡ 32
  rooms_length = length-map (table (room_at f) 0 32) (room_of p) ∙ table_length (room_at f) 0 32

  -- what a room's test tells of the configuration
  pub whole : ((k : ℕ) → k < 32 → RoomFit p f k) → Distinct (flat_config p f).rooms → 1 ≤ f.next → f.next ≤ SPENT → Accepted p (flat_config p f) × Zeroed p (held f)
  whole h d low high = (
    record {
      rooms_32 = rooms_length;
      each_room = All-image (RoomOk p f.next) (room_of p) (table (room_at f) 0 32) (up_table (λ r. RoomOk p f.next (room_of p r)) (room_at f) 32 (λ j b. (h j b).ok));
      distinct = d;
      next_low = low;
      next_high = high;
    },
    (λ i. record { next = f.next; rooms = map_back room_code (room_of p) (table (room_at f) 0 32) (up_table (λ r. room_code (room_of p r) ≡ r) (room_at f) 32 (λ j b. (h j b).written)) i }),
  )

  -- and what the configuration tells of each room
  pub each_fit : Accepted p (flat_config p f) → Zeroed p (held f) → (k : ℕ) → k < 32 → RoomFit p f k
  each_fit a z k b = record {
    ok = table_up (λ r. RoomOk p f.next (room_of p r)) (room_at f) 32 (image-All (RoomOk p f.next) (room_of p) (table (room_at f) 0 32) a.each_room) k b;
    written = table_up (λ r. room_code (room_of p r) ≡ r) (room_at f) 32 (back_map room_code (room_of p) (table (room_at f) 0 32) (ap (λ (c : Held). c.rooms) z)) k b;
  }

-- A LIVE ROOM, field by field, with the machine m that it reads as
pub record LiveFit (p : Program) (next : ℕ) (r : Room) : Type 0 where
  pub ok : MachineOk p next (machine_of p r)
  pub states : pad 0 8 (reverse (map (λ x. x.state) (machine_of p r).loc.stack)) ≡ r.states
  pub maps : pad 0 512 (flat map_codes (reverse (machine_of p r).loc.stack)) ≡ r.maps
  pub values : pad 0 16 (map code_of (machine_of p r).loc.variables) ++ code_of (id_of r.this.0) ∷ code_of (machine_of p r).loc.msg ∷ code_of (machine_of p r).loc.arg ∷ [] ≡ r.values
  pub parts : pad 0 33 (reverse (machine_of p r).loc.row) ≡ r.parts
  pub held : held_code (machine_of p r).loc.pending ≡ r.held
  pub waiting : length (machine_of p r).queue ≡ r.waiting
  pub pairs : pad 0 16 (map pair_number (machine_of p r).queue) ≡ r.pairs

module _ (p : Program) (f : Flat) (k : ℕ) where
  -- a free room
  pub free_fit : get_or f.ids k 0 ≡ 0 → room_at f k ≡ free → RoomFit p f k
  free_fit e h = record { ok = rw (eq-eqb (get_or f.ids k 0) 0 e) tt; written = rw (eq-eqb (get_or f.ids k 0) 0 e) (sym h) }

  pub fit_free : get_or f.ids k 0 ≡ 0 → RoomFit p f k → room_at f k ≡ free
  fit_free e h = sym (rw (eq-eqb (get_or f.ids k 0) 0 e) at h.written)

  -- a live one
  module _ (n : get_or f.ids k 0 ≡ 0 → ⊥) where
    reads : room_of p (room_at f k) ≡ some (machine_of p (room_at f k))
    reads = ap (λ (b : Bool). cond b none (some (machine_of p (room_at f k)))) (ne_eqb (get_or f.ids k 0) 0 n)

    pub live_fit : LiveFit p f.next (room_at f k) → RoomFit p f k
    live_fit h = record { ok = rw reads h.ok; written = rw reads (room_path refl refl (down_to_length _ (get_or f.depths k 0)) h.states h.maps h.values (down_to_length _ (get_or f.counts k 0)) h.parts h.held h.waiting h.pairs) }

    pub fit_live : RoomFit p f k → LiveFit p f.next (room_at f k)
    fit_live h = let q = rw reads at h.written in record {
      ok = rw reads at h.ok;
      states = ap (λ (r : Room). r.states) q;
      maps = ap (λ (r : Room). r.maps) q;
      values = ap (λ (r : Room). r.values) q;
      parts = ap (λ (r : Room). r.parts) q;
      held = ap (λ (r : Room). r.held) q;
      waiting = ap (λ (r : Room). r.waiting) q;
      pairs = ap (λ (r : Room). r.pairs) q;
    }
