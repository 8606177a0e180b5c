-- The machines left, counted over the rooms: a room is free where its number is 0.
use Rattle.std.specs.Prelude.{ℕ, ◌+◌, ◌≤◌, ◌<◌, ◌≡◌, refl, Bool, true, false, not, cond, count_by, List, [], ◌∷◌, map, eqb, length, get_or, drop}
use Rattle.std.proofs.Common.{zero-add, add-one, arith, eq-eqb, ne_eqb, drop_of_length-le, drop-cons}
use Rattle.std.proofs.lemmas.List.Recursion.{is_count_by}
use Rattle.lists.specs.Lists.{total}
use Rattle.programs.specs.Program.{Program}
use Rattle.machines.specs.Rooms.{live}
use Rattle.configs.specs.declared.Room.{Room}
use Rattle.configs.specs.declared.Config.{Config as Held}
use Rattle.configs.specs.Decode.{room_of, config_of}

-- how many machines a room has
abbrev pub in_room : Room → ℕ
in_room r = cond (eqb r.this.0 0) 0 1

-- they are those of the configuration that the rooms read as
pub living : (p : Program) (c : Held) → total in_room c.rooms ≡ live (config_of p c)
living p c = go c.rooms
  where
    one : (r : Room) (rs : List Room) (b : Bool) → eqb r.this.0 0 ≡ b → total in_room rs ≡ live (record { rooms = map (room_of p) rs; next = c.next })
        → total in_room (r ∷ rs) ≡ live (record { rooms = map (room_of p) (r ∷ rs); next = c.next })
    one r rs true e h = rw (e, h)
    one r rs false e h = rw (e, h)

    go : (rs : List Room) → total in_room rs ≡ live (record { rooms = map (room_of p) rs; next = c.next })
    go [] = refl
    go (r ∷ rs) = one r rs (eqb r.this.0 0) refl (go rs)

-- a room is not free
abbrev pub taken : Room → Bool
taken r = not (eqb r.this.0 0)

-- so many rooms are not
pub taken_rooms : (rs : List Room) → total in_room rs ≡ count_by taken rs
taken_rooms = is_count_by (total in_room) taken refl (λ r rs. one (eqb r.this.0 0) (total in_room rs))
  where
    one : (b : Bool) (n : ℕ) → cond b 0 1 + n ≡ cond (not b) (1 + n) n
    one true n = zero-add n
    one false n = refl

-- THE LOOP THAT COUNTS: after k turns n machines are counted, and those of the rooms from place k on are left
pub record Counting (rooms : List Room) (n k : ℕ) : Type 0 where
  pub full : length rooms ≡ 32
  pub turns : k ≤ 32
  pub small : n ≤ k
  pub rest : n + total in_room (drop k rooms) ≡ total in_room rooms

-- before the first turn
pub counting_none : (rooms : List Room) → length rooms ≡ 32 → Counting rooms 0 0
counting_none rooms e = record { full = e; turns = omega arith; small = omega arith; rest = zero-add (total in_room rooms) }

module _ {rooms : List Room} {n k : ℕ} (t : Counting rooms n k) where
  -- one turn: room k and the rooms behind it
  next_room : (d : Room) → k < 32 → n + (in_room (get_or rooms k d) + total in_room (drop (k + 1) rooms)) ≡ total in_room rooms
  next_room d h =
      let i : k < length rooms = omega (arith, t.full) in
      rw (add-one k) (rw (drop-cons rooms k d i) at t.rest)

  -- a free room counts nothing,
  pub counting_free : (d : Room) → k < 32 → (get_or rooms k d).this.0 ≡ 0 → Counting rooms n (k + 1)
  counting_free d h e = record {
    full = t.full;
    turns = omega arith;
    small = omega (arith, t.small);
    rest = omega (arith, rw (eq-eqb _ 0 e) at (next_room d h));
  }

  -- any other one machine
  pub counting_taken : (d : Room) → k < 32 → ((get_or rooms k d).this.0 ≡ 0 → ⊥) → Counting rooms (n + 1) (k + 1)
  counting_taken d h e = record {
    full = t.full;
    turns = omega arith;
    small = omega (arith, t.small);
    rest = omega (arith, rw (ne_eqb _ 0 e) at (next_room d h));
  }

  -- after the last turn all are counted
  pub counting_all : 32 ≤ k → n ≡ total in_room rooms
  counting_all h =
      let i : length rooms ≤ k = omega (arith, t.full) in
      omega (arith, rw (drop_of_length-le rooms {i = k} i) at t.rest)
