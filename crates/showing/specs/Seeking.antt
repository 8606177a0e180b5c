-- One machine sought by its live number, room by room: a room is free where its number is 0.
use Rattle.std.specs.Prelude.{ℕ, zero, suc, ◌+◌, ◌≤◌, ◌<◌, ◌≡◌, refl, Bool, true, false, List, [], ◌∷◌, map, eqb, length, get_or, drop}
use Rattle.std.proofs.Common.{sym, ap, ◌∙◌, add-one, arith, eq-eqb, ne_eqb, drop_of_length-le, drop-cons}
use Rattle.std.proofs.Math.Option.{none, some}
use Rattle.programs.specs.Program.{Program}
use Rattle.machines.specs.Rooms.{find}
use Rattle.configs.specs.declared.Room.{Room}
use Rattle.configs.specs.Decode.{machine_of, room_of}

-- THE LOOP THAT SEEKS machine i: it is the one that is found in the rooms from place k on
pub record Seeking (p : Program) (rooms : List Room) (i k : ℕ) : Type 0 where
  pub full : length rooms ≡ 32
  pub turns : k ≤ 32
  pub rest : find i (map (room_of p) rooms) ≡ find i (map (room_of p) (drop k rooms))

-- no machine has the number 0
pub find_zero : (p : Program) (rs : List Room) → find 0 (map (room_of p) rs) ≡ none
find_zero p [] = refl
find_zero p (r ∷ rs) = go (eqb r.this.0 0) refl (find_zero p rs)
  where
    go : (b : Bool) → eqb r.this.0 0 ≡ b → find 0 (map (room_of p) rs) ≡ none → find 0 (map (room_of p) (r ∷ rs)) ≡ none
    go true e f = rw e f
    go false e f = rw e (rw e f)

-- a room with another number is passed over
find_other : (p : Program) (i : ℕ) (r : Room) (rs : List Room) → (r.this.0 ≡ i → ⊥) → find i (map (room_of p) (r ∷ rs)) ≡ find i (map (room_of p) rs)
find_other p i r rs n = go (eqb r.this.0 0) refl
  where
    go : (b : Bool) → eqb r.this.0 0 ≡ b → find i (map (room_of p) (r ∷ rs)) ≡ find i (map (room_of p) rs)
    go true e = rw e
    go false e = rw (e, ne_eqb r.this.0 i n)

-- before the first turn
pub seeking_none : (p : Program) (rooms : List Room) (i : ℕ) → length rooms ≡ 32 → Seeking p rooms i 0
seeking_none p rooms i e = record { full = e; turns = omega arith; rest = refl }

module _ {p : Program} {rooms : List Room} {i k : ℕ} (s : Seeking p rooms i k) where
  -- the next room, and those behind it
  next_room : (d : Room) → k < 32 → find i (map (room_of p) rooms) ≡ find i (map (room_of p) (get_or rooms k d ∷ drop (k + 1) rooms))
  next_room d h =
      let b : k < length rooms = omega (arith, s.full) in
      let split : drop k rooms ≡ get_or rooms k d ∷ drop (k + 1) rooms = rw (add-one k) (drop-cons rooms k d b) in
      s.rest ∙ ap (λ (l : List Room). find i (map (room_of p) l)) split

  module _ (d : Room) (h : k < 32) where
    -- it is not the machine's,
    pub seeking_more : ((get_or rooms k d).this.0 ≡ i → ⊥) → Seeking p rooms i (k + 1)
    seeking_more n = record { full = s.full; turns = omega arith; rest = next_room d h ∙ find_other p i (get_or rooms k d) (drop (k + 1) rooms) n }

    -- or it is
    pub seeking_found : (i ≡ 0 → ⊥) → (get_or rooms k d).this.0 ≡ i → find i (map (room_of p) rooms) ≡ some (machine_of p (get_or rooms k d))
    seeking_found n e =
        let r = get_or rooms k d in
        next_room d h ∙ rw (ne_eqb r.this.0 0 (λ z. n (sym e ∙ z)), eq-eqb r.this.0 i e)

  -- after the last turn it is not found
  pub seeking_all : 32 ≤ k → find i (map (room_of p) rooms) ≡ none
  seeking_all h =
      let b : length rooms ≤ k = omega (arith, s.full) in
      s.rest ∙ ap (λ (l : List Room). find i (map (room_of p) l)) (drop_of_length-le rooms {i = k} b)

-- no room before the k-th is the machine's
pub seeking_to : (p : Program) (rooms : List Room) (i k : ℕ) (d : Room) → length rooms ≡ 32 → k ≤ 32 → ((j : ℕ) → j < k → (get_or rooms j d).this.0 ≡ i → ⊥) → Seeking p rooms i k
seeking_to p rooms i zero d e h n = seeking_none p rooms i e
seeking_to p rooms i (suc k) d e h n =
    let s : k + 1 ≡ suc k = omega arith in
    rw s at (seeking_more (seeking_to p rooms i k d e (omega arith) (λ j b. n j (omega arith))) d (omega arith) (n k (omega arith)))
