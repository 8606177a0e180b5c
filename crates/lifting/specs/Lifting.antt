-- What a row lifted out of a flat list is, and the loop that lifts the rooms.
use Rattle.std.specs.Prelude.{ℕ, ◌+◌, ◌*◌, ◌≤◌, ◌<◌, ◌≡◌, refl, List, length, get_or, set, replicate}
use Rattle.std.proofs.Common.{sym, ◌∙◌, arith, length-set, ext_get_or, get_or-set_same, get_or-set_other}
use Rattle.std.proofs.Math.Logic.{dite}
use Rattle.std.proofs.Math.Decide.{ℕ_discrete}
use Rattle.std.proofs.lemmas.List.{length-replicate, get_or-replicate}
use Rattle.rows.specs.Seek.{table, table_length, table_at}
use Rattle.rows.specs.Part.{part, put, put_over, part_length}
use Rattle.configs.specs.declared.Room.{Room}
use Rattle.configs.specs.declared.Flat.{Flat}
use Rattle.configs.specs.Flat.{Sized, room_at, room_path}

module _ {A : Type 0} (z : A) where
  -- row i of width w of the list `from`, stored over places that are z
  pub record Lifted (from : List A) (i w : ℕ) (r : List A) : Type 0 where
    pub row : r ≡ put 0 (part (i * w) w from) (replicate w z)

  -- is that row
  pub lifted_is : (from : List A) (i w : ℕ) (r : List A) → i * w + w ≤ length from → Lifted from i w r → r ≡ part (i * w) w from
  lifted_is from i w r h l =
      let n : length (part (i * w) w from) ≡ w = part_length (i * w) w from h in
      l.row ∙ put_over (part (i * w) w from) (replicate w z) (omega (arith, length-replicate {A = A} w z))

-- ROOM i, of its numbers and its rows
pub room_is : (f : Flat) (i : ℕ) (states maps values parts pairs : List ℕ) → Sized f → i < 32 → Lifted 0 f.states i 8 states → Lifted 0 f.maps i 512 maps
    → Lifted 0 f.values i 19 values → Lifted 0 f.parts i 33 parts → Lifted 0 f.pairs i 16 pairs
    → ◌≡◌ {A = Room}
    (record {
      this = record { 0 = get_or f.ids i 0 };
      kind = record { 0 = get_or f.kinds i 0 };
      depth = get_or f.depths i 0;
      states = states;
      maps = maps;
      values = values;
      count = get_or f.counts i 0;
      parts = parts;
      held = get_or f.held i 0;
      waiting = get_or f.waiting i 0;
      pairs = pairs;
    })
    (room_at f i)
room_is f i states maps values parts pairs s h a b c d e = room_path
    refl
    refl
    refl
    (lifted_is 0 f.states i 8 states (omega arith) a)
    (lifted_is 0 f.maps i 512 maps (omega arith) b)
    (lifted_is 0 f.values i 19 values (omega arith) c)
    refl
    (lifted_is 0 f.parts i 33 parts (omega arith) d)
    refl
    refl
    (lifted_is 0 f.pairs i 16 pairs (omega arith) e)

-- THE LOOP THAT LIFTS: the first k rooms are those of the flat lists
pub record Raised (f : Flat) (rooms : List Room) (k : ℕ) : Type 0 where
  pub turns : k ≤ 32
  pub long : length rooms ≡ 32
  pub same : (j : ℕ) → j < k → get_or rooms j (room_at f 0) ≡ room_at f j

module _ (f : Flat) where
  -- at first all are room 0
  pub raised_first : (m : Room) → m ≡ room_at f 0 → Raised f (replicate 32 m) 1
  raised_first m e = record {
    turns = omega arith;
    long = length-replicate {A = Room} 32 m;
    same = λ j b. let z : j ≡ 0 = omega arith in rw z (get_or-replicate 32 0 m (room_at f 0) (omega arith) ∙ e);
  }

  -- one room more
  pub raised_more : (rooms : List Room) (k : ℕ) (m : Room) → k < 32 → m ≡ room_at f k → Raised f rooms k → Raised f (set rooms k m) (k + 1)
  raised_more rooms k m h e r = record {
    turns = omega arith;
    long = length-set rooms k m ∙ r.long;
    same = λ j b. dite (ℕ_discrete j k)
        (λ q. rw q (get_or-set_same rooms k m (room_at f 0) (omega arith) ∙ e))
        (λ n. get_or-set_other rooms k j m (room_at f 0) n ∙ r.same j (omega arith));
  }

  -- all rooms
  pub raised_all : (rooms : List Room) → Raised f rooms 32 → rooms ≡ table (room_at f) 0 32
  raised_all rooms r = ext_get_or (room_at f 0) rooms (table (room_at f) 0 32) (r.long ∙ sym (table_length (room_at f) 0 32))
      (λ j b. let h : j < 32 = omega arith in r.same j h ∙ sym (table_at (room_at f) (room_at f 0) 32 j h))
