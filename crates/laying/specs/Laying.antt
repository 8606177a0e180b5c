-- What laying a room into the flat lists makes of them, and the two loops over the rooms: one lays them, one lifts them.
use Rattle.std.specs.Prelude.{ℕ, ◌+◌, ◌*◌, ◌<◌, ◌≡◌, List, [], length, get_or, set}
use Rattle.std.proofs.Common.{ap, sym, ◌∙◌, subst, arith, length-set, take_all, ext_get_or, get_or-set_same, get_or-set_other}
use Rattle.std.proofs.Math.Logic.{dite}
use Rattle.std.proofs.Math.Decide.{ℕ_discrete}
use Rattle.rows.specs.Seek.{table, table_length, table_at}
use Rattle.rows.specs.Part.{part, put, put_length, part_put, row_other}
use Rattle.configs.specs.declared.Room.{Room}
use Rattle.configs.specs.declared.Config.{Config as Held}
use Rattle.configs.specs.declared.Flat.{Flat}
use Rattle.configs.specs.Flat.{Sized, flat, room_at, held, room_path, with_next, sized_next}

-- row i of width w of the list `to` is `from`, in the list to'
pub record Stored {A : Type 0} (to : List A) (i w : ℕ) (from to' : List A) : Type 0 where
  pub wide : length from ≡ w
  pub row : to' ≡ put (i * w) (part 0 w from) to

module _ {A : Type 0} (to : List A) (i w : ℕ) (from to' : List A) where
  -- a list is its own part
  pub stored_is : Stored to i w from to' → to' ≡ put (i * w) from to
  unfolding part
  stored_is s = s.row ∙ ap (λ (r : List A). put (i * w) r to) (take_all w from (omega (arith, s.wide)))

-- the room that is there for none
abbrev pub no_room : Room
no_room = record {
  this = record { 0 = 0 };
  kind = record { 0 = 0 };
  depth = 0;
  states = [];
  maps = [];
  values = [];
  count = 0;
  parts = [];
  held = 0;
  waiting = 0;
  pairs = [];
}

-- a room's rows have their widths
pub record Wide (m : Room) : Type 0 where
  pub states_8 : length m.states ≡ 8
  pub maps_512 : length m.maps ≡ 512
  pub values_19 : length m.values ≡ 19
  pub parts_33 : length m.parts ≡ 33
  pub pairs_16 : length m.pairs ≡ 16

-- the lists f with room m in row i
abbrev pub laid_in : Flat → ℕ → Room → Flat
laid_in f i m = record {
  ids = set f.ids i m.this.0;
  kinds = set f.kinds i m.kind.0;
  depths = set f.depths i m.depth;
  states = put (i * 8) m.states f.states;
  maps = put (i * 512) m.maps f.maps;
  values = put (i * 19) m.values f.values;
  counts = set f.counts i m.count;
  parts = put (i * 33) m.parts f.parts;
  held = set f.held i m.held;
  waiting = set f.waiting i m.waiting;
  pairs = put (i * 16) m.pairs f.pairs;
  next = f.next;
}

-- row i of the lists g is room m, the others are as in f
pub record Placed (f : Flat) (i : ℕ) (m : Room) (g : Flat) : Type 0 where
  pub sized : Sized g
  pub own : room_at g i ≡ m
  pub others : (j : ℕ) → j < 32 → (j ≡ i → ⊥) → room_at g j ≡ room_at f j

-- so it is where it was laid
pub laid_placed : (f : Flat) (i : ℕ) (m : Room) → Sized f → Wide m → i < 32 → Placed f i m (laid_in f i m)
laid_placed f i m s w h = record {
  sized = record {
    ids_32 = length-set f.ids i m.this.0 ∙ s.ids_32;
    kinds_32 = length-set f.kinds i m.kind.0 ∙ s.kinds_32;
    depths_32 = length-set f.depths i m.depth ∙ s.depths_32;
    states_256 = put_length (i * 8) m.states f.states (omega arith) ∙ s.states_256;
    maps_16384 = put_length (i * 512) m.maps f.maps (omega arith) ∙ s.maps_16384;
    values_608 = put_length (i * 19) m.values f.values (omega arith) ∙ s.values_608;
    counts_32 = length-set f.counts i m.count ∙ s.counts_32;
    parts_1056 = put_length (i * 33) m.parts f.parts (omega arith) ∙ s.parts_1056;
    held_32 = length-set f.held i m.held ∙ s.held_32;
    waiting_32 = length-set f.waiting i m.waiting ∙ s.waiting_32;
    pairs_512 = put_length (i * 16) m.pairs f.pairs (omega arith) ∙ s.pairs_512;
  };
  own = room_path
      (get_or-set_same f.ids i m.this.0 0 (omega arith))
      (get_or-set_same f.kinds i m.kind.0 0 (omega arith))
      (get_or-set_same f.depths i m.depth 0 (omega arith))
      (part_put 0 (i * 8) 8 m.states f.states w.states_8 (omega arith))
      (part_put 0 (i * 512) 512 m.maps f.maps w.maps_512 (omega arith))
      (part_put 0 (i * 19) 19 m.values f.values w.values_19 (omega arith))
      (get_or-set_same f.counts i m.count 0 (omega arith))
      (part_put 0 (i * 33) 33 m.parts f.parts w.parts_33 (omega arith))
      (get_or-set_same f.held i m.held 0 (omega arith))
      (get_or-set_same f.waiting i m.waiting 0 (omega arith))
      (part_put 0 (i * 16) 16 m.pairs f.pairs w.pairs_16 (omega arith));
  others = λ j b n. room_path
      (get_or-set_other f.ids i j m.this.0 0 n)
      (get_or-set_other f.kinds i j m.kind.0 0 n)
      (get_or-set_other f.depths i j m.depth 0 n)
      (row_other 0 8 i f.states (omega arith) m.states j w.states_8 (omega arith) n)
      (row_other 0 512 i f.maps (omega arith) m.maps j w.maps_512 (omega arith) n)
      (row_other 0 19 i f.values (omega arith) m.values j w.values_19 (omega arith) n)
      (get_or-set_other f.counts i j m.count 0 n)
      (row_other 0 33 i f.parts (omega arith) m.parts j w.parts_33 (omega arith) n)
      (get_or-set_other f.held i j m.held 0 n)
      (get_or-set_other f.waiting i j m.waiting 0 n)
      (row_other 0 16 i f.pairs (omega arith) m.pairs j w.pairs_16 (omega arith) n);
}

-- and so it is where its numbers and rows were stored
pub stored_placed : (f : Flat) (i : ℕ) (m : Room) (states maps values parts pairs : List ℕ) → Sized f → i < 32 → Stored f.states i 8 m.states states
    → Stored f.maps i 512 m.maps maps → Stored f.values i 19 m.values values → Stored f.parts i 33 m.parts parts → Stored f.pairs i 16 m.pairs pairs
    → Placed f i m
    (flat (set f.ids i m.this.0) (set f.kinds i m.kind.0) (set f.depths i m.depth) states maps values (set f.counts i m.count) parts
    (set f.held i m.held) (set f.waiting i m.waiting) pairs f.next)
stored_placed f i m states maps values parts pairs s h a b c d e = subst (Placed f i m) (sym is) (laid_placed f i m s wide h)
  where
    wide : Wide m
    wide = record { states_8 = a.wide; maps_512 = b.wide; values_19 = c.wide; parts_33 = d.wide; pairs_16 = e.wide }

    is : flat (set f.ids i m.this.0) (set f.kinds i m.kind.0) (set f.depths i m.depth) states maps values (set f.counts i m.count) parts
        (set f.held i m.held) (set f.waiting i m.waiting) pairs f.next
        ≡ laid_in f i m
    is = λ t. flat (set f.ids i m.this.0) (set f.kinds i m.kind.0) (set f.depths i m.depth) (stored_is f.states i 8 m.states states a t)
        (stored_is f.maps i 512 m.maps maps b t) (stored_is f.values i 19 m.values values c t) (set f.counts i m.count)
        (stored_is f.parts i 33 m.parts parts d t) (set f.held i m.held) (set f.waiting i m.waiting) (stored_is f.pairs i 16 m.pairs pairs e t) f.next

-- the first k rows are the rooms'
pub record Laid (rooms : List Room) (k : ℕ) (f : Flat) : Type 0 where
  pub sized : Sized f
  pub rows : (j : ℕ) → j < k → room_at f j ≡ get_or rooms j no_room

-- one room more
pub laid_more : (rooms : List Room) (k : ℕ) (f g : Flat) → k < 32 → Laid rooms k f → Placed f k (get_or rooms k no_room) g → Laid rooms (k + 1) g
laid_more rooms k f g h l q = record {
  sized = q.sized;
  rows = λ j b. dite (ℕ_discrete j k) (λ e. rw e q.own) (λ n. q.others j (omega arith) n ∙ l.rows j (omega arith));
}

-- the lists, of their sizes, are those of the configuration
pub record Holds (c : Held) (f : Flat) : Type 0 where
  pub sized : Sized f
  pub is : held f ≡ c

-- when all rooms are laid, the lists are those of the configuration
pub laid_all : (c : Held) (f : Flat) → length c.rooms ≡ 32 → Laid c.rooms 32 f → Holds c (with_next f c.next)
laid_all c f e l = record { sized = sized_next f c.next l.sized; is = λ i. record { next = c.next; rooms = rooms i } }
  where
    rooms : table (room_at f) 0 32 ≡ c.rooms
    rooms = ext_get_or no_room (table (room_at f) 0 32) c.rooms (table_length (room_at f) 0 32 ∙ sym e)
        (λ j b. let h : j < 32 = omega (arith, table_length (room_at f) 0 32) in table_at (room_at f) no_room 32 j h ∙ l.rows j h)
