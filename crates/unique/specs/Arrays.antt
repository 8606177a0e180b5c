-- The flat lists are known by the configuration that they hold: their lengths are fixed, and each place is a room's. So whatever says what the rooms are
-- at the end, and how long the lists, has one result: laying, a room changed, a step's lists.
use Rattle.std.specs.Prelude.{ℕ, ◌*◌, ◌/◌, ◌%◌, ◌≤◌, ◌<◌, ◌≡◌, refl, Option, Some, None, List, length, get_or}
use Rattle.std.proofs.Common.{ap, sym, ◌∙◌, subst, ⊎_elim, div-add-mod', div-lt_iff_lt-mul, mod-lt, arith, ext_get_or}
use Rattle.std.proofs.Math.Logic.{dite}
use Rattle.std.proofs.Math.Decide.{ℕ_discrete}
use Rattle.rows.specs.Pad.{below?}
use Rattle.rows.specs.Part.{part, part_get}
use Rattle.rows.specs.Seek.{table_at}
use Rattle.machines.specs.Config.{Machine}
use Rattle.configs.specs.declared.Room.{Room}
use Rattle.configs.specs.declared.Config.{Config as Held}
use Rattle.configs.specs.Encode.{free}
use Rattle.configs.specs.declared.Flat.{Flat}
use Rattle.configs.specs.Flat.{flat, Sized, room_at, held}
use Rattle.laying.specs.Laying.{Placed, Holds}
use Rattle.engine.specs.Engine.{Changed}
use Rattle.rooms.specs.Places.{First, Found}

-- ONE LIST: 32 rows of w places
rows_one : (w : ℕ) → 1 ≤ w → (xs ys : List ℕ) → length xs ≡ 32 * w → length ys ≡ 32 * w → ((j : ℕ) → j < 32 → part (j * w) w xs ≡ part (j * w) w ys) → xs ≡ ys
rows_one w some xs ys m n same = ext_get_or 0 xs ys (m ∙ sym n)
    (λ i b. subst (λ (j : ℕ). get_or xs j 0 ≡ get_or ys j 0) (div-add-mod' i w)
    (let h : i % w < w = mod-lt i some in
    let k : i / w < 32 = (div-lt_iff_lt-mul some).1 (rw m at b) in
    sym (part_get (i / w * w) w xs (i % w) 0 h) ∙ ap (λ (l : List ℕ). get_or l (i % w) 0) (same (i / w) k) ∙ part_get (i / w * w) w ys (i % w) 0 h))

-- one place for each room
places_one : (xs ys : List ℕ) → length xs ≡ 32 → length ys ≡ 32 → ((j : ℕ) → j < 32 → get_or xs j 0 ≡ get_or ys j 0) → xs ≡ ys
places_one xs ys m n same = ext_get_or 0 xs ys (m ∙ sym n) (λ i b. same i (omega (arith, m)))

-- ALL LISTS, by their rooms
pub rooms_one : (f g : Flat) → Sized f → Sized g → f.next ≡ g.next → ((j : ℕ) → j < 32 → room_at f j ≡ room_at g j) → f ≡ g
rooms_one f g s t next same = λ i. flat (ids i) (kinds i) (depths i) (states i) (maps i) (values i) (counts i) (parts i) (helds i) (waiting i) (pairs i) (next i)
  where
    ids : f.ids ≡ g.ids
    ids = places_one f.ids g.ids s.ids_32 t.ids_32 (λ j h. ap (λ (r : Room). r.this.0) (same j h))

    kinds : f.kinds ≡ g.kinds
    kinds = places_one f.kinds g.kinds s.kinds_32 t.kinds_32 (λ j h. ap (λ (r : Room). r.kind.0) (same j h))

    depths : f.depths ≡ g.depths
    depths = places_one f.depths g.depths s.depths_32 t.depths_32 (λ j h. ap (λ (r : Room). r.depth) (same j h))

    states : f.states ≡ g.states
    states = rows_one 8 (omega arith) f.states g.states s.states_256 t.states_256 (λ j h. ap (λ (r : Room). r.states) (same j h))

    maps : f.maps ≡ g.maps
    maps = rows_one 512 (omega arith) f.maps g.maps s.maps_16384 t.maps_16384 (λ j h. ap (λ (r : Room). r.maps) (same j h))

    values : f.values ≡ g.values
    values = rows_one 19 (omega arith) f.values g.values s.values_608 t.values_608 (λ j h. ap (λ (r : Room). r.values) (same j h))

    counts : f.counts ≡ g.counts
    counts = places_one f.counts g.counts s.counts_32 t.counts_32 (λ j h. ap (λ (r : Room). r.count) (same j h))

    parts : f.parts ≡ g.parts
    parts = rows_one 33 (omega arith) f.parts g.parts s.parts_1056 t.parts_1056 (λ j h. ap (λ (r : Room). r.parts) (same j h))

    helds : f.held ≡ g.held
    helds = places_one f.held g.held s.held_32 t.held_32 (λ j h. ap (λ (r : Room). r.held) (same j h))

    waiting : f.waiting ≡ g.waiting
    waiting = places_one f.waiting g.waiting s.waiting_32 t.waiting_32 (λ j h. ap (λ (r : Room). r.waiting) (same j h))

    pairs : f.pairs ≡ g.pairs
    pairs = rows_one 16 (omega arith) f.pairs g.pairs s.pairs_512 t.pairs_512 (λ j h. ap (λ (r : Room). r.pairs) (same j h))

-- by the configuration that they hold
pub held_one : (f g : Flat) → Sized f → Sized g → held f ≡ held g → f ≡ g
held_one f g s t e = rooms_one f g s t (ap (λ (c : Held). c.next) e)
    (λ j h. sym (table_at (room_at f) free 32 j h) ∙ ap (λ (c : Held). get_or c.rooms j free) e ∙ table_at (room_at g) free 32 j h)

-- one room is known, and the others are those of other lists
apart_one : (f g h : Flat) (k : ℕ) (m : Room) → Sized g → Sized h → g.next ≡ h.next → room_at g k ≡ m → room_at h k ≡ m
    → ((j : ℕ) → j < 32 → (j ≡ k → ⊥) → room_at g j ≡ room_at f j) → ((j : ℕ) → j < 32 → (j ≡ k → ⊥) → room_at h j ≡ room_at f j) → g ≡ h
apart_one f g h k m s t next own own' others others' = rooms_one g h s t next
    (λ j b. dite (ℕ_discrete j k) (λ e. rw e (own ∙ sym own')) (λ e. others j b e ∙ sym (others' j b e)))

-- `laying::lay_room` and `deleting::delete_on`: the next number is none of theirs
pub placed_one : (f g h : Flat) (i : ℕ) (m : Room) → g.next ≡ h.next → Placed f i m g → Placed f i m h → g ≡ h
placed_one f g h i m next a b = apart_one f g h i m a.sized b.sized next a.own b.own a.others b.others

-- `laying::lay`
pub lay_one : (c : Held) (f g : Flat) → Holds c f → Holds c g → f ≡ g
lay_one c f g a b = held_one f g a.sized b.sized (a.is ∙ sym b.is)

-- the machine in one room changed
pub changed_one : (f g h : Flat) (k : ℕ) (m : Machine) → Changed f k m g → Changed f k m h → g ≡ h
changed_one f g h k m a b = apart_one f g h k _ a.sized b.sized (a.next ∙ sym b.next) a.holds b.holds a.others b.others

-- `rooms::find_room`
pub find_room_one : (ids : List ℕ) (i r s : ℕ) → First ids i r → First ids i s → r ≡ s
find_room_one ids i r s h k = ⊎_elim
    (λ (a : r < s). absurd (k.before r a (h.here (omega (arith, k.inside)))))
    (λ (a : s ≤ r). ⊎_elim
    (λ (b : s < r). absurd (h.before s b (k.here (omega (arith, h.inside)))))
    (λ (b : r ≤ s). omega arith)
    (below? s r))
    (below? r s)

-- and as its answer says it: the place, or none
pub found_room_one : (ids : List ℕ) (i : ℕ) (r s : Option ℕ) → Found ids i r → Found ids i s → r ≡ s
found_room_one ids i (Some r) (Some s) h k = ap Some (find_room_one ids i r s h.1 k.1)
found_room_one ids i (Some r) None h k = let e : r ≡ 32 = find_room_one ids i r 32 h.1 k in absurd (omega (arith, h.0))
found_room_one ids i None (Some s) h k = let e : s ≡ 32 = find_room_one ids i s 32 k.1 h in absurd (omega (arith, k.0))
found_room_one ids i None None h k = refl
