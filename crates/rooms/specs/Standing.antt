-- The rooms of the flat lists f that hold the configuration c, written: what stands at a place, where machine i and the first free room are, and what a change
-- of one room makes of the configuration.
use Rattle.std.specs.Prelude.{ℕ, ◌≤◌, ◌<◌, ◌≡◌, refl, List, map, get_or, set}
use Rattle.std.proofs.Common.{sym, ap, ◌∙◌, ⊎_elim, arith}
use Rattle.std.proofs.Math.Option.{Option, none, some, none-ne-some}
use Rattle.std.proofs.Math.ListN.{get_or-map, get_or-eq_default}
use Rattle.lists.specs.Lists.{on_opt}
use Rattle.lists.specs.Facts.{All-get_d}
use Rattle.rows.specs.Pad.{below?}
use Rattle.rows.specs.Seek.{table, table_at, table_set}
use Rattle.programs.specs.Program.{Program}
use Rattle.runs.specs.Outcome.{took, refused}
use Rattle.machines.specs.Config.{Pair, Local, Machine, Config}
use Rattle.machines.specs.Rooms.{find, set_local, set_queue, with_local, with_queue}
use Rattle.answers.specs.declared.Answer.TheVariants.{UnableToStep}
use Rattle.rules.specs.declared.Rule.TheVariants.{DEQUEUE}
use Rattle.rules.specs.Act.{Act, alone, creates, deletes, sends, dequeues, refuses}
use Rattle.rules.specs.Step as definition
use Rattle.acceptance.specs.Accepted.{RoomOk, MachineOk, Accepted}
use Rattle.configs.specs.declared.Room.{Room}
use Rattle.configs.specs.declared.Config.{Config as Held}
use Rattle.configs.specs.Encode.{free, taken, room_code, written}
use Rattle.configs.specs.declared.Flat.{Flat}
use Rattle.configs.specs.Flat.{Sized, room_at, held}
use Rattle.engine.specs.Outcome.{Outcome}
use Rattle.engine.specs.Engine.{Stands, Changed, Acted, Dequeued, Performed}
use Rattle.machines.specs.RoomLaws.{each_twice}
use Rattle.lists.specs.Keep.{map_set}
use Rattle.rooms.specs.Places.{First, find_none, find_at, on_set}

-- the number of a room: 0 where it is free
abbrev pub number_of : Option Machine → ℕ
number_of none = 0
number_of (some m) = m.this

-- WHAT STANDS AT A PLACE
module _ (f : Flat) (c : Config) (h : held f ≡ written c) where
  -- room j, written
  pub room_is : (j : ℕ) → j < 32 → room_at f j ≡ room_code (get_or c.rooms j none)
  room_is j b = sym (table_at (room_at f) free 32 j b) ∙ ap (λ (x : Held). get_or x.rooms j free) h ∙ get_or-map room_code c.rooms j none

  -- the next live number
  pub next_is : f.next ≡ c.next
  next_is = ap (λ (x : Held). x.next) h

  -- the number of room j
  pub number_is : (j : ℕ) → j < 32 → get_or f.ids j 0 ≡ number_of (get_or c.rooms j none)
  number_is j b = go (get_or c.rooms j none) (room_is j b)
    where
      go : (o : Option Machine) → room_at f j ≡ room_code o → get_or f.ids j 0 ≡ number_of o
      go none e = ap (λ (r : Room). r.this.0) e
      go (some m) e = ap (λ (r : Room). r.this.0) e

-- MACHINE m STANDS IN ROOM k of the lists f, which hold the accepted configuration c
pub record Lives (p : Program) (f : Flat) (c : Config) (k : ℕ) (m : Machine) : Type 0 where
  pub sized : Sized f
  pub holds : held f ≡ written c
  pub accepted : Accepted p c
  pub room : k < 32
  pub place : get_or c.rooms k none ≡ some m

module _ (p : Program) (f : Flat) (c : Config) where
  module _ (k : ℕ) (m : Machine) (a : Lives p f c k m) where
    -- it is found by its number
    pub lives_found : find m.this c.rooms ≡ some m
    lives_found = find_at c.rooms k m a.accepted.distinct a.place

    -- its room is its own, written
    pub lives_taken : room_at f k ≡ taken m
    lives_taken = room_is f c a.holds k a.room ∙ ap room_code a.place

    -- it is accepted
    pub lives_ok : MachineOk p c.next m
    lives_ok = rw a.place at (All-get_d (RoomOk p c.next) none c.rooms k tt a.accepted.each_room)

    -- it stands there
    pub lives_stands : Stands p f k m
    lives_stands = record {
      sized = a.sized;
      room = a.room;
      holds = lives_taken;
      spent = rw (next_is f c a.holds) a.accepted.next_high;
      ok = rw (next_is f c a.holds) lives_ok;
    }

  module _ (s : Sized f) (h : held f ≡ written c) (ok : Accepted p c) where
    -- THE FIRST ROOM WHOSE NUMBER IS i has machine i,
    pub found : (i r : ℕ) → 1 ≤ i → First f.ids i r → r < 32 → (m : Machine) × (Lives p f c r m × (m.this ≡ i))
    found i r l q b = go (get_or c.rooms r none) refl
      where
        go : (o : Option Machine) → get_or c.rooms r none ≡ o → (m : Machine) × (Lives p f c r m × (m.this ≡ i))
        go none e = absurd (omega (arith, q.here b, number_is f c h r b ∙ ap number_of e))
        go (some m) e = (m, (record { sized = s; holds = h; accepted = ok; room = b; place = e }, sym (number_is f c h r b ∙ ap number_of e) ∙ q.here b))

    -- and where there is none, machine i is not found
    pub not_found : (i r : ℕ) → 1 ≤ i → First f.ids i r → 32 ≤ r → find i c.rooms ≡ none
    not_found i r l q b = find_none i c.rooms (λ j m e n. ⊎_elim
        (λ (d : j < 32). q.before j (omega arith) (number_is f c h j d ∙ ap number_of e ∙ n))
        (λ (d : 32 ≤ j). none-ne-some m (sym (get_or-eq_default c.rooms none (omega (arith, ok.rooms_32))) ∙ e))
        (below? j 32))

    -- THE FIRST ROOM WHOSE NUMBER IS 0 is free,
    pub free_here : (r : ℕ) → First f.ids 0 r → r < 32 → get_or c.rooms r none ≡ none
    free_here r q b = go (get_or c.rooms r none) refl
      where
        go : (o : Option Machine) → get_or c.rooms r none ≡ o → o ≡ none
        go none e = refl
        go (some m) e =
            let a : MachineOk p c.next m = rw e at (All-get_d (RoomOk p c.next) none c.rooms r tt ok.each_room) in
            absurd (omega (arith, q.here b, number_is f c h r b ∙ ap number_of e, a.low))

    -- and none before it is
    pub free_before : (r : ℕ) → First f.ids 0 r → (j : ℕ) → j < r → get_or c.rooms j none ≡ none → ⊥
    free_before r q j b e = q.before j b (number_is f c h j (omega (arith, q.inside)) ∙ ap number_of e)

-- A CHANGE OF ROOM k to what o is, and of the next live number
module _ (f : Flat) (c : Config) (h : held f ≡ written c) where
  pub change_written : (g : Flat) (k n : ℕ) (o : Option Machine) → k < 32 → room_at g k ≡ room_code o → ((j : ℕ) → j < 32 → (j ≡ k → ⊥) → room_at g j ≡ room_at f j) → g.next ≡ n
      → held g ≡ written (record { rooms = set c.rooms k o; next = n })
  change_written g k n o b e others q = λ t. record { next = q t; rooms = rooms t }
    where
      rooms : table (room_at g) 0 32 ≡ map room_code (set c.rooms k o)
      rooms = table_set free (room_at f) (room_at g) 32 k b others ∙ ap (λ (x : Room). set (table (room_at f) 0 32) k x) e
          ∙ ap (λ (x : Held). set x.rooms k (room_code o)) h ∙ sym (map_set room_code c.rooms k o)

  -- machine m in room k
  pub changed_written : (g : Flat) (k : ℕ) (m : Machine) → k < 32 → Changed f k m g → held g ≡ written (record { rooms = set c.rooms k (some m); next = c.next })
  changed_written g k m b d = change_written g k c.next (some m) b d.holds d.others (d.next ∙ next_is f c h)

-- WHAT THE MACHINE'S ACT LEAVES
module _ (p : Program) (f : Flat) (c : Config) (k : ℕ) (m : Machine) (a : Lives p f c k m) (r : Outcome) (g : Flat) where
  -- another local part
  pub local_written : (l : Local) → Changed f k (set_local l m) g → held g ≡ written (with_local m.this l c)
  local_written l d = changed_written f c a.holds g k (set_local l m) a.room d
      ∙ ap (λ (rs : List (Option Machine)). written (record { rooms = rs; next = c.next })) (sym (on_set (set_local l) c.rooms k m a.accepted.distinct a.place))

  -- another local part and another queue
  pub both_written : (l : Local) (q : List Pair) → Changed f k (record { this = m.this; loc = l; queue = q }) g → held g ≡ written (with_queue m.this q (with_local m.this l c))
  both_written l q d = changed_written f c a.holds g k (record { this = m.this; loc = l; queue = q }) a.room d
      ∙ ap (λ (rs : List (Option Machine)). written (record { rooms = rs; next = c.next }))
      (sym (each_twice m.this (set_queue q) (set_local l) (λ n. refl) c.rooms ∙ on_set (λ n. set_queue q (set_local l n)) c.rooms k m a.accepted.distinct a.place))

  -- AN ACT OF ITS OWN
  pub performed_own : (act : Act) → Acted f k m act r g → Performed f (definition.perform p c m.this m act) r g
  performed_own (alone R l) d = (d.0, (d.1.sized, local_written l d.1))
  performed_own (refuses x) d = d
  performed_own (creates x l) d = absurd d
  performed_own deletes d = absurd d
  performed_own (sends t x l) d = absurd d
  performed_own dequeues d = absurd d

  -- DEQUEUE
  pub performed_dequeue : Dequeued f k m (definition.takes p m.loc m.loc.stack m.queue) r g → Performed f (definition.perform p c m.this m dequeues) r g
  performed_dequeue = go (definition.takes p m.loc m.loc.stack m.queue)
    where
      go : (o : Option (Local × List Pair)) → Dequeued f k m o r g
          → Performed f (on_opt o (refused UnableToStep) (λ t. took DEQUEUE (with_queue m.this t.1 (with_local m.this t.0 c)))) r g
      go none d = d
      go (some t) d = (d.0, (d.1.sized, both_written t.0 t.1 d.1))
