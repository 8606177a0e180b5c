-- NEW as the definitions have it: the creator moves on with the new machine's id in its variable, the new machine takes the lowest free room, and the next live
-- number is one more.
use Rattle.std.specs.Prelude.{ℕ, suc, ◌+◌, ◌*◌, ◌≤◌, ◌<◌, ◌≡◌, refl, Bool, not, List, ◌∷◌, eqb, drop, get_or, set, Ok, Err}
use Rattle.std.proofs.Common.{sym, ap, ◌∙◌, add-one, arith, lt-ltb, le-ltb}
use Rattle.std.proofs.Math.Option.{Option, none, some, map, none-ne-some}
use Rattle.std.proofs.lemmas.List.{length-map}
use Rattle.std.proofs.Math.ListN.{get_or-map}
use Rattle.answers.specs.declared.Answer.TheVariants.{NoRoom}
use Rattle.values.specs.Values.{id_of}
use Rattle.programs.specs.Program.{Program}
use Rattle.soundness.specs.Founded.{VariableOf}
use Rattle.soundness.specs.Sound.{Sound}
use Rattle.machines.specs.Config.{Local, Machine, Config}
use Rattle.machines.specs.Locals.{moves_on, sets}
use Rattle.machines.specs.Rooms.{Rooms, set_local, on, each, fill, with_local, born}
use Rattle.rules.specs.declared.Rule.TheVariants.{NEW}
use Rattle.rules.specs.Act.{creates}
use Rattle.rules.specs.Step as definition
use Rattle.codes.specs.Codes.{code_of}
use Rattle.index.specs.Index.{Places}
use Rattle.configs.specs.Encode.{free, room_code, written}
use Rattle.configs.specs.declared.Flat.{Flat}
use Rattle.configs.specs.Flat.{Sized, flat, room_at, room_path, held}
use Rattle.parts.specs.Parts.{Any, tidied}
use Rattle.engine.specs.Engine.{Stands, Changed, Performed}
use Rattle.engine.specs.Holding.{RowBecomes, untouched, touched}
use Rattle.remaining.specs.Held.{changed, remains_changed}
use Rattle.stored.specs.Stored.{variable_set, place_16}
use Rattle.rooms.specs.Places.{First, fill_set, fill_none}
use Rattle.rooms.specs.Standing.{Lives, room_is, next_is, free_here, free_before, change_written, local_written}

-- THE CREATOR: the lists with its values and its row stored
abbrev pub with_own : Flat → List ℕ → List ℕ → List ℕ → Flat
with_own f values counts parts = flat f.ids f.kinds f.depths f.states f.maps values counts parts f.held f.waiting f.pairs f.next

module _ (p : Program) (sound : Sound p) (f : Flat) (k : ℕ) (m : Machine) (s : Stands p f k m) (places : List ℕ) (here : Places p places) (x : ℕ) (o : VariableOf p m.loc.kind x) where
  -- it holds the id i, and the head is finished
  pub claimed : (i : ℕ) (h : ℕ) (r counts parts : List ℕ) (pending : Bool) → m.loc.row ≡ h ∷ r → pending ≡ not (eqb (get_or f.held k 0) 0)
      → RowBecomes k f.counts f.parts Any (λ p r. tidied pending p (0 ∷ drop 1 r)) counts parts
      → Changed f k (set_local (moves_on p r (sets p x (id_of i) m.loc)) m) (with_own f (set f.values (k * 19 + get_or places x 0) (code_of (id_of i))) counts parts)
  claimed i h r counts parts pending row pends change =
      let e = (remains_changed p f k m sound s {Of = Any} (λ p r. 0 ∷ drop 1 r) pending pends change tt (0 ∷ r) (rw row)).holds in
      changed f k _ (with_own f (set f.values (k * 19 + get_or places x 0) (code_of (id_of i))) counts parts) s.sized (record {
        ids = untouched;
        kinds = untouched;
        depths = untouched;
        states = untouched;
        maps = untouched;
        values = touched k 19 (get_or places x 0) (code_of (id_of i)) f.values (omega (arith, place_16 p sound places here x));
        counts = change.counts_off;
        parts = change.parts_off;
        held = untouched;
        waiting = untouched;
        pairs = untouched;
        next = refl;
      }) (room_path (ap (λ r. r.this.0) e) (ap (λ r. r.kind.0) e) (ap (λ r. r.depth) e) (ap (λ r. r.states) e) (ap (λ r. r.maps) e)
      (variable_set p f k m sound s places here x o (id_of i)) (ap (λ r. r.count) e) (ap (λ r. r.parts) e) (ap (λ r. r.held) e) (ap (λ r. r.waiting) e) (ap (λ r. r.pairs) e))

-- a change of machines leaves a free room free,
each_free : (g : Machine → Machine) (rs : Rooms) (j : ℕ) → get_or rs j none ≡ none → get_or (each g rs) j none ≡ none
each_free g rs j e = get_or-map (map g) rs j none ∙ ap (map g) e

-- and a taken one taken
each_taken : (g : Machine → Machine) (rs : Rooms) (j : ℕ) → (get_or rs j none ≡ none → ⊥) → get_or (each g rs) j none ≡ none → ⊥
each_taken g rs j n e = go (get_or rs j none) refl (sym (get_or-map (map g) rs j none) ∙ e)
  where
    go : (o : Option Machine) → get_or rs j none ≡ o → map g o ≡ none → ⊥
    go none q h = n q
    go (some m) q h = none-ne-some _ (sym h)

module _ (p : Program) (f : Flat) (c : Config) (k : ℕ) (m : Machine) (from : Lives p f c k m) (l : ℕ → Local) (b : Local) where
  -- 18: the live numbers are spent,
  pub created_spent : 65536 ≤ f.next → Performed f (definition.perform p c m.this m (creates l b)) (Err NoRoom) f
  created_spent h = rw (le-ltb c.next 65536 (omega (arith, next_is f c from.holds))) (refl, refl)

  module _ (to : ℕ) (first : First f.ids 0 to) (unspent : f.next < 65536) where
    -- there are numbers left
    below : c.next < 65536
    below = omega (arith, next_is f c from.holds)

    -- or no room is free
    pub created_none : to ≡ 32 → Performed f (definition.perform p c m.this m (creates l b)) (Err NoRoom) f
    created_none e = rw (
      lt-ltb c.next 65536 below,
      fill_none (born c b) (each (on m.this (set_local (l c.next))) c.rooms) (λ j h. each_taken (on m.this (set_local (l c.next))) c.rooms j
          (free_before p f c from.sized from.holds from.accepted to first j (omega (arith, length-map c.rooms (map (on m.this (set_local (l c.next)))), from.accepted.rooms_32)))),
    )
        (refl, refl)

    module _ (there : to ≡ 32 → ⊥) where
      -- the room is one of 32
      pub room_there : to < 32
      room_there = omega (arith, first.inside)

      -- AFTER THE CREATOR MOVED ON
      module _ (f1 : Flat) (moved : Changed f k (set_local (l c.next) m) f1) where
        -- the configuration
        moves : held f1 ≡ written (with_local m.this (l c.next) c)
        moves = local_written p f c k m from (Ok NEW) f1 (l c.next) moved

        -- in which the room is free
        still : get_or (with_local m.this (l c.next) c).rooms to none ≡ none
        still = each_free (on m.this (set_local (l c.next))) c.rooms to (free_here p f c from.sized from.holds from.accepted to first room_there)

        -- so it is in the lists
        pub still_free : room_at f1 to ≡ free
        still_free = room_is f1 (with_local m.this (l c.next) c) moves to room_there ∙ ap room_code still

        -- it is the first
        filled : fill (born c b) (with_local m.this (l c.next) c).rooms ≡ some (set (with_local m.this (l c.next) c).rooms to (some (born c b)))
        filled = fill_set (born c b) (each (on m.this (set_local (l c.next))) c.rooms) to
            (omega (arith, length-map c.rooms (map (on m.this (set_local (l c.next)))), from.accepted.rooms_32, room_there)) still
            (λ j h. each_taken (on m.this (set_local (l c.next))) c.rooms j (free_before p f c from.sized from.holds from.accepted to first j h))

        -- THE NEW MACHINE in it
        pub created_done : (g : Flat) → Changed f1 to (born c b) g
            → Performed f (definition.perform p c m.this m (creates l b)) (Ok NEW)
            (flat g.ids g.kinds g.depths g.states g.maps g.values g.counts g.parts g.held g.waiting g.pairs (f.next + 1))
        created_done g d = rw (lt-ltb c.next 65536 below, filled) (
          refl,
          (
            sized,
            change_written f1 (with_local m.this (l c.next) c) moves
                (flat g.ids g.kinds g.depths g.states g.maps g.values g.counts g.parts g.held g.waiting g.pairs (f.next + 1)) to (suc c.next) (some (born c b)) room_there
                d.holds d.others (add-one f.next ∙ ap suc (next_is f c from.holds)),
          ),
        )
          where
            -- of their sizes
            sized : Sized (flat g.ids g.kinds g.depths g.states g.maps g.values g.counts g.parts g.held g.waiting g.pairs (f.next + 1))
            sized = record {
              ids_32 = d.sized.ids_32;
              kinds_32 = d.sized.kinds_32;
              depths_32 = d.sized.depths_32;
              states_256 = d.sized.states_256;
              maps_16384 = d.sized.maps_16384;
              values_608 = d.sized.values_608;
              counts_32 = d.sized.counts_32;
              parts_1056 = d.sized.parts_1056;
              held_32 = d.sized.held_32;
              waiting_32 = d.sized.waiting_32;
              pairs_512 = d.sized.pairs_512;
            }
