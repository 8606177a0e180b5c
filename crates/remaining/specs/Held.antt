-- The row of a machine that stands in a room, what the functions of src/lib.rt are asked of it, and the room after a change of the row: laws for the rules.
use Rattle.std.specs.Prelude.{ℕ, zero, suc, ◌+◌, ◌*◌, ◌≤◌, ◌<◌, ◌≡◌, refl, Bool, not, List, ◌∷◌, reverse, eqb, length, get_or, set}
use Rattle.std.proofs.Common.{sym, ap, ◌∙◌, ⊎_elim, arith, get_or-set_same}
use Rattle.std.proofs.lemmas.List.{length-reverse}
use Rattle.std.proofs.Math.ListN.{get_or-eq_default}
use Rattle.rows.specs.Pad.{pad, pad_get, pad_ext, below?}
use Rattle.rows.specs.Part.{part, part_length, part_get}
use Rattle.programs.specs.Program.{Program}
use Rattle.programs.specs.Statements.{height}
use Rattle.soundness.specs.Sound.{Sound}
use Rattle.soundness.specs.SoundFounded.{sound_founded}
use Rattle.machines.specs.Config.{Pending, Local, Machine}
use Rattle.machines.specs.Locals.{remains}
use Rattle.machines.specs.Rooms.{set_local}
use Rattle.machines.specs.Row.{headed, tidy}
use Rattle.acceptance.specs.Accepted.{counted, Heights}
use Rattle.kept.specs.KeptRow.{row_fits}
use Rattle.configs.specs.Decode.{pending_of}
use Rattle.configs.specs.Encode.{held_code, taken}
use Rattle.configs.specs.Reversed.{down_to_reverse, down_to_length, down_to_at}
use Rattle.configs.proofs.RoundTrip.{pending_back}
use Rattle.configs.specs.declared.Flat.{Flat}
use Rattle.configs.specs.Flat.{Sized, room_at, room_path}
use Rattle.parts.specs.Parts.{row_at, Said, tidied, awaits, awaits_held, lone_awaits}
use Rattle.engine.specs.Engine.{Stands, Changed}
use Rattle.engine.specs.Holding.{Elsewhere, RowHeld, RowBecomes, other_row, other_place, untouched, touched_place}
use Rattle.remaining.specs.Remaining.{Headed, Placing, Dropping, standing}

-- THE LISTS g ARE f OFF ROOM k
pub record OnlyRoom (f : Flat) (k : ℕ) (g : Flat) : Type 0 where
  pub ids : Elsewhere k 1 f.ids g.ids
  pub kinds : Elsewhere k 1 f.kinds g.kinds
  pub depths : Elsewhere k 1 f.depths g.depths
  pub states : Elsewhere k 8 f.states g.states
  pub maps : Elsewhere k 512 f.maps g.maps
  pub values : Elsewhere k 19 f.values g.values
  pub counts : Elsewhere k 1 f.counts g.counts
  pub parts : Elsewhere k 33 f.parts g.parts
  pub held : Elsewhere k 1 f.held g.held
  pub waiting : Elsewhere k 1 f.waiting g.waiting
  pub pairs : Elsewhere k 16 f.pairs g.pairs
  pub next : g.next ≡ f.next

-- A CHANGE OF ROOM k: by what is off it and what the room is
pub changed : (f : Flat) (k : ℕ) (m : Machine) (g : Flat) → Sized f → OnlyRoom f k g → room_at g k ≡ taken m → Changed f k m g
changed f k m g s o e = record {
  sized = record {
    ids_32 = o.ids.size ∙ s.ids_32;
    kinds_32 = o.kinds.size ∙ s.kinds_32;
    depths_32 = o.depths.size ∙ s.depths_32;
    states_256 = o.states.size ∙ s.states_256;
    maps_16384 = o.maps.size ∙ s.maps_16384;
    values_608 = o.values.size ∙ s.values_608;
    counts_32 = o.counts.size ∙ s.counts_32;
    parts_1056 = o.parts.size ∙ s.parts_1056;
    held_32 = o.held.size ∙ s.held_32;
    waiting_32 = o.waiting.size ∙ s.waiting_32;
    pairs_512 = o.pairs.size ∙ s.pairs_512;
  };
  holds = e;
  others = λ j h n. room_path
      (other_place o.ids j n)
      (other_place o.kinds j n)
      (other_place o.depths j n)
      (other_row o.states j h n s.states_256)
      (other_row o.maps j h n s.maps_16384)
      (other_row o.values j h n s.values_608)
      (other_place o.counts j n)
      (other_row o.parts j h n s.parts_1056)
      (other_place o.held j n)
      (other_place o.waiting j n)
      (other_row o.pairs j h n s.pairs_512);
  next = o.next;
}

-- THE ROW OF A MACHINE
module _ (f : Flat) (k : ℕ) (m : Machine) (e : room_at f k ≡ taken m) where
  -- its count
  pub count_is : get_or f.counts k 0 ≡ length m.loc.row
  count_is = ap (λ r. r.count) e

  -- its places
  place_is : (j : ℕ) → j < 33 → get_or f.parts (k * 33 + j) 0 ≡ get_or (reverse m.loc.row) j 0
  place_is j h = sym (part_get (k * 33) 33 f.parts j 0 h) ∙ ap (λ r. get_or r.parts j 0) e ∙ pad_get 0 33 (reverse m.loc.row) j

  -- it stands in the room
  pub row_held : Sized f → k < 32 → length m.loc.row ≤ 33 → RowHeld k f.counts f.parts m.loc.row
  row_held s h fits = record {
    rooms = s.counts_32;
    room = h;
    row = record {
      long = s.parts_1056;
      inside = omega arith;
      fits = rw count_is fits;
      zeros = λ j u v. place_is j v ∙ get_or-eq_default (reverse m.loc.row) 0 (omega (arith, length-reverse m.loc.row, count_is));
    };
    reads = rw count_is (down_to_reverse 0 _ m.loc.row (λ j b. place_is j (omega arith)));
  }

-- and a row that stands in a room is written there
pub row_taken : {k : ℕ} {counts parts r : List ℕ} → RowHeld k counts parts r → (get_or counts k 0 ≡ length r) × (part (k * 33) 33 parts ≡ pad 0 33 (reverse r))
row_taken {k = k} {counts = counts} {parts = parts} {r = r} h = (size, row)
  where
    size : get_or counts k 0 ≡ length r
    size = sym (down_to_length (λ j. get_or parts (k * 33 + j) 0) (get_or counts k 0)) ∙ ap length h.reads

    place : (i : ℕ) → i < 33 → get_or parts (k * 33 + i) 0 ≡ get_or (reverse r) i 0
    place i b = ⊎_elim
        (λ (a : i < get_or counts k 0). sym (down_to_at (λ j. get_or parts (k * 33 + j) 0) 0 (get_or counts k 0) i a) ∙ ap (λ (l : List ℕ). get_or (reverse l) i 0) h.reads)
        (λ (a : get_or counts k 0 ≤ i). h.row.zeros i a b ∙ sym (get_or-eq_default (reverse r) 0 (omega (arith, length-reverse r, size))))
        (below? i (get_or counts k 0))

    row : part (k * 33) 33 parts ≡ pad 0 33 (reverse r)
    row = pad_ext 0 33 (part (k * 33) 33 parts) (reverse r) (part_length (k * 33) 33 parts (omega (arith, h.row.long, h.row.inside)))
        (omega (arith, length-reverse r, size, h.row.fits)) (λ i b. part_get (k * 33) 33 parts i 0 b ∙ place i b)

-- THE MACHINE'S LOCAL PART with another row
abbrev pub rowed : List ℕ → Pending → Local → Local
rowed r q l = record { kind = l.kind; stack = l.stack; variables = l.variables; msg = l.msg; arg = l.arg; row = r; pending = q }

-- the lists with another row in them
abbrev pub with_row : Flat → List ℕ → List ℕ → Flat
with_row f counts parts = record {
  ids = f.ids;
  kinds = f.kinds;
  depths = f.depths;
  states = f.states;
  maps = f.maps;
  values = f.values;
  counts = counts;
  parts = parts;
  held = f.held;
  waiting = f.waiting;
  pairs = f.pairs;
  next = f.next;
}

-- and with something else that is pending
abbrev pub with_pending : Flat → List ℕ → List ℕ → List ℕ → Flat
with_pending f counts parts held = record {
  ids = f.ids;
  kinds = f.kinds;
  depths = f.depths;
  states = f.states;
  maps = f.maps;
  values = f.values;
  counts = counts;
  parts = parts;
  held = held;
  waiting = f.waiting;
  pairs = f.pairs;
  next = f.next;
}

module _ (p : Program) (f : Flat) (k : ℕ) (m : Machine) (sound : Sound p) (s : Stands p f k m) where
  -- ITS ROW
  -- has at most 33 parts,
  pub row_33 : length m.loc.row ≤ 33
  row_33 = omega (arith, row_fits p (sound_founded p sound) m.loc.kind m.loc.row m.loc.pending s.ok.loc_ok.row_ok)

  -- and stands in the room
  pub row_there : RowHeld k f.counts f.parts m.loc.row
  row_there = row_held f k m s.holds s.sized s.room row_33

  -- something is pending where its number is not 0
  pub pending_there : not (eqb (get_or f.held k 0) 0) ≡ awaits m.loc.pending
  pending_there = sym (awaits_held (get_or f.held k 0)) ∙ ap (λ r. awaits (pending_of r.held)) s.holds
      ∙ ap awaits (pending_back p f.next sound s.spent m.loc.pending s.ok.loc_ok.pending_ok)

  -- WHAT THE FUNCTIONS ARE ASKED
  -- a row that is not empty has a head
  pub headed_there : (h : ℕ) (r : List ℕ) → m.loc.row ≡ h ∷ r → Headed k f.counts f.parts
  headed_there h r e = record { standing = standing row_there; some = rw (count_is f k m s.holds, e) (omega arith) }

  -- room for the parts of a
  pub placing_there : (stmts : List ℕ) (a j : ℕ) → Said stmts p → height p a + j ≤ 33 → Placing stmts k f.counts f.parts a j
  placing_there stmts a j said low = record { standing = standing row_there; program = p; said = said; low = low }

  -- and for those of the one behind the head
  pub dropping_there : (stmts : List ℕ) (h : ℕ) (r : List ℕ) → Said stmts p → m.loc.row ≡ h ∷ r → Dropping stmts k f.counts f.parts
  dropping_there stmts h r said e = record { headed = headed_there h r e; program = p; said = said; low = λ l q. go l (get_or f.counts k 0) q all }
    where
      all : Heights p (counted m.loc.pending) (row_at (k * 33) (get_or f.counts k 0) f.parts)
      all = rw row_there.reads s.ok.loc_ok.row_ok.heights

      go : (l n : ℕ) → l + 2 ≡ n → Heights p (counted m.loc.pending) (row_at (k * 33) n f.parts) → height p (get_or f.parts (k * 33 + l) 0) + l ≤ 33
      go l zero q hs = absurd (omega arith)
      go l (suc zero) q hs = absurd (omega arith)
      go l (suc (suc n)) q hs = let z : l ≡ n = omega arith in rw z (omega (arith, hs.1.0, down_to_length (λ j. get_or f.parts (k * 33 + j) 0) n))

  -- A CHANGE OF THE ROW
  module _ {Of : Program → Type 0} {g : Program → List ℕ → List ℕ} {counts parts : List ℕ} (change : RowBecomes k f.counts f.parts Of g counts parts) (of : Of p) where
    -- the row after it
    row_after : RowHeld k counts parts (g p m.loc.row)
    row_after = change.becomes p of m.loc.row row_there

    -- q is pending afterwards, by the number in its place
    row_sets : (q : Pending) (held : List ℕ) → Elsewhere k 1 f.held held → get_or held k 0 ≡ held_code q
        → Changed f k (set_local (rowed (g p m.loc.row) q m.loc) m) (with_pending f counts parts held)
    row_sets q held off e = changed f k _ (with_pending f counts parts held) s.sized (record {
      ids = untouched;
      kinds = untouched;
      depths = untouched;
      states = untouched;
      maps = untouched;
      values = untouched;
      counts = change.counts_off;
      parts = change.parts_off;
      held = off;
      waiting = untouched;
      pairs = untouched;
      next = refl;
    }) (room_path (ap (λ r. r.this.0) s.holds) (ap (λ r. r.kind.0) s.holds) (ap (λ r. r.depth) s.holds) (ap (λ r. r.states) s.holds) (ap (λ r. r.maps) s.holds) (ap (λ r. r.values) s.holds)
        (row_taken row_after).0 (row_taken row_after).1 e (ap (λ r. r.waiting) s.holds) (ap (λ r. r.pairs) s.holds))

    -- what is pending stays
    pub row_changed : Changed f k (set_local (rowed (g p m.loc.row) m.loc.pending m.loc) m) (with_row f counts parts)
    row_changed = row_sets m.loc.pending f.held untouched (ap (λ r. r.held) s.holds)

    -- q is pending afterwards
    pub row_pends : (q : Pending) → Changed f k (set_local (rowed (g p m.loc.row) q m.loc) m) (with_pending f counts parts (set f.held k (held_code q)))
    row_pends q = row_sets q (set f.held k (held_code q)) (touched_place k (held_code q) f.held) (get_or-set_same f.held k (held_code q) 0 (omega (arith, s.sized.held_32, s.room)))

-- THE RULES OF FORM need no more of what is pending than whether something is
pub tidy_awaits : (p : Program) (r : List ℕ) (q : Pending) → tidied (awaits q) p r ≡ tidy p r q
tidy_awaits p r q = sym (lone_awaits p (headed p r) q)

module _ (p : Program) (f : Flat) (k : ℕ) (m : Machine) (sound : Sound p) (s : Stands p f k m) {Of : Program → Type 0} (g : Program → List ℕ → List ℕ) {counts parts : List ℕ} where
  -- THE ROW THAT REMAINS is r, and what is pending stays
  pub remains_changed : (w : Bool) → w ≡ not (eqb (get_or f.held k 0) 0) → RowBecomes k f.counts f.parts Of (λ p r. tidied w p (g p r)) counts parts → Of p → (r : List ℕ) → g p m.loc.row ≡ r
      → Changed f k (set_local (remains p r m.loc.pending m.loc) m) (with_row f counts parts)
  remains_changed w h change of r e =
      rw (← e, ← tidy_awaits p (g p m.loc.row) m.loc.pending, ← h ∙ pending_there p f k m sound s) (row_changed p f k m sound s change of)

  -- the row that remains is r, and q is pending
  pub remains_pends : (w : Bool) (q : Pending) → w ≡ awaits q → RowBecomes k f.counts f.parts Of (λ p r. tidied w p (g p r)) counts parts → Of p → (r : List ℕ) → g p m.loc.row ≡ r
      → Changed f k (set_local (remains p r q m.loc) m) (with_pending f counts parts (set f.held k (held_code q)))
  remains_pends w q h change of r e = rw (← e, ← tidy_awaits p (g p m.loc.row) q, ← h) (row_pends p f k m sound s change of q)
