-- The engine's form of a configuration: one flat list for all 32 rooms each, row i of it room i's; the configuration that it is, and what a change of one
-- room's rows does to what it reads as.
use Rattle.std.specs.Prelude.{ℕ, ◌*◌, ◌<◌, ◌≡◌, List, length, get_or, set, replicate}
use Rattle.std.proofs.Common.{ap, sym, ◌∙◌}
use Rattle.std.proofs.Math.Option.{Option, none}
use Rattle.std.proofs.lemmas.List.{length-replicate}
use Rattle.rows.specs.Seek.{table, table_at, map_table, table_set}
use Rattle.rows.specs.Part.{part}
use Rattle.programs.specs.Program.{Program}
use Rattle.machines.specs.Config.{Machine, Config}
use Rattle.configs.specs.declared.Room.{Room}
use Rattle.configs.specs.declared.Flat.{Flat}
use Rattle.configs.specs.declared.Config.{Config as Held}
use Rattle.configs.specs.Decode.{room_of, config_of}

-- each has the places of 32 rooms
pub record Sized (f : Flat) : Type 0 where
  pub ids_32 : length f.ids ≡ 32
  pub kinds_32 : length f.kinds ≡ 32
  pub depths_32 : length f.depths ≡ 32
  pub states_256 : length f.states ≡ 256
  pub maps_16384 : length f.maps ≡ 16384
  pub values_608 : length f.values ≡ 608
  pub counts_32 : length f.counts ≡ 32
  pub parts_1056 : length f.parts ≡ 1056
  pub held_32 : length f.held ≡ 32
  pub waiting_32 : length f.waiting ≡ 32
  pub pairs_512 : length f.pairs ≡ 512

-- the lists, one after the other
abbrev pub flat : List ℕ → List ℕ → List ℕ → List ℕ → List ℕ → List ℕ → List ℕ → List ℕ → List ℕ → List ℕ → List ℕ → ℕ → Flat
flat ids kinds depths states maps values counts parts held waiting pairs next = record {
  ids = ids;
  kinds = kinds;
  depths = depths;
  states = states;
  maps = maps;
  values = values;
  counts = counts;
  parts = parts;
  held = held;
  waiting = waiting;
  pairs = pairs;
  next = next;
}

-- the lists with another next number
abbrev pub with_next : Flat → ℕ → Flat
with_next f n = flat f.ids f.kinds f.depths f.states f.maps f.values f.counts f.parts f.held f.waiting f.pairs n

-- have the same sizes
pub sized_next : (f : Flat) (n : ℕ) → Sized f → Sized (with_next f n)
sized_next f n s = record {
  ids_32 = s.ids_32;
  kinds_32 = s.kinds_32;
  depths_32 = s.depths_32;
  states_256 = s.states_256;
  maps_16384 = s.maps_16384;
  values_608 = s.values_608;
  counts_32 = s.counts_32;
  parts_1056 = s.parts_1056;
  held_32 = s.held_32;
  waiting_32 = s.waiting_32;
  pairs_512 = s.pairs_512;
}

-- every place zero
abbrev pub zeros : Flat
zeros = flat (replicate 32 0) (replicate 32 0) (replicate 32 0) (replicate 256 0) (replicate 16384 0) (replicate 608 0) (replicate 32 0) (replicate 1056 0) (replicate 32 0)
    (replicate 32 0) (replicate 512 0) 0

-- has the places of 32 rooms
pub zeros_sized : Sized zeros
zeros_sized = record {
  ids_32 = length-replicate {A = ℕ} 32 0;
  kinds_32 = length-replicate {A = ℕ} 32 0;
  depths_32 = length-replicate {A = ℕ} 32 0;
  states_256 = length-replicate {A = ℕ} 256 0;
  maps_16384 = length-replicate {A = ℕ} 16384 0;
  values_608 = length-replicate {A = ℕ} 608 0;
  counts_32 = length-replicate {A = ℕ} 32 0;
  parts_1056 = length-replicate {A = ℕ} 1056 0;
  held_32 = length-replicate {A = ℕ} 32 0;
  waiting_32 = length-replicate {A = ℕ} 32 0;
  pairs_512 = length-replicate {A = ℕ} 512 0;
}

-- room i
abbrev pub room_at : Flat → ℕ → Room
room_at f i = record {
  this = record { 0 = get_or f.ids i 0 };
  kind = record { 0 = get_or f.kinds i 0 };
  depth = get_or f.depths i 0;
  states = part (i * 8) 8 f.states;
  maps = part (i * 512) 512 f.maps;
  values = part (i * 19) 19 f.values;
  count = get_or f.counts i 0;
  parts = part (i * 33) 33 f.parts;
  held = get_or f.held i 0;
  waiting = get_or f.waiting i 0;
  pairs = part (i * 16) 16 f.pairs;
}

-- THE CONFIGURATION that the lists are
abbrev pub held : Flat → Held
held f = record { next = f.next; rooms = table (room_at f) 0 32 }

-- as it reads
abbrev pub flat_config : Program → Flat → Config
flat_config p f = config_of p (held f)

-- a room is known by its numbers and its rows
pub room_path : {a a' b b' c c' : ℕ} {d d' e e' f f' : List ℕ} {g g' : ℕ} {h h' : List ℕ} {j j' k k' : ℕ} {l l' : List ℕ} → a ≡ a' → b ≡ b' → c ≡ c' → d ≡ d' → e ≡ e' → f ≡ f' → g ≡ g'
    → h ≡ h' → j ≡ j' → k ≡ k' → l ≡ l'
    → ◌≡◌ {A = Room}
    (record { this = record { 0 = a }; kind = record { 0 = b }; depth = c; states = d; maps = e; values = f; count = g; parts = h; held = j; waiting = k; pairs = l })
    (record { this = record { 0 = a' }; kind = record { 0 = b' }; depth = c'; states = d'; maps = e'; values = f'; count = g'; parts = h'; held = j'; waiting = k'; pairs = l' })
room_path a b c d e f g h j k l = λ i. record {
  this = record { 0 = a i };
  kind = record { 0 = b i };
  depth = c i;
  states = d i;
  maps = e i;
  values = f i;
  count = g i;
  parts = h i;
  held = j i;
  waiting = k i;
  pairs = l i;
}

module _ (p : Program) where
  -- the rooms as they read
  rooms_table : (f : Flat) → (flat_config p f).rooms ≡ table (λ j. room_of p (room_at f j)) 0 32
  rooms_table f = map_table (room_of p) (room_at f) 0 32

  -- room i as it reads
  pub config_at : (f : Flat) (i : ℕ) → i < 32 → get_or (flat_config p f).rooms i none ≡ room_of p (room_at f i)
  config_at f i h = ap (λ (l : List (Option Machine)). get_or l i none) (rooms_table f) ∙ table_at (λ j. room_of p (room_at f j)) none 32 i h

  -- A CHANGE OF ROOM i
  pub config_change : (f g : Flat) (i : ℕ) (o : Option Machine) → i < 32 → room_of p (room_at g i) ≡ o → ((j : ℕ) → j < 32 → (j ≡ i → ⊥) → room_at g j ≡ room_at f j)
      → flat_config p g ≡ record { rooms = set (flat_config p f).rooms i o; next = g.next }
  config_change f g i o h e others = λ t. record { rooms = rooms t; next = g.next }
    where
      rooms : (flat_config p g).rooms ≡ set (flat_config p f).rooms i o
      rooms = rooms_table g ∙ table_set none (λ j. room_of p (room_at f j)) (λ j. room_of p (room_at g j)) 32 i h (λ j b n. ap (room_of p) (others j b n))
          ∙ ap (λ (x : Option Machine). set (table (λ j. room_of p (room_at f j)) 0 32) i x) e ∙ ap (λ (l : List (Option Machine)). set l i o) (sym (rooms_table f))
