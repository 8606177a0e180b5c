-- A configuration of the definitions written as the code's, every unused place zero. "Unused places are zero" of a configuration that is handed in is
-- that writing what it reads as gives it again.
use Rattle.std.specs.Prelude.{ℕ, ◌+◌, ◌*◌, ◌≡◌, List, [], ◌∷◌, ◌++◌, map, reverse, length, replicate}
use Rattle.std.proofs.Math.Option.{Option, none, some}
use Rattle.rows.specs.Pad.{pad}
use Rattle.lists.specs.Lists.{flat}
use Rattle.values.specs.Values.{id_of}
use Rattle.programs.specs.Sizes.{EVENTS, VARIABLES, STACK, QUEUE, ROW}
use Rattle.programs.specs.Program.{Program}
use Rattle.machines.specs.Config.{Reply, action, deferred, nothing, Frame, Pending, idle, raising, returning, Pair, Machine, Config}
use Rattle.codes.specs.Codes.{code_of}
use Rattle.codes.specs.Pairs.{pair_code}
use Rattle.configs.specs.declared.Room.{Room}
use Rattle.configs.specs.declared.Config.{Config as Held}
use Rattle.configs.specs.Decode.{config_of}

-- the number of an entry of a map
abbrev pub reply_code : Reply → ℕ
reply_code (action a) = a
reply_code deferred = 255
reply_code nothing = 0

-- the number of a pair
abbrev pub pair_number : Pair → ℕ
pair_number x = pair_code x.event x.value

-- the number of what is pending
abbrev pub held_code : Pending → ℕ
held_code idle = 0
held_code (raising e v) = pair_code e v
held_code returning = 1

-- the 64 places of a frame's map
abbrev pub map_codes : Frame → List ℕ
map_codes f = pad 0 EVENTS (map reply_code f.map)

-- the room of a machine
abbrev pub taken : Machine → Room
taken m = record {
  this = record { 0 = m.this };
  kind = record { 0 = m.loc.kind };
  depth = length m.loc.stack;
  states = pad 0 STACK (reverse (map (λ f. f.state) m.loc.stack));
  maps = pad 0 (STACK * EVENTS) (flat map_codes (reverse m.loc.stack));
  values = pad 0 VARIABLES (map code_of m.loc.variables) ++ code_of (id_of m.this) ∷ code_of m.loc.msg ∷ code_of m.loc.arg ∷ [];
  count = length m.loc.row;
  parts = pad 0 ROW (reverse m.loc.row);
  held = held_code m.loc.pending;
  waiting = length m.queue;
  pairs = pad 0 QUEUE (map pair_number m.queue);
}

-- a free room
abbrev pub free : Room
free = record {
  this = record { 0 = 0 };
  kind = record { 0 = 0 };
  depth = 0;
  states = replicate STACK 0;
  maps = replicate (STACK * EVENTS) 0;
  values = replicate (VARIABLES + 3) 0;
  count = 0;
  parts = replicate ROW 0;
  held = 0;
  waiting = 0;
  pairs = replicate QUEUE 0;
}

abbrev pub room_code : Option Machine → Room
room_code none = free
room_code (some m) = taken m

-- THE CONFIGURATION, written
abbrev pub written : Config → Held
written c = record { next = c.next; rooms = map room_code c.rooms }

-- "unused places are zero"
abbrev pub Zeroed : Program → Held → Type 0
Zeroed p c = written (config_of p c) ≡ c
