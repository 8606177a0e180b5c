-- The code's configuration read as one of the definitions, whatever its numbers are.
use Rattle.std.specs.Prelude.{ℕ, zero, suc, ◌*◌, cond, List, [], ◌∷◌, map, eqb, length, take, get_or}
use Rattle.std.proofs.Math.Option.{Option, none, some}
use Rattle.rows.specs.Part.{part}
use Rattle.programs.specs.Sizes.{EVENTS}
use Rattle.programs.specs.Program.{Program, variables_of}
use Rattle.machines.specs.Config.{Reply, action, deferred, nothing, Frame, Pending, idle, raising, returning, Pair, Machine, Config}
use Rattle.codes.specs.Codes.{value_of}
use Rattle.codes.specs.Pairs.{pair_event, pair_value}
use Rattle.configs.specs.declared.Room.{Room}
use Rattle.configs.specs.declared.Config.{Config as Held}

-- f (n - 1), .., f 0: a list that is kept last element first
abbrev pub down_to : {A : Type 0} → (ℕ → A) → ℕ → List A
down_to f zero = []
down_to f (suc n) = f n ∷ down_to f n

-- an entry of a map: 0 nothing, 255 deferred, else the action
abbrev pub reply_of : ℕ → Reply
reply_of x = cond (eqb x 0) nothing (cond (eqb x 255) deferred (action x))

-- the pair of a number
abbrev pub pair_of : ℕ → Pair
pair_of x = record { event = pair_event x; value = pair_value x }

-- what is pending: 0 nothing, 1 a return, else a raise
abbrev pub pending_of : ℕ → Pending
pending_of x = cond (eqb x 0) idle (cond (eqb x 1) returning (raising (pair_event x) (pair_value x)))

-- frame d of a stack, the first one 0: its map has an entry for each of the program's events
abbrev pub frame_at : Program → List ℕ → List ℕ → ℕ → Frame
frame_at p states maps d = record { state = get_or states d 0; map = map reply_of (take (length p.events) (part (d * EVENTS) EVENTS maps)) }

-- the machine in a room
abbrev pub machine_of : Program → Room → Machine
machine_of p r = record {
  this = r.this.0;
  loc = record {
    kind = r.kind.0;
    stack = down_to (frame_at p r.states r.maps) r.depth;
    variables = map value_of (take (length (variables_of p r.kind.0)) r.values);
    msg = value_of (get_or r.values 17 0);
    arg = value_of (get_or r.values 18 0);
    row = down_to (λ k. get_or r.parts k 0) r.count;
    pending = pending_of r.held;
  };
  queue = map pair_of (take r.waiting r.pairs);
}

-- a room: free where its number is 0
abbrev pub room_of : Program → Room → Option Machine
room_of p r = cond (eqb r.this.0 0) none (some (machine_of p r))

-- THE CONFIGURATION
abbrev pub config_of : Program → Held → Config
config_of p c = record { rooms = map (room_of p) c.rooms; next = c.next }
