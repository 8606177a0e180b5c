-- What is written of an accepted configuration of a sound program is read back; and so a configuration whose unused places are zero is known by what it reads
-- as.
use Rattle.std.specs.Prelude.{ℕ, ◌+◌, ◌*◌, ◌≤◌, ◌<◌, ◌≡◌, refl, Bool, cond, List, [], ◌∷◌, map, reverse, length, take, get_or}
use Rattle.std.proofs.Common.{ap, sym, ◌∙◌, arith, get_or-append-add, ne_eqb}
use Rattle.std.proofs.Math.Option.{Option, none, some}
use Rattle.std.proofs.Math.Logic.{dite}
use Rattle.std.proofs.Math.Decide.{ℕ_discrete}
use Rattle.std.proofs.lemmas.List.{length-reverse, length-map, take-append-le}
use Rattle.std.proofs.Math.ListN.{get_or-map}
use Rattle.rows.specs.Pad.{pad, pad_length, pad_take, pad_get}
use Rattle.rows.specs.Part.{part}
use Rattle.lists.specs.Lists.{All, flat}
use Rattle.lists.specs.Facts.{All-map, All-at}
use Rattle.values.specs.declared.Value.{Value}
use Rattle.values.specs.declared.Value.TheVariants.{Undefined as undefined, Bool as vbool, Int as vint, Event as vevent, Id as vid}
use Rattle.values.specs.Values.{id_of}
use Rattle.programs.specs.Sizes.{EVENTS, VARIABLES, STACK, QUEUE, ROW, SPENT, ACTIONS}
use Rattle.programs.specs.Program.{Program, variables_of}
use Rattle.soundness.specs.Sound.{Sound}
use Rattle.machines.specs.Config.{Reply, action, deferred, nothing, Frame, Pending, idle, raising, returning, Pair, Machine, Config}
use Rattle.acceptance.specs.Accepted.{ValueOk, PairOk, PendingOk, ReplyOk, FrameOk, MachineOk, RoomOk, Accepted}
use Rattle.acceptance.specs.Typed.{typed_length, typed_values}
use Rattle.tables.specs.Widths.{padded_part}
use Rattle.codes.specs.Codes.{code_of, value_of, Holdable}
use Rattle.codes.specs.Laws.{value_code}
use Rattle.codes.specs.Pairs.{pair_code, pair_event_lem, pair_value_lem}
use Rattle.configs.specs.declared.Config.{Config as Held}
use Rattle.configs.specs.Decode.{down_to, reply_of, pair_of, pending_of, frame_at, machine_of, room_of, config_of}
use Rattle.configs.specs.Encode.{reply_code, pair_number, held_code, map_codes, taken, room_code, written, Zeroed}
use Rattle.lists.specs.Keep.{map_back, All-reverse, map_reverse}
use Rattle.configs.specs.Reversed.{down_to_reverse}

-- a frame that stands in no stack: the default
abbrev pub no_frame : Frame
no_frame = record { state = 0; map = [] }

-- an entry of a map is written as the number that it was read from
pub code_back : (x : ℕ) → reply_code (reply_of x) ≡ x
code_back x = dite (ℕ_discrete x 0) (λ z. rw z) (λ z. dite (ℕ_discrete x 255) (λ t. rw t) (λ t. rw (ne_eqb x 0 z, ne_eqb x 255 t)))

module _ (p : Program) (sound : Sound p) where
  -- an entry of a map
  pub reply_back : (k : ℕ) (x : Reply) → ReplyOk p k x → reply_of (reply_code x) ≡ x
  reply_back k (action a) h =
      let few : length p.actions ≤ ACTIONS = sound.is_sized.1.1.1.1.1.0 in
      rw (ne_eqb a 0 (λ e. omega (arith, h.0)), ne_eqb a 255 (λ e. omega (arith, h.0)))
  reply_back k deferred h = refl
  reply_back k nothing h = refl

  -- an accepted frame's map takes the 64 places of a row
  map_width : (k : ℕ) (f : Frame) → FrameOk p k f → length (map_codes f) ≡ EVENTS
  map_width k f ok =
      let few : length p.events ≤ EVENTS = sound.is_sized.1.0 in
      pad_length 0 EVENTS (map reply_code f.map) (omega (arith, length-map f.map reply_code, ok.each_event))

  -- the map of a frame
  map_of : (k : ℕ) (f : Frame) → FrameOk p k f → map reply_of (take (length p.events) (map_codes f)) ≡ f.map
  map_of k f ok =
      let n : length p.events ≡ length (map reply_code f.map) = omega (arith, length-map f.map reply_code, ok.each_event) in
      rw (n, pad_take 0 EVENTS (map reply_code f.map)) (map_back reply_of reply_code f.map (All-map _ _ f.map (reply_back k) ok.replies))

  -- a frame, at its place in reverse
  frame_back : (k : ℕ) (stack : List Frame) (d : ℕ) → All (FrameOk p k) stack → d < length stack
      → frame_at p (pad 0 STACK (reverse (map (λ f. f.state) stack))) (pad 0 (STACK * EVENTS) (flat map_codes (reverse stack))) d ≡ get_or (reverse stack) d no_frame
  frame_back k stack d ok h = λ i. record { state = states i; map = maps i }
    where
      below : d < length (reverse stack)
      below = omega (arith, length-reverse stack)

      states : get_or (pad 0 STACK (reverse (map (λ f. f.state) stack))) d 0 ≡ (get_or (reverse stack) d no_frame).state
      states = pad_get 0 STACK (reverse (map (λ f. f.state) stack)) d ∙ ap (λ (l : List ℕ). get_or l d 0) (map_reverse (λ f. f.state) stack)
          ∙ get_or-map (λ f. f.state) (reverse stack) d no_frame

      row : part (d * EVENTS) EVENTS (pad 0 (STACK * EVENTS) (flat map_codes (reverse stack))) ≡ map_codes (get_or (reverse stack) d no_frame)
      row = padded_part map_codes EVENTS no_frame 0 (STACK * EVENTS) (reverse stack) d below
          (All-map _ _ (reverse stack) (map_width k) (All-reverse (FrameOk p k) stack ok))

      maps : map reply_of (take (length p.events) (part (d * EVENTS) EVENTS (pad 0 (STACK * EVENTS) (flat map_codes (reverse stack)))))
          ≡ (get_or (reverse stack) d no_frame).map
      maps = ap (λ (l : List ℕ). map reply_of (take (length p.events) l)) row
          ∙ map_of k (get_or (reverse stack) d no_frame) (All-at (FrameOk p k) no_frame (reverse stack) d below (All-reverse (FrameOk p k) stack ok))

  -- the stack
  pub stack_back : (k : ℕ) (stack : List Frame) → All (FrameOk p k) stack
      → down_to (frame_at p (pad 0 STACK (reverse (map (λ f. f.state) stack))) (pad 0 (STACK * EVENTS) (flat map_codes (reverse stack)))) (length stack) ≡ stack
  stack_back k stack ok = down_to_reverse no_frame _ stack (λ d h. frame_back k stack d ok h)

-- the row
pub row_back : (row : List ℕ) → down_to (λ k. get_or (pad 0 ROW (reverse row)) k 0) (length row) ≡ row
row_back row = down_to_reverse 0 _ row (λ k h. pad_get 0 ROW (reverse row) k)

module _ (p : Program) (next : ℕ) (sound : Sound p) (spent : next ≤ SPENT) where
  -- a value of an accepted configuration can be held
  pub holdable : (v : Value) → ValueOk p next v → Holdable v
  holdable undefined h = tt
  holdable (vbool b) h = tt
  holdable (vint z) h = h
  holdable (vevent e) h = let few : length p.events ≤ EVENTS = sound.is_sized.1.0 in omega (arith, h.1)
  holdable (vid i) h = omega (arith, h.1)

  -- a value
  pub value_back : (v : Value) → ValueOk p next v → value_of (code_of v) ≡ v
  value_back v h = value_code v (holdable v h)

  -- a pair
  pub pair_back : (x : Pair) → PairOk p next x → pair_of (pair_number x) ≡ x
  pair_back x h = λ i. record {
    event = pair_event_lem x.event x.value (holdable x.value h.1.0) i;
    value = pair_value_lem x.event x.value (holdable x.value h.1.0) i;
  }

  -- what is pending
  pub pending_back : (q : Pending) → PendingOk p next q → pending_of (held_code q) ≡ q
  pending_back idle h = refl
  pending_back (raising e v) h =
      rw (ne_eqb (pair_code e v) 0 (λ q. omega (arith, h.0.0)), ne_eqb (pair_code e v) 1 (λ q. omega (arith, h.0.0)))
      (λ i. raising (pair_event_lem e v (holdable v h.1.0) i) (pair_value_lem e v (holdable v h.1.0) i))
  pending_back returning h = refl

  -- a machine
  module _ (m : Machine) (ok : MachineOk p next m) where
    -- no more than 16 variables
    few : length (variables_of p m.loc.kind) ≤ VARIABLES
    few = sound.is_sized.1.1.0 m.loc.kind ok.loc_ok.kind_there

    -- its variables take 16 places
    width : length (pad 0 VARIABLES (map code_of m.loc.variables)) ≡ VARIABLES
    width = pad_length 0 VARIABLES (map code_of m.loc.variables)
        (omega (arith, few, length-map m.loc.variables code_of, typed_length p next (variables_of p m.loc.kind) m.loc.variables ok.loc_ok.vars))

    -- its variables
    variables_back : map value_of (take (length (variables_of p m.loc.kind)) (taken m).values) ≡ m.loc.variables
    variables_back =
        let t = typed_length p next (variables_of p m.loc.kind) m.loc.variables ok.loc_ok.vars in
        let n : length (variables_of p m.loc.kind) ≡ length (map code_of m.loc.variables) = omega (arith, length-map m.loc.variables code_of, t) in
        ap (map value_of) (take-append-le (length (variables_of p m.loc.kind)) (pad 0 VARIABLES (map code_of m.loc.variables)) _ (omega (arith, few, width))
        ∙ ap (λ (k : ℕ). take k (pad 0 VARIABLES (map code_of m.loc.variables))) n ∙ pad_take 0 VARIABLES (map code_of m.loc.variables))
        ∙ map_back value_of code_of m.loc.variables (All-map _ _ m.loc.variables value_back (typed_values p next (variables_of p m.loc.kind) m.loc.variables ok.loc_ok.vars))

    -- the place j behind the variables
    behind : (j : ℕ) → get_or (taken m).values (VARIABLES + j) 0 ≡ get_or (code_of (id_of m.this) ∷ code_of m.loc.msg ∷ code_of m.loc.arg ∷ []) j 0
    behind j = ap (λ (n : ℕ). get_or (taken m).values (n + j) 0) (sym width) ∙ get_or-append-add (pad 0 VARIABLES (map code_of m.loc.variables)) _ j 0

    -- THE MACHINE
    pub machine_back : machine_of p (taken m) ≡ m
    machine_back = λ i. record {
      this = m.this;
      loc = record {
        kind = m.loc.kind;
        stack = stack_back p sound m.loc.kind m.loc.stack ok.loc_ok.frames i;
        variables = variables_back i;
        msg = (ap value_of (behind 1) ∙ value_back m.loc.msg ok.loc_ok.msg_ok.0) i;
        arg = (ap value_of (behind 2) ∙ value_back m.loc.arg ok.loc_ok.arg_ok) i;
        row = row_back m.loc.row i;
        pending = pending_back m.loc.pending ok.loc_ok.pending_ok i;
      };
      queue = queue_back i;
    }
      where
        queue_back : map pair_of (take (length m.queue) (pad 0 QUEUE (map pair_number m.queue))) ≡ m.queue
        queue_back =
            ap (λ (n : ℕ). map pair_of (take n (pad 0 QUEUE (map pair_number m.queue)))) (sym (length-map m.queue pair_number))
            ∙ ap (map pair_of) (pad_take 0 QUEUE (map pair_number m.queue))
            ∙ map_back pair_of pair_number m.queue (All-map _ _ m.queue pair_back ok.queue_ok.pairs)

  -- a room
  pub room_back : (o : Option Machine) → RoomOk p next o → room_of p (room_code o) ≡ o
  room_back none ok = refl
  room_back (some m) ok = ap (λ (b : Bool). cond b none (some (machine_of p (taken m)))) (ne_eqb m.this 0 (λ e. omega (arith, ok.low))) ∙ ap some (machine_back m ok)

-- WHAT IS WRITTEN IS READ BACK
pub reads_written : (p : Program) (c : Config) → Sound p → Accepted p c → config_of p (written c) ≡ c
reads_written p c sound ok =
    λ i. record { rooms = map_back (room_of p) room_code c.rooms (All-map _ _ c.rooms (room_back p c.next sound ok.next_high) ok.each_room) i; next = c.next }

-- what an accepted configuration is written as has zeros in its unused places
pub written_zeroed : (p : Program) (c : Config) → Sound p → Accepted p c → Zeroed p (written c)
written_zeroed p c sound ok = ap written (reads_written p c sound ok)

-- where the unused places are zero, a configuration is known by what it reads as
pub zeroed_injective : (p : Program) (c d : Held) → Zeroed p c → Zeroed p d → config_of p c ≡ config_of p d → c ≡ d
zeroed_injective p c d h k e = sym h ∙ ap written e ∙ k
