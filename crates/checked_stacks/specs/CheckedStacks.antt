-- A call stack that is handed in, in the flat lists of all rooms' states and maps: what is asked of it of a program, what the functions of src/lib.rt look
-- at, which is numbers only, and that the one is the other. Frame d of a room has its state at place d of the room's 8, and its map in the 64 places from
-- d * 64 on of the room's 512.
use Rattle.std.specs.Prelude.{ℕ, ◌+◌, ◌*◌, ◌≤◌, ◌<◌, ◌≡◌, ◌⊎◌, Bool, List, [], ◌∷◌, map, reverse, length, take, get_or}
use Rattle.std.proofs.Math.Path.{refl, ap}
use Rattle.std.proofs.Common.{sym, ◌∙◌, inl, inr, arith, ne_eqb, length-take-le}
use Rattle.std.proofs.Math.Logic.{dite}
use Rattle.std.proofs.Math.Decide.{ℕ_discrete}
use Rattle.std.proofs.lemmas.List.{length-map, length-reverse}
use Rattle.lists.specs.Lists.{at, All, There, flat}
use Rattle.lists.specs.Tells.{Tells, form}
use Rattle.rows.specs.Pad.{pad, pad_length}
use Rattle.rows.specs.Runs.{part_part}
use Rattle.rows.specs.Part.{part, part_length, part_get}
use Rattle.programs.specs.Sizes.{LIVE, STACK, EVENTS, STATES, ACTIONS}
use Rattle.programs.specs.Program.{Program, state_at, action_at}
use Rattle.machines.specs.Config.{Frame}
use Rattle.acceptance.specs.Accepted.{ReplyOk, FrameOk}
use Rattle.tables.specs.Decode.{count, states_of, no_state, state_in, actions_of, no_action, action_in}
use Rattle.tables.specs.Tables.{states_length, actions_length}
use Rattle.tables.specs.Numbered.{at_row}
use Rattle.tables.specs.Widths.{padded_part}
use Rattle.configs.specs.Decode.{down_to, reply_of, frame_at}
use Rattle.configs.specs.Encode.{reply_code, map_codes}
use Rattle.lists.specs.Keep.{All-reverse}
use Rattle.configs.proofs.RoundTrip.{no_frame, code_back}
use Rattle.configs.specs.Reversed.{down_to_at, down_to_length}
use Rattle.zeros.specs.Zeros.{Zeros}
use Rattle.zeros.specs.Packed.{reverse_down, packed, unpacked}
use Rattle.checked_stacks.specs.Widths.{rows_flat, down_each, down_all, down_map, take_each, take_all}

-- WHAT IS ASKED
-- the frames of a room's 8 states and 512 places of maps, the last one first
abbrev pub frames_of : Program → List ℕ → List ℕ → ℕ → List Frame
frames_of p states maps depth = down_to (frame_at p states maps) depth

-- THE STACK: its frames are those of an accepted machine of kind k, no more than 8, and all other places are zero
pub record StackHeld (p : Program) (k depth : ℕ) (states maps : List ℕ) : Type 0 where
  pub fits : depth ≤ STACK
  pub frames : All (FrameOk p k) (frames_of p states maps depth)
  pub states_zeroed : pad 0 STACK (reverse (map (λ f. f.state) (frames_of p states maps depth))) ≡ states
  pub maps_zeroed : pad 0 (STACK * EVENTS) (flat map_codes (reverse (frames_of p states maps depth))) ≡ maps

-- p is a program with these states and actions, and as many events
pub record Told (state_of action_of : List ℕ) (events : ℕ) (p : Program) : Type 0 where
  pub entries : List ℕ
  pub exits : List ℕ
  pub flags : List ℕ
  pub bodies : List ℕ
  pub states : p.states ≡ states_of state_of entries exits flags
  pub actions : p.actions ≡ actions_of action_of bodies
  pub many : length p.events ≡ events

-- a room, and how many events there are
pub record Asked (states maps : List ℕ) (i events : ℕ) : Type 0 where
  pub states_long : length states ≡ 256
  pub maps_long : length maps ≡ 16384
  pub room : i < LIVE
  pub events_few : events ≤ EVENTS

-- WHAT IS LOOKED AT
-- a state: it is there, and of the kind
pub record StateFits (state_of : List ℕ) (k s : ℕ) : Type 0 where
  pub there : There (count STATES state_of) s
  pub kind : get_or state_of s 0 ≡ k

-- an action: it is there, and of the kind
pub record ActionFits (action_of : List ℕ) (k a : ℕ) : Type 0 where
  pub there : There (count ACTIONS action_of) a
  pub kind : get_or action_of a 0 ≡ k

-- an entry of a map: nothing, deferred, or an action of the kind
abbrev pub EntryFits : List ℕ → ℕ → ℕ → Type 0
EntryFits action_of k x = (x ≡ 0) ⊎ ((x ≡ 255) ⊎ ActionFits action_of k x)

-- the map whose 64 places begin at b
pub record MapFits (action_of maps : List ℕ) (k events b : ℕ) : Type 0 where
  pub each : (e : ℕ) → e < events → EntryFits action_of k (get_or maps (b + e) 0)
  pub behind : Zeros (b + events) (b + EVENTS) maps

-- the states of the room whose 8 places begin at b
pub record StatesFit (state_of states : List ℕ) (k depth b : ℕ) : Type 0 where
  pub each : (d : ℕ) → d < depth → StateFits state_of k (get_or states (b + d) 0)
  pub behind : Zeros (b + depth) (b + STACK) states

-- the maps of the room whose 512 places begin at b
pub record MapsFit (action_of maps : List ℕ) (k events depth b : ℕ) : Type 0 where
  pub each : (d : ℕ) → d < depth → MapFits action_of maps k events (b + d * EVENTS)
  pub behind : Zeros (b + depth * EVENTS) (b + STACK * EVENTS) maps

-- the stack of room i
pub record StackFits (state_of action_of states maps : List ℕ) (i depth k events : ℕ) : Type 0 where
  pub few : depth ≤ STACK
  pub with_states : StatesFit state_of states k depth (i * STACK)
  pub with_maps : MapsFit action_of maps k events depth (i * (STACK * EVENTS))

-- A STACK OF A PROGRAM
-- a list of entries is written as the numbers that they were read from
codes_back : (l : List ℕ) → map reply_code (map reply_of l) ≡ l
codes_back [] = refl
codes_back (x ∷ l) = rw (code_back x, codes_back l)

module _ (state_of action_of : List ℕ) (events : ℕ) (p : Program) (told : Told state_of action_of events p) (k : ℕ) where
  -- as many states,
  many_states : length p.states ≡ count STATES state_of
  many_states = ap length told.states ∙ states_length state_of told.entries told.exits told.flags

  -- and as many actions as their lists say.
  many_actions : length p.actions ≡ count ACTIONS action_of
  many_actions = ap length told.actions ∙ actions_length action_of told.bodies

  -- The kind of a state,
  state_kind : (s : ℕ) → There (count STATES state_of) s → (state_at p s).of ≡ get_or state_of s 0
  unfolding states_of
  state_kind s h = ap (λ l. (at no_state l s).of) told.states ∙ ap (λ x. x.of) (at_row (state_in state_of told.entries told.exits told.flags) no_state refl h.0 h.1)

  -- and of an action, by their numbers.
  action_kind : (a : ℕ) → There (count ACTIONS action_of) a → (action_at p a).of ≡ get_or action_of a 0
  unfolding actions_of
  action_kind a h = ap (λ l. (at no_action l a).of) told.actions ∙ ap (λ x. x.of) (at_row (action_in action_of told.bodies) no_action refl h.0 h.1)

  -- An entry suits the kind, by its number,
  entry_holds : (x : ℕ) → EntryFits action_of k x → ReplyOk p k (reply_of x)
  entry_holds x h = dite (ℕ_discrete x 0) (λ z. rw z tt) (λ z. dite (ℕ_discrete x 255) (λ t. rw t tt) (λ t. rw (ne_eqb x 0 z, ne_eqb x 255 t) (go z t h)))
    where
      go : (x ≡ 0 → ⊥) → (x ≡ 255 → ⊥) → EntryFits action_of k x → There (length p.actions) x × ((action_at p x).of ≡ k)
      go z t (inl e) = absurd (z e)
      go z t (inr (inl e)) = absurd (t e)
      go z t (inr (inr h)) = ((h.there.0, rw many_actions h.there.1), action_kind x h.there ∙ h.kind)

  -- and the other way round.
  entry_fits : (x : ℕ) → ReplyOk p k (reply_of x) → EntryFits action_of k x
  entry_fits x h = dite (ℕ_discrete x 0) (λ z. inl z) (λ z. dite (ℕ_discrete x 255) (λ t. inr (inl t)) (λ t. inr (inr (go (rw (ne_eqb x 0 z, ne_eqb x 255 t) at h)))))
    where
      go : There (length p.actions) x × ((action_at p x).of ≡ k) → ActionFits action_of k x
      go h = let there : There (count ACTIONS action_of) x = (h.0.0, rw many_actions at h.0.1) in
          record { there = there; kind = sym (action_kind x there) ∙ h.1 }

  -- A room
  module _ (states maps : List ℕ) (i : ℕ) (asked : Asked states maps i events) where
    -- the frame at place d
    abbrev frame : ℕ → Frame
    frame d = frame_at p (part (i * STACK) STACK states) (part (i * (STACK * EVENTS)) (STACK * EVENTS) maps) d

    -- where the room's states,
    states_inside : i * STACK + STACK ≤ length states
    states_inside = omega (arith, asked.states_long, asked.room)

    -- its maps,
    maps_inside : i * (STACK * EVENTS) + STACK * EVENTS ≤ length maps
    maps_inside = omega (arith, asked.maps_long, asked.room)

    -- and one of them stand
    map_inside : (d : ℕ) → d < STACK → i * (STACK * EVENTS) + d * EVENTS + EVENTS ≤ length maps
    map_inside d h = omega (arith, maps_inside)

    -- the 64 places of a frame's map
    map_at : (d : ℕ) → d < STACK → part (d * EVENTS) EVENTS (part (i * (STACK * EVENTS)) (STACK * EVENTS) maps) ≡ part (i * (STACK * EVENTS) + d * EVENTS) EVENTS maps
    map_at d h = part_part 0 (i * (STACK * EVENTS)) (STACK * EVENTS) (d * EVENTS) EVENTS maps (omega arith) maps_inside

    -- are 64
    map_long : (d : ℕ) → d < STACK → length (part (i * (STACK * EVENTS) + d * EVENTS) EVENTS maps) ≡ EVENTS
    map_long d h = part_length (i * (STACK * EVENTS) + d * EVENTS) EVENTS maps (map_inside d h)

    -- A frame suits the kind, by its numbers,
    frame_holds : (d : ℕ) → d < STACK → StateFits state_of k (get_or states (i * STACK + d) 0) → MapFits action_of maps k events (i * (STACK * EVENTS) + d * EVENTS) → FrameOk p k (frame d)
    frame_holds d h s m = record {
      there = rw (part_get (i * STACK) STACK states d 0 h, many_states) s.there;
      suited = rw (part_get (i * STACK) STACK states d 0 h) (state_kind (get_or states (i * STACK + d) 0) s.there ∙ s.kind);
      each_event = rw (map_at d h, told.many) (length-map (take events (part (i * (STACK * EVENTS) + d * EVENTS) EVENTS maps)) reply_of ∙ length-take-le events (part (i * (STACK * EVENTS) + d * EVENTS) EVENTS maps) (omega (arith, map_long d h, asked.events_few)));
      replies = rw (map_at d h, told.many) (take_all reply_of (ReplyOk p k) events (part (i * (STACK * EVENTS) + d * EVENTS) EVENTS maps) (omega (arith, map_long d h, asked.events_few))
          (λ e b. rw (part_get (i * (STACK * EVENTS) + d * EVENTS) EVENTS maps e 0 (omega (arith, asked.events_few))) (entry_holds (get_or maps (i * (STACK * EVENTS) + d * EVENTS + e) 0) (m.each e b))));
    }

    -- and the other way round: its state,
    state_fits : (d : ℕ) → d < STACK → FrameOk p k (frame d) → StateFits state_of k (get_or states (i * STACK + d) 0)
    state_fits d h f =
        let e : get_or (part (i * STACK) STACK states) d 0 ≡ get_or states (i * STACK + d) 0 = part_get (i * STACK) STACK states d 0 h in
        let there : There (count STATES state_of) (get_or states (i * STACK + d) 0) = rw (e, many_states) at f.there in
        record { there = there; kind = sym (state_kind (get_or states (i * STACK + d) 0) there) ∙ (rw e at f.suited) }

    -- and its map.
    entries_fit : (d : ℕ) → d < STACK → FrameOk p k (frame d) → (e : ℕ) → e < events → EntryFits action_of k (get_or maps (i * (STACK * EVENTS) + d * EVENTS + e) 0)
    entries_fit d h f e b =
        let all : All (ReplyOk p k) (map reply_of (take events (part (i * (STACK * EVENTS) + d * EVENTS) EVENTS maps))) = rw (map_at d h, told.many) at f.replies in
        entry_fits (get_or maps (i * (STACK * EVENTS) + d * EVENTS + e) 0) (rw (part_get (i * (STACK * EVENTS) + d * EVENTS) EVENTS maps e 0 (omega (arith, asked.events_few))) at
        (take_each reply_of (ReplyOk p k) events (part (i * (STACK * EVENTS) + d * EVENTS) EVENTS maps) e (omega (arith, map_long d h, asked.events_few)) b all))

    -- A frame's map is written as its first places with zeros behind them,
    map_codes_lem : (d : ℕ) → d < STACK → map_codes (frame d) ≡ pad 0 EVENTS (take events (part (i * (STACK * EVENTS) + d * EVENTS) EVENTS maps))
    map_codes_lem d h = rw (map_at d h, told.many, codes_back (take events (part (i * (STACK * EVENTS) + d * EVENTS) EVENTS maps)))

    -- 64 of them,
    map_width : (d : ℕ) → d < STACK → length (map_codes (frame d)) ≡ EVENTS
    map_width d h = ap length (map_codes_lem d h) ∙ pad_length 0 EVENTS (take events (part (i * (STACK * EVENTS) + d * EVENTS) EVENTS maps))
        (omega (arith, length-take-le events (part (i * (STACK * EVENTS) + d * EVENTS) EVENTS maps) (omega (arith, map_long d h, asked.events_few)), asked.events_few))

    -- which are the map's own where zeros are behind its entries,
    map_row : (d : ℕ) → d < STACK → Zeros (i * (STACK * EVENTS) + d * EVENTS + events) (i * (STACK * EVENTS) + d * EVENTS + EVENTS) maps
        → part (d * EVENTS) EVENTS (part (i * (STACK * EVENTS)) (STACK * EVENTS) maps) ≡ map_codes (frame d)
    map_row d h z = map_at d h ∙ sym (map_codes_lem d h ∙ packed (i * (STACK * EVENTS) + d * EVENTS) EVENTS events maps (map_inside d h) asked.events_few z)

    -- and nowhere else.
    row_map : (d : ℕ) → d < STACK → part (d * EVENTS) EVENTS (part (i * (STACK * EVENTS)) (STACK * EVENTS) maps) ≡ map_codes (frame d)
        → Zeros (i * (STACK * EVENTS) + d * EVENTS + events) (i * (STACK * EVENTS) + d * EVENTS + EVENTS) maps
    row_map d h e = unpacked (i * (STACK * EVENTS) + d * EVENTS) EVENTS events maps (map_inside d h) asked.events_few (sym (map_codes_lem d h) ∙ sym e ∙ map_at d h)

    -- THE STACK, by its numbers
    module _ (depth : ℕ) (few : depth ≤ STACK) where
      -- the frames, the first one first
      abbrev upward : List Frame
      upward = reverse (down_to frame depth)

      -- as many as the stack is deep
      upward_length : length upward ≡ depth
      upward_length = length-reverse (down_to frame depth) ∙ down_to_length frame depth

      -- their states are the room's first places
      states_front : reverse (map (λ f. f.state) (down_to frame depth)) ≡ take depth (part (i * STACK) STACK states)
      states_front = ap reverse (down_map frame (λ f. f.state) depth) ∙ reverse_down depth (part (i * STACK) STACK states) (omega (arith, part_length (i * STACK) STACK states states_inside))

      -- and so are their maps, where each is written as it stands
      maps_front : ((d : ℕ) → d < depth → part (d * EVENTS) EVENTS (part (i * (STACK * EVENTS)) (STACK * EVENTS) maps) ≡ map_codes (frame d))
          → flat map_codes upward ≡ take (depth * EVENTS) (part (i * (STACK * EVENTS)) (STACK * EVENTS) maps)
      maps_front h =
          rows_flat map_codes EVENTS no_frame upward (part (i * (STACK * EVENTS)) (STACK * EVENTS) maps)
          (λ d b. let l : d < depth = omega (arith, upward_length) in h d l ∙ ap map_codes (sym (down_to_at frame no_frame depth d l)))
          ∙ ap (λ (n : ℕ). take (n * EVENTS) (part (i * (STACK * EVENTS)) (STACK * EVENTS) maps)) upward_length

      -- each is, where all of them, with zeros behind them, are the room's
      map_of_all : pad 0 (STACK * EVENTS) (flat map_codes upward) ≡ part (i * (STACK * EVENTS)) (STACK * EVENTS) maps
          → (d : ℕ) → d < depth → part (d * EVENTS) EVENTS (part (i * (STACK * EVENTS)) (STACK * EVENTS) maps) ≡ map_codes (frame d)
      map_of_all e d h =
          ap (λ (l : List ℕ). part (d * EVENTS) EVENTS l) (sym e)
          ∙ padded_part map_codes EVENTS no_frame 0 (STACK * EVENTS) upward d (omega (arith, upward_length))
          (All-reverse (λ f. length (map_codes f) ≡ EVENTS) (down_to frame depth) (down_all frame (λ f. length (map_codes f) ≡ EVENTS) depth (λ j b. map_width j (omega (arith, few)))))
          ∙ ap map_codes (down_to_at frame no_frame depth d h)

      -- the numbers fit where the stack is held so
      stack_holds : StatesFit state_of states k depth (i * STACK) → MapsFit action_of maps k events depth (i * (STACK * EVENTS))
          → StackHeld p k depth (part (i * STACK) STACK states) (part (i * (STACK * EVENTS)) (STACK * EVENTS) maps)
      stack_holds s m = record {
        fits = few;
        frames = down_all frame (FrameOk p k) depth (λ d h. frame_holds d (omega (arith, few)) (s.each d h) (m.each d h));
        states_zeroed = ap (pad 0 STACK) states_front ∙ packed (i * STACK) STACK depth states states_inside few s.behind;
        maps_zeroed = ap (pad 0 (STACK * EVENTS)) (maps_front (λ d h. map_row d (omega (arith, few)) (m.each d h).behind))
            ∙ packed (i * (STACK * EVENTS)) (STACK * EVENTS) (depth * EVENTS) maps maps_inside (omega (arith, few)) m.behind;
      }

      -- and the other way round: its states,
      states_fit : StackHeld p k depth (part (i * STACK) STACK states) (part (i * (STACK * EVENTS)) (STACK * EVENTS) maps) → StatesFit state_of states k depth (i * STACK)
      states_fit h = record {
        each = λ d b. state_fits d (omega (arith, few)) (down_each frame (FrameOk p k) depth d b h.frames);
        behind = unpacked (i * STACK) STACK depth states states_inside few (ap (pad 0 STACK) (sym states_front) ∙ h.states_zeroed);
      }

      -- and its maps.
      maps_fit : StackHeld p k depth (part (i * STACK) STACK states) (part (i * (STACK * EVENTS)) (STACK * EVENTS) maps)
          → MapsFit action_of maps k events depth (i * (STACK * EVENTS))
      maps_fit h = record {
        each = λ d b. record {
          each = entries_fit d (omega (arith, few)) (down_each frame (FrameOk p k) depth d b h.frames);
          behind = row_map d (omega (arith, few)) (map_of_all h.maps_zeroed d b);
        };
        behind = unpacked (i * (STACK * EVENTS)) (STACK * EVENTS) (depth * EVENTS) maps maps_inside (omega (arith, few)) (ap (pad 0 (STACK * EVENTS)) (sym (maps_front (map_of_all h.maps_zeroed))) ∙ h.maps_zeroed);
      }

-- a test of the numbers is a test of the stack
pub stack_told : (state_of action_of states maps : List ℕ) (i depth k events : ℕ) {r : Bool} → Asked states maps i events → Tells r (StackFits state_of action_of states maps i depth k events)
    → (p : Program) → Told state_of action_of events p → Tells r (StackHeld p k depth (part (i * STACK) STACK states) (part (i * (STACK * EVENTS)) (STACK * EVENTS) maps))
stack_told state_of action_of states maps i depth k events asked t p told = form t
    (λ h. stack_holds state_of action_of events p told k states maps i asked depth h.few h.with_states h.with_maps)
    (λ h. record {
      few = h.fits;
      with_states = states_fit state_of action_of events p told k states maps i asked depth h.fits h;
      with_maps = maps_fit state_of action_of events p told k states maps i asked depth h.fits h;
    })
