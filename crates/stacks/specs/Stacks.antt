-- A room's call stack in the flat lists: what the functions on it are asked and leave, how its top frame reads, and that it is the stack of the machine
-- that stands in the room. The first frame is the first: the top frame's state stands at k * 8 + (depth - 1), and its map in the 64 places from
-- k * 512 + (depth - 1) * 64 on.
use Rattle.std.specs.Prelude.{ℕ, ◌+◌, ◌-◌, ◌*◌, ◌≤◌, ◌<◌, ◌≡◌, length, take, get_or}
use Rattle.std.proofs.Common.{ap, sym, ◌∙◌, arith}
use mathlib.Core.List.{List, [], ◌∷◌, ◌++◌, map, reverse, reverse-cons}
use Rattle.std.proofs.lemmas.List.{length-map, length-reverse}
use Rattle.std.proofs.Math.Seq.{get_or-append_seam}
use Rattle.lists.specs.Lists.{All, flat}
use Rattle.lists.specs.Facts.{All-map}
use Rattle.rows.specs.Pad.{pad, pad_length, pad_get}
use Rattle.rows.specs.Part.{part, part_length, part_get}
use Rattle.programs.specs.Sizes.{EVENTS}
use Rattle.programs.specs.Program.{Program}
use Rattle.soundness.specs.Sound.{Sound}
use Rattle.machines.specs.Config.{Frame, Local, Machine}
use Rattle.machines.specs.Maps.{call_map}
use Rattle.acceptance.specs.Accepted.{FrameOk, LocalOk}
use Rattle.configs.specs.Decode.{reply_of, frame_at}
use Rattle.configs.specs.Encode.{map_codes, reply_code, taken}
use Rattle.configs.proofs.RoundTrip.{stack_back}
use Rattle.configs.specs.declared.Flat.{Flat}
use Rattle.configs.specs.Flat.{Sized, room_at}
use Rattle.configs.specs.declared.Room.{Room}
use Rattle.maps.specs.Maps.{Tables, map_at}
use Rattle.engine.specs.Holding.{Elsewhere, StackHeld}
use Rattle.rows.specs.Runs.{pad_fits, part_part}

-- WHAT IS ASKED
-- the lists have their places, and room k's stack has a frame
pub record Deep (k : ℕ) (depths states maps : List ℕ) : Type 0 where
  pub rooms : length depths ≡ 32
  pub states_256 : length states ≡ 256
  pub maps_16384 : length maps ≡ 16384
  pub room : k < 32
  pub some : 1 ≤ get_or depths k 0
  pub fits : get_or depths k 0 ≤ 8

-- the frames are a sound program's, of one kind
pub record Framed (p : Program) (γ : List Frame) : Type 0 where
  pub sound : Sound p
  pub kind : ℕ
  pub frames : All (FrameOk p kind) γ

-- the tables are the program's, and so is the number of its events
pub record Callable (says kinds flags : List ℕ) (events : ℕ) (p : Program) : Type 0 where
  pub entries : List ℕ
  pub exits : List ℕ
  pub tables : Tables p says kinds entries exits flags
  pub counted : length p.events ≡ events

-- for a call: there is a place for one frame more, the state on top has a row in the tables, and the tables are some program's
pub record CallAsked (says kinds flags : List ℕ) (k events : ℕ) (depths states maps : List ℕ) : Type 0 where
  pub deep : Deep k depths states maps
  pub left : get_or depths k 0 < 8
  pub state : get_or states (k * 8 + (get_or depths k 0 - 1)) 0 ≤ 64
  pub few : events ≤ 64
  pub program : Program
  pub callable : Callable says kinds flags events program

-- WHAT IS LEFT: off room k nothing changes; and for each program of which Of holds the stack, which was f on γ, is what `change` says
pub record StackBecomes (k : ℕ) (depths states maps : List ℕ) (Of : Program → Type 0) (change : Program → Frame → List Frame → List Frame) (depths' states' maps' : List ℕ) : Type 0 where
  pub depths_off : Elsewhere k 1 depths depths'
  pub states_off : Elsewhere k 8 states states'
  pub maps_off : Elsewhere k 512 maps maps'
  pub becomes : (p : Program) → Of p → (f : Frame) (γ : List Frame) → Framed p (f ∷ γ) → StackHeld k depths states maps (f ∷ γ)
      → StackHeld k depths' states' maps' (change p f γ)

-- the top frame popped
abbrev pub popped : Program → Frame → List Frame → List Frame
popped p f γ = γ

-- the top frame in state n
abbrev pub stepped : ℕ → Program → Frame → List Frame → List Frame
stepped n p f γ = record { state = n; map = f.map } ∷ γ

-- a frame in state n called from the top frame
abbrev pub entered : ℕ → Program → Frame → List Frame → List Frame
entered n p f γ = record { state = n; map = call_map p f.state f.map } ∷ f ∷ γ

-- THE STACK IN ITS PLACES
-- a program's map takes 64 places
pub narrow : (p : Program) (κ : ℕ) → Sound p → (f : Frame) → FrameOk p κ f → length (map_codes f) ≡ 64
narrow p κ sound f ok =
    let few : length p.events ≤ EVENTS = sound.is_sized.1.0 in
    pad_length 0 EVENTS (map reply_code f.map) (omega (arith, length-map f.map reply_code, ok.each_event))

-- all of them
pub all_narrow : (p : Program) (γ : List Frame) → Framed p γ → All (λ f. length (map_codes f) ≡ 64) γ
all_narrow p γ fr = All-map _ _ γ (narrow p fr.kind fr.sound) fr.frames

module _ (k : ℕ) (depths states maps : List ℕ) (f : Frame) (γ : List Frame) (h : StackHeld k depths states maps (f ∷ γ)) where
  -- the top one is number length γ
  pub top_is : get_or depths k 0 - 1 ≡ length γ
  top_is = omega (arith, h.depth)

  -- a stack has no more than 8 frames
  pub shallow : length γ < 8
  shallow =
      let l : length (part (k * 8) 8 states) ≡ 8 = part_length (k * 8) 8 states (omega (arith, h.states_256, h.room)) in
      omega (
        arith,
        pad_fits 0 8 (reverse (map (λ g. g.state) (f ∷ γ))) (ap length (sym h.state_row) ∙ l),
        length-reverse (map (λ g. g.state) (f ∷ γ)),
        length-map γ (λ g. g.state),
      )

  -- so it is as asked
  pub deep : Deep k depths states maps
  deep = record {
    rooms = h.rooms;
    states_256 = h.states_256;
    maps_16384 = h.maps_16384;
    room = h.room;
    some = omega (arith, h.depth);
    fits = omega (arith, h.depth, shallow);
  }

  -- THE TOP STATE
  pub top_state : get_or states (k * 8 + (get_or depths k 0 - 1)) 0 ≡ f.state
  top_state =
      let s : length (reverse (map (λ g. g.state) γ)) ≡ length γ = length-reverse (map (λ g. g.state) γ) ∙ length-map γ (λ g. g.state) in
      ap (λ (d : ℕ). get_or states (k * 8 + d) 0) top_is ∙ sym (part_get (k * 8) 8 states (length γ) 0 shallow)
      ∙ ap (λ (l : List ℕ). get_or l (length γ) 0) h.state_row ∙ pad_get 0 8 (reverse (map (λ g. g.state) (f ∷ γ))) (length γ)
      ∙ ap (λ (l : List ℕ). get_or l (length γ) 0) (reverse-cons f.state (map (λ g. g.state) γ))
      ∙ ap (λ (d : ℕ). get_or (reverse (map (λ g. g.state) γ) ++ f.state ∷ []) d 0) (sym s)
      ∙ get_or-append_seam (reverse (map (λ g. g.state) γ)) f.state [] 0

  -- THE TOP MAP
  pub top_map : (p : Program) → Framed p (f ∷ γ) → map_at p (k * 512 + (get_or depths k 0 - 1) * 64) maps ≡ f.map
  top_map p fr =
      let s = shallow in
      let back : frame_at p (pad 0 8 (reverse (map (λ g. g.state) (f ∷ γ)))) (pad 0 512 (flat map_codes (reverse (f ∷ γ)))) (length γ) ≡ f =
      ap (λ (l : List Frame). get_or l 0 f) (stack_back p fr.sound fr.kind (f ∷ γ) fr.frames) in
      let inner : part (length γ * 64) 64 (part (k * 512) 512 maps) ≡ part (k * 512 + length γ * 64) 64 maps =
      part_part 0 (k * 512) 512 (length γ * 64) 64 maps (omega arith) (omega (arith, h.maps_16384, h.room)) in
      ap (λ (d : ℕ). map_at p (k * 512 + d * 64) maps) top_is ∙ ap (λ (l : List ℕ). map reply_of (take (length p.events) l)) (sym inner)
      ∙ ap (λ (l : List ℕ). map reply_of (take (length p.events) (part (length γ * 64) 64 l))) h.map_row ∙ ap (λ (g : Frame). g.map) back

-- an accepted local part's frames
pub framed : (p : Program) (next : ℕ) (l : Local) → Sound p → LocalOk p next l → Framed p l.stack
framed p next l sound ok = record { sound = sound; kind = l.kind; frames = ok.frames }

-- THE STACK OF A MACHINE that stands in a room
pub stack_held : (f : Flat) (k : ℕ) (m : Machine) → room_at f k ≡ taken m → Sized f → k < 32 → StackHeld k f.depths f.states f.maps m.loc.stack
stack_held f k m e s r = record {
  rooms = s.depths_32;
  states_256 = s.states_256;
  maps_16384 = s.maps_16384;
  room = r;
  depth = ap (λ (x : Room). x.depth) e;
  state_row = ap (λ (x : Room). x.states) e;
  map_row = ap (λ (x : Room). x.maps) e;
}
