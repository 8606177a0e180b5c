-- What the stores of src/lib.rt leave of a room's call stack: the frame on top popped, in another state, or with a frame called from it.
use Rattle.std.specs.Prelude.{ℕ, ◌+◌, ◌-◌, ◌*◌, ◌<◌, ◌≡◌, length, get_or, set, replicate}
use Rattle.std.proofs.Common.{ap, sym, ◌∙◌, arith, length-set, get_or-set_same}
use mathlib.Core.List.{List, [], ◌∷◌, ◌++◌, map, reverse, reverse-cons}
use Rattle.std.proofs.lemmas.List.{length-map, length-replicate, length-reverse}
use Rattle.lists.specs.Lists.{All, flat}
use Rattle.rows.specs.Pad.{pad, pad_snoc}
use Rattle.rows.specs.Part.{part, put, put_length, row_set}
use Rattle.programs.specs.Program.{Program}
use Rattle.machines.specs.Config.{Reply, Frame}
use Rattle.machines.specs.Maps.{call_map}
use Rattle.configs.specs.Encode.{map_codes}
use Rattle.lists.specs.Keep.{All-reverse, flat_snoc, flat_length}
use Rattle.maps.specs.Maps.{Tables, map_at, called, called_length}
use Rattle.engine.specs.Holding.{StackHeld, untouched, touched, touched_place, touched_run}
use Rattle.parts.specs.Parts.{Any}
use Rattle.rows.specs.Runs.{part_put_inside, pad_last, pad_less, pad_run, pad_less_run}
use Rattle.stacks.specs.Stacks.{Deep, Framed, StackBecomes, Callable, CallAsked, popped, stepped, entered, all_narrow, top_is, top_state, top_map, shallow}

-- the states of a stack, the first frame first
abbrev states_of : List Frame → List ℕ
states_of γ = reverse (map (λ g. g.state) γ)

-- their maps
abbrev maps_of : List Frame → List ℕ
maps_of γ = flat map_codes (reverse γ)

-- the states with one more on top
states_more : (f : Frame) (γ : List Frame) → states_of (f ∷ γ) ≡ states_of γ ++ f.state ∷ []
states_more f γ = reverse-cons f.state (map (λ g. g.state) γ)

-- the maps with one more on top
maps_more : (f : Frame) (γ : List Frame) → maps_of (f ∷ γ) ≡ maps_of γ ++ map_codes f
maps_more f γ = ap (flat map_codes) (reverse-cons f γ) ∙ flat_snoc map_codes (reverse γ) f

-- a state for each frame
states_length : (γ : List Frame) → length (states_of γ) ≡ length γ
states_length γ = length-reverse (map (λ g. g.state) γ) ∙ length-map γ (λ g. g.state)

-- 64 places for each frame
maps_length : (γ : List Frame) → All (λ f. length (map_codes f) ≡ 64) γ → length (maps_of γ) ≡ length γ * 64
maps_length γ h = flat_length map_codes 64 (reverse γ) (All-reverse _ γ h) ∙ ap (λ (n : ℕ). n * 64) (length-reverse γ)

-- THE CHANGES, of a stack that is f on γ
module _ (k : ℕ) (depths states maps : List ℕ) (p : Program) (f : Frame) (γ : List Frame) (fr : Framed p (f ∷ γ)) (h : StackHeld k depths states maps (f ∷ γ)) where
  -- the maps below have their places
  below : length (maps_of γ) ≡ length γ * 64
  below = maps_length γ (all_narrow p (f ∷ γ) fr).1

  -- and so has the top one
  own : length (map_codes f) ≡ 64
  own = (all_narrow p (f ∷ γ) fr).0

  -- a store of the depth
  depth_set : (d : ℕ) → get_or (set depths k d) k 0 ≡ d
  depth_set d = get_or-set_same depths k d 0 (omega (arith, h.rooms, h.room))

  -- a store of the top state
  state_set : (v : ℕ) → part (k * 8) 8 (set states (k * 8 + (get_or depths k 0 - 1)) v) ≡ set (pad 0 8 (states_of γ ++ f.state ∷ [])) (length (states_of γ)) v
  state_set v =
      let s = shallow k depths states maps f γ h in
      let e : get_or depths k 0 - 1 ≡ length (states_of γ) = top_is k depths states maps f γ h ∙ sym (states_length γ) in
      row_set 0 8 k states (omega (arith, h.states_256, h.room)) (get_or depths k 0 - 1) v (omega (arith, states_length γ))
      ∙ ap (λ (l : List ℕ). set l (get_or depths k 0 - 1) v) (h.state_row ∙ ap (pad 0 8) (states_more f γ))
      ∙ ap (λ (d : ℕ). set (pad 0 8 (states_of γ ++ f.state ∷ [])) d v) e

  -- POPPED
  pub pop_held : StackHeld k (set depths k (get_or depths k 0 - 1)) (set states (k * 8 + (get_or depths k 0 - 1)) 0) (put (k * 512 + (get_or depths k 0 - 1) * 64) (replicate 64 0) maps) γ
  pop_held =
      let s = shallow k depths states maps f γ h in
      let zeros : length (replicate {A = ℕ} 64 0) ≡ 64 = length-replicate {A = ℕ} 64 0 in
      let top : get_or depths k 0 - 1 ≡ length γ = top_is k depths states maps f γ h in
      let e : (get_or depths k 0 - 1) * 64 ≡ length (maps_of γ) = omega (arith, below) in
      record {
        rooms = length-set depths k (get_or depths k 0 - 1) ∙ h.rooms;
        states_256 = length-set states (k * 8 + (get_or depths k 0 - 1)) 0 ∙ h.states_256;
        maps_16384 = put_length (k * 512 + (get_or depths k 0 - 1) * 64) (replicate 64 0) maps (omega (arith, h.maps_16384, h.room)) ∙ h.maps_16384;
        room = h.room;
        depth = depth_set (get_or depths k 0 - 1) ∙ top;
        state_row = state_set 0 ∙ pad_less 0 8 (states_of γ) f.state (omega (arith, states_length γ));
        map_row = part_put_inside 0 (k * 512) 512 ((get_or depths k 0 - 1) * 64) (replicate 64 0) maps (omega arith) (omega (arith, h.maps_16384, h.room))
            ∙ ap (put ((get_or depths k 0 - 1) * 64) (replicate 64 0)) (h.map_row ∙ ap (pad 0 512) (maps_more f γ))
            ∙ ap (λ (d : ℕ). put d (replicate 64 0) (pad 0 512 (maps_of γ ++ map_codes f))) e
            ∙ ap (λ (n : ℕ). put (length (maps_of γ)) (replicate n 0) (pad 0 512 (maps_of γ ++ map_codes f))) (sym own)
            ∙ pad_less_run 0 512 (maps_of γ) (map_codes f) (omega (arith, own, below));
      }

  -- IN STATE n
  pub step_held : (n : ℕ) → StackHeld k depths (set states (k * 8 + (get_or depths k 0 - 1)) n) maps (record { state = n; map = f.map } ∷ γ)
  step_held n =
      let s = shallow k depths states maps f γ h in
      record {
        rooms = h.rooms;
        states_256 = length-set states (k * 8 + (get_or depths k 0 - 1)) n ∙ h.states_256;
        maps_16384 = h.maps_16384;
        room = h.room;
        depth = h.depth;
        state_row = state_set n ∙ pad_last 0 8 (states_of γ) f.state n (omega (arith, states_length γ))
            ∙ ap (pad 0 8) (sym (states_more (record { state = n; map = f.map }) γ));
        map_row = h.map_row ∙ ap (pad 0 512) (maps_more f γ ∙ sym (maps_more (record { state = n; map = f.map }) γ));
      }

  -- CALLED, in state n: with the map that crates/maps stores behind the caller's
  module _ (n : ℕ) (maps' : List ℕ) (few : length (f ∷ γ) < 8)
      (q : maps' ≡ put (k * 512 + (get_or depths k 0 - 1) * 64 + 64) (called p (get_or states (k * 8 + (get_or depths k 0 - 1)) 0) (map_at p (k * 512 + (get_or depths k 0 - 1) * 64) maps)) maps) where
    -- the callee
    abbrev callee : Frame
    callee = record { state = n; map = call_map p f.state f.map }

    -- the map that is stored is the callee's
    callee_codes : called p (get_or states (k * 8 + (get_or depths k 0 - 1)) 0) (map_at p (k * 512 + (get_or depths k 0 - 1) * 64) maps) ≡ map_codes callee
    callee_codes =
        ap (λ (s : ℕ). called p s (map_at p (k * 512 + (get_or depths k 0 - 1) * 64) maps)) (top_state k depths states maps f γ h)
        ∙ ap (λ (α : List Reply). called p f.state α) (top_map k depths states maps f γ h p fr)

    -- in 64 places
    callee_length : length (map_codes callee) ≡ 64
    callee_length =
        ap length (sym callee_codes)
        ∙ called_length p (get_or states (k * 8 + (get_or depths k 0 - 1)) 0) (k * 512 + (get_or depths k 0 - 1) * 64) maps fr.sound.is_sized.1.0 (omega (arith, h.maps_16384, h.room, h.depth))

    -- behind the caller's
    callee_stored : maps' ≡ put (k * 512 + length (f ∷ γ) * 64) (map_codes callee) maps
    callee_stored =
        let c : k * 512 + (get_or depths k 0 - 1) * 64 + 64 ≡ k * 512 + length (f ∷ γ) * 64 = omega (arith, h.depth) in
        q ∙ ap (λ (b : ℕ). put b (called p (get_or states (k * 8 + (get_or depths k 0 - 1)) 0) (map_at p (k * 512 + (get_or depths k 0 - 1) * 64) maps)) maps) c
        ∙ ap (λ (r : List ℕ). put (k * 512 + length (f ∷ γ) * 64) r maps) callee_codes

    -- the stack with the callee on top
    pub call_held : StackHeld k (set depths k (get_or depths k 0 + 1)) (set states (k * 8 + get_or depths k 0) n) maps' (callee ∷ f ∷ γ)
    call_held =
        let all : length (maps_of (f ∷ γ)) ≡ length (f ∷ γ) * 64 = maps_length (f ∷ γ) (all_narrow p (f ∷ γ) fr) in
        let e : get_or depths k 0 ≡ length (states_of (f ∷ γ)) = h.depth ∙ sym (states_length (f ∷ γ)) in
        record {
          rooms = length-set depths k (get_or depths k 0 + 1) ∙ h.rooms;
          states_256 = length-set states (k * 8 + get_or depths k 0) n ∙ h.states_256;
          maps_16384 = ap length callee_stored ∙ put_length (k * 512 + length (f ∷ γ) * 64) (map_codes callee) maps (omega (arith, callee_length, h.maps_16384, h.room)) ∙ h.maps_16384;
          room = h.room;
          depth = depth_set (get_or depths k 0 + 1) ∙ omega (arith, h.depth);
          state_row = row_set 0 8 k states (omega (arith, h.states_256, h.room)) (get_or depths k 0) n (omega (arith, h.depth))
              ∙ ap (λ (l : List ℕ). set l (get_or depths k 0) n) h.state_row
              ∙ ap (λ (d : ℕ). set (pad 0 8 (states_of (f ∷ γ))) d n) e
              ∙ pad_snoc 0 8 (states_of (f ∷ γ)) n (omega (arith, states_length (f ∷ γ)))
              ∙ ap (pad 0 8) (sym (states_more callee (f ∷ γ)));
          map_row = ap (part (k * 512) 512) callee_stored
              ∙ part_put_inside 0 (k * 512) 512 (length (f ∷ γ) * 64) (map_codes callee) maps (omega (arith, callee_length)) (omega (arith, h.maps_16384, h.room))
              ∙ ap (put (length (f ∷ γ) * 64) (map_codes callee)) h.map_row
              ∙ ap (λ (d : ℕ). put d (map_codes callee) (pad 0 512 (maps_of (f ∷ γ)))) (sym all)
              ∙ pad_run 0 512 (maps_of (f ∷ γ)) (map_codes callee) (omega (arith, callee_length, all))
              ∙ ap (pad 0 512) (sym (maps_more callee (f ∷ γ)));
        }

-- WHAT THE FUNCTIONS LEAVE
module _ {k : ℕ} {depths states maps : List ℕ} (a : Deep k depths states maps) where
  -- pop_frame
  pub pop_leaves : {maps' : List ℕ} → maps' ≡ put (k * 512 + (get_or depths k 0 - 1) * 64) (replicate 64 0) maps
      → StackBecomes k depths states maps Any popped (set depths k (get_or depths k 0 - 1)) (set states (k * 8 + (get_or depths k 0 - 1)) 0) maps'
  pop_leaves q = rw q (
      let zeros : length (replicate {A = ℕ} 64 0) ≡ 64 = length-replicate {A = ℕ} 64 0 in
      record {
        depths_off = touched_place k (get_or depths k 0 - 1) depths;
        states_off = touched k 8 (get_or depths k 0 - 1) 0 states (omega arith);
        maps_off = touched_run k 512 ((get_or depths k 0 - 1) * 64) (replicate 64 0) maps (omega arith) (omega arith);
        becomes = λ p _ f γ fr h. pop_held k depths states maps p f γ fr h;
      })

  -- step_frame
  pub step_leaves : (n : ℕ) → StackBecomes k depths states maps Any (stepped n) depths (set states (k * 8 + (get_or depths k 0 - 1)) n) maps
  step_leaves n = record {
    depths_off = untouched;
    states_off = touched k 8 (get_or depths k 0 - 1) n states (omega arith);
    maps_off = untouched;
    becomes = λ p _ f γ fr h. step_held k depths states maps p f γ fr h n;
  }

-- call_frame
pub call_leaves : {says kinds flags : List ℕ} {k events : ℕ} {depths states maps : List ℕ} (a : CallAsked says kinds flags k events depths states maps) (n : ℕ) {maps' : List ℕ}
    → ((p : Program) (entries exits : List ℕ) → Tables p says kinds entries exits flags → length p.events ≡ events
    → maps' ≡ put (k * 512 + (get_or depths k 0 - 1) * 64 + 64) (called p (get_or states (k * 8 + (get_or depths k 0 - 1)) 0) (map_at p (k * 512 + (get_or depths k 0 - 1) * 64) maps)) maps)
    → StackBecomes k depths states maps (Callable says kinds flags events) (entered n) (set depths k (get_or depths k 0 + 1)) (set states (k * 8 + get_or depths k 0) n) maps'
call_leaves {k = k} {depths = depths} {states = states} {maps = maps} a n {maps'} q =
    let d = a.deep in
    let t = a.callable in
    let l : length (called a.program (get_or states (k * 8 + (get_or depths k 0 - 1)) 0) (map_at a.program (k * 512 + (get_or depths k 0 - 1) * 64) maps)) ≡ 64 =
    called_length a.program (get_or states (k * 8 + (get_or depths k 0 - 1)) 0) (k * 512 + (get_or depths k 0 - 1) * 64) maps (omega (arith, a.few, t.counted)) (omega (arith, a.left)) in
    let e : k * 512 + (get_or depths k 0 - 1) * 64 + 64 ≡ k * 512 + ((get_or depths k 0 - 1) * 64 + 64) = omega arith in
    let o = q a.program t.entries t.exits t.tables t.counted
    ∙ ap (λ (b : ℕ). put b (called a.program (get_or states (k * 8 + (get_or depths k 0 - 1)) 0) (map_at a.program (k * 512 + (get_or depths k 0 - 1) * 64) maps)) maps) e in
    record {
      depths_off = touched_place k (get_or depths k 0 + 1) depths;
      states_off = touched k 8 (get_or depths k 0) n states a.left;
      maps_off = rw o (touched_run k 512 ((get_or depths k 0 - 1) * 64 + 64) _ maps (omega (arith, l, a.left)) (omega arith));
      becomes = λ p c f γ fr h. call_held k depths states maps p f γ fr h n maps' (omega (arith, h.depth, a.left)) (q p c.entries c.exits c.tables c.counted);
    }
