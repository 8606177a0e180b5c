-- What the rule functions of an empty row leave is what the definitions' act leaves.
use Rattle.std.specs.Prelude.{ℕ, ◌+◌, ◌-◌, ◌*◌, ◌≤◌, ◌<◌, ◌≡◌, refl, false, List, [], ◌∷◌, length, get_or, set, Ok, Err}
use Rattle.std.proofs.Common.{sym, ap, ◌∙◌, subst, arith, le-ltb, lt-ltb, get_or-set_same}
use Rattle.lists.specs.Lists.{at}
use Rattle.answers.specs.declared.Answer.TheVariants.{StackFull}
use Rattle.programs.specs.Sizes.{STATES}
use Rattle.programs.specs.Program.{Program, Entry, Body}
use Rattle.tables.specs.Decode.{actions_of, states_of, no_action, no_state}
use Rattle.soundness.specs.SoundFounded.{sound_founded}
use Rattle.machines.specs.Config.{Frame, Pending, idle, Local}
use Rattle.machines.specs.Locals.{remains, stacked}
use Rattle.machines.specs.Rooms.{set_local}
use Rattle.rules.specs.declared.Rule.TheVariants.{STEP, ACTION, CALL, POP1, POP2}
use Rattle.configs.specs.Encode.{held_code}
use Rattle.configs.specs.declared.Flat.{Flat}
use Rattle.configs.specs.Flat.{room_path}
use Rattle.parts.specs.Parts.{Said, Any, tidied}
use Rattle.engine.specs.Engine.{Changed}
use Rattle.engine.specs.Holding.{Elsewhere, RowHeld, RowBecomes, StackHeld, untouched, touched_place}
use Rattle.remaining.specs.Remaining.{Placing}
use Rattle.remaining.specs.Held.{changed, row_taken, row_there, placing_there, remains_pends}
use Rattle.stacks.specs.Stacks.{Deep, Framed, StackBecomes, Callable, CallAsked as Called, popped, stepped, entered, framed, deep, top_state, stack_held}
use Rattle.pending.specs.Pending.{among, Here, StepAsked, CallAsked, ActionAsked, RaiseAsked, ReturnAsked, StepLeaves, CallLeaves, ActionLeaves, RaiseLeaves, ReturnLeaves}

module _ {k : ℕ} {depths states maps counts parts held : List ℕ} (h : Here k depths states maps counts parts held) where
  -- the lists
  abbrev pub lists : Flat
  lists = among h.others depths states maps counts parts held

  -- THE STACK of the machine
  pub stack_here : StackHeld k depths states maps (h.top ∷ h.below)
  stack_here = subst (StackHeld k depths states maps) h.bare.stack_is (stack_held lists k h.machine h.bare.stands.holds h.bare.stands.sized h.bare.stands.room)

  -- its frames
  pub framed_here : Framed h.program (h.top ∷ h.below)
  framed_here = subst (Framed h.program) h.bare.stack_is (framed h.program _ h.machine.loc h.bare.sound h.bare.stands.ok.loc_ok)

  -- is not empty
  pub deep_here : Deep k depths states maps
  deep_here = deep k depths states maps h.top h.below stack_here

  -- its top state has a row in the tables
  pub state_64 : get_or states (k * 8 + (get_or depths k 0 - 1)) 0 ≤ 64
  state_64 =
      let few : length h.program.states ≤ STATES = h.bare.sound.is_sized.1.1.1.1.1.1.0 in
      rw (top_state k depths states maps h.top h.below stack_here) (omega (arith, framed_here.frames.0.there.1))

  -- ITS ROW has room for one statement
  pub placing_here : (stmts : List ℕ) (a : ℕ) → Said stmts h.program → Placing stmts k counts parts a 0
  placing_here stmts a said =
      placing_there h.program lists k h.machine h.bare.sound h.bare.stands stmts a 0 said
      (omega (arith, (sound_founded h.program h.bare.sound).low_enough a))

  -- A CHANGE of the stack, the row and what is pending
  module _ {Of : Program → Type 0} {change : Program → Frame → List Frame → List Frame} {depths' states' maps' counts' parts' held' : List ℕ}
      (stack : StackBecomes k depths states maps Of change depths' states' maps') (of : Of h.program)
      (r : List ℕ) (row : RowHeld k counts' parts' r) (counts_off : Elsewhere k 1 counts counts') (parts_off : Elsewhere k 33 parts parts')
      (q : Pending) (pends : get_or held' k 0 ≡ held_code q) (held_off : Elsewhere k 1 held held') where
    -- the local part after it
    abbrev after : Local
    after = record {
      kind = h.machine.loc.kind;
      stack = change h.program h.top h.below;
      variables = h.machine.loc.variables;
      msg = h.machine.loc.msg;
      arg = h.machine.loc.arg;
      row = r;
      pending = q;
    }

    -- the stack after it
    stack_after : StackHeld k depths' states' maps' (change h.program h.top h.below)
    stack_after = stack.becomes h.program of h.top h.below framed_here stack_here

    -- the machine with it stands in the room
    pub all_changed : Changed lists k (set_local after h.machine) (among h.others depths' states' maps' counts' parts' held')
    all_changed = changed lists k (set_local after h.machine) (among h.others depths' states' maps' counts' parts' held') h.bare.stands.sized (record {
      ids = untouched;
      kinds = untouched;
      depths = stack.depths_off;
      states = stack.states_off;
      maps = stack.maps_off;
      values = untouched;
      counts = counts_off;
      parts = parts_off;
      held = held_off;
      waiting = untouched;
      pairs = untouched;
      next = refl;
    }) (room_path (ap (λ x. x.this.0) h.bare.stands.holds) (ap (λ x. x.kind.0) h.bare.stands.holds) stack_after.depth stack_after.state_row stack_after.map_row
        (ap (λ x. x.values) h.bare.stands.holds) (row_taken row).0 (row_taken row).1 pends (ap (λ x. x.waiting) h.bare.stands.holds) (ap (λ x. x.pairs) h.bare.stands.holds))

  -- the row as it is
  row_here : RowHeld k counts parts []
  row_here = subst (RowHeld k counts parts) h.bare.row_is (row_there h.program lists k h.machine h.bare.sound h.bare.stands)

  -- a store of 0 for what is pending
  nothing_held : get_or (set held k 0) k 0 ≡ 0
  nothing_held = get_or-set_same held k 0 0 (omega (arith, h.bare.stands.sized.held_32, h.bare.stands.room))

  -- THE STACK CHANGED, and one statement all that is left
  pub enters_meets : {Of : Program → Type 0} {change : Program → Frame → List Frame → List Frame} {stmts depths' states' maps' counts' parts' held' : List ℕ} (a s : ℕ)
      → StackBecomes k depths states maps Of change depths' states' maps' → Of h.program → RowBecomes k counts parts (Said stmts) (λ p r. tidied false p (a ∷ [])) counts' parts'
      → Said stmts h.program → held' ≡ set held k 0 → a ≡ s
      → Changed lists k (set_local (remains h.program (s ∷ []) idle (stacked (change h.program h.top h.below) h.machine.loc)) h.machine)
      (among h.others depths' states' maps' counts' parts' held')
  enters_meets a s stack of row said e q =
      rw (e, ← q) (all_changed stack of _ (row.becomes h.program said [] row_here) row.counts_off row.parts_off idle nothing_held (touched_place k 0 held))

  -- THE STACK CHANGED, the row empty, and what is pending stays
  pub pops_meets : {depths' states' maps' : List ℕ} → StackBecomes k depths states maps Any popped depths' states' maps'
      → Changed lists k (set_local (remains h.program [] h.machine.loc.pending (stacked h.below h.machine.loc)) h.machine) (among h.others depths' states' maps' counts parts held)
  pops_meets stack = all_changed stack tt [] row_here untouched untouched h.machine.loc.pending (ap (λ x. x.held) h.bare.stands.holds) untouched

  -- THE STACK CHANGED, the row empty, and nothing pending
  pub returns_meets : {depths' states' maps' : List ℕ} → StackBecomes k depths states maps Any popped depths' states' maps'
      → Changed lists k (set_local (remains h.program [] idle (stacked h.below h.machine.loc)) h.machine) (among h.others depths' states' maps' counts parts (set held k 0))
  returns_meets stack = all_changed stack tt [] row_here untouched untouched idle nothing_held (touched_place k 0 held)

-- STEP
module _ {stmts kinds entries : List ℕ} {k : ℕ} {depths states counts parts held : List ℕ} where
  -- what the stack is asked
  pub step_deep : StepAsked stmts kinds entries k depths states counts parts held → (maps : List ℕ) × Deep k depths states maps
  step_deep a = (a.maps, deep_here a.here)

  -- what the row is asked
  pub step_placing : (a : StepAsked stmts kinds entries k depths states counts parts held) (e : ℕ) → Placing stmts k counts parts e 0
  step_placing a e = placing_here a.here stmts e a.said

  -- what is left
  pub step_left : (n e : ℕ) (states' counts' parts' held' : List ℕ) → ((exits flags : List ℕ) → e ≡ (at no_state (states_of kinds entries exits flags) n).entry)
      → ((maps : List ℕ) → Deep k depths states maps → StackBecomes k depths states maps Any (stepped n) depths states' maps)
      → RowBecomes k counts parts (Said stmts) (λ p r. tidied false p (e ∷ [])) counts' parts' → held' ≡ set held k 0
      → StepLeaves stmts kinds entries k n depths states counts parts held (Ok STEP) states' counts' parts' held'
  step_left n e states' counts' parts' held' entry stack row gone a w = (
    refl,
    enters_meets a.here e (Entry a.here.program n)
        (stack a.maps (deep_here a.here)) tt row a.said gone
        (entry a.entered.exits a.entered.flags ∙ ap (λ l. (at no_state l n).entry) (sym a.entered.states)),
  )

-- CALL
module _ {says stmts kinds entries flags : List ℕ} {k events : ℕ} {depths states maps counts parts held : List ℕ} where
  module _ (a : CallAsked says stmts kinds entries flags k events depths states maps counts parts held) where
    -- the depth is the stack's
    pub call_depth : get_or depths k 0 ≡ length a.here.machine.loc.stack
    call_depth = ap (λ x. x.depth) a.here.bare.stands.holds

    -- the tables are the program's
    callable : Callable says kinds flags events a.here.program
    callable = record { entries = entries; exits = a.exits; tables = a.tables; counted = a.counted }

    -- what the stack is asked
    pub call_asked : get_or depths k 0 < 8 → Called says kinds flags k events depths states maps
    call_asked left = record {
      deep = deep_here a.here;
      left = left;
      state = state_64 a.here;
      few = omega (arith, a.here.bare.sound.is_sized.1.0, a.counted);
      program = a.here.program;
      callable = callable;
    }

    -- what the row is asked
    pub call_placing : (e : ℕ) → Placing stmts k counts parts e 0
    call_placing e = placing_here a.here stmts e a.said

  -- what is left of a stack that is full
  pub call_full : (n : ℕ) → 8 ≤ get_or depths k 0 → CallLeaves says stmts kinds entries flags k n events depths states maps counts parts held (Err StackFull) depths states maps counts parts held
  call_full n full a w = rw (le-ltb (length a.here.machine.loc.stack) 8 (rw (← call_depth a) full)) (refl, refl)

  -- what is left
  pub call_left : (n e : ℕ) (depths' states' maps' counts' parts' held' : List ℕ) → get_or depths k 0 < 8
      → ((exits flags : List ℕ) → e ≡ (at no_state (states_of kinds entries exits flags) n).entry)
      → StackBecomes k depths states maps (Callable says kinds flags events) (entered n) depths' states' maps'
      → RowBecomes k counts parts (Said stmts) (λ p r. tidied false p (e ∷ [])) counts' parts' → held' ≡ set held k 0
      → CallLeaves says stmts kinds entries flags k n events depths states maps counts parts held (Ok CALL) depths' states' maps' counts' parts' held'
  call_left n e depths' states' maps' counts' parts' held' few entry stack row gone a w =
      rw (lt-ltb (length a.here.machine.loc.stack) 8 (rw (← call_depth a) few)) (
        refl,
        enters_meets a.here e (Entry a.here.program n) stack (callable a) row a.said gone
            (entry a.exits flags ∙ ap (λ l. (at no_state l n).entry) (sym a.tables.states)),
      )

-- ACTION
module _ {stmts owners bodies : List ℕ} {k : ℕ} {counts parts held : List ℕ} where
  -- what the row is asked
  pub action_placing : (a : ActionAsked stmts owners bodies k counts parts held) (e : ℕ) → Placing stmts k counts parts e 0
  action_placing a e = placing_here a.here stmts e a.said

  -- what is left
  pub action_left : (x e : ℕ) (counts' parts' held' : List ℕ) → e ≡ (at no_action (actions_of owners bodies) x).body
      → RowBecomes k counts parts (Said stmts) (λ p r. tidied false p (e ∷ [])) counts' parts' → held' ≡ set held k 0
      → ActionLeaves stmts owners bodies k x counts parts held (Ok ACTION) counts' parts' held'
  action_left x e counts' parts' held' body row gone a w = (
    refl,
    rw gone (remains_pends a.here.program (lists a.here) k a.here.machine a.here.bare.sound a.here.bare.stands
        (λ p r. e ∷ []) false idle refl row a.said (Body a.here.program x ∷ [])
        (ap (λ (y : ℕ). y ∷ []) (body ∙ ap (λ l. (at no_action l x).body) (sym a.actions)))),
  )

-- POP1
module _ {k : ℕ} {depths states maps : List ℕ} where
  -- what the stack is asked
  pub raise_deep : RaiseAsked k depths states maps → Deep k depths states maps
  raise_deep a = deep_here a.here

  -- what is left
  pub raise_left : (depths' states' maps' : List ℕ) → StackBecomes k depths states maps Any popped depths' states' maps' → RaiseLeaves k depths states maps (Ok POP1) depths' states' maps'
  raise_left depths' states' maps' stack a w = rw (← a.pends) (refl, pops_meets a.here stack)

  -- POP2
  module _ {held : List ℕ} where
    -- what the stack is asked
    pub return_deep : ReturnAsked k depths states maps held → Deep k depths states maps
    return_deep a = deep_here a.here

    -- what is left
    pub return_left : (depths' states' maps' : List ℕ) → StackBecomes k depths states maps Any popped depths' states' maps'
        → ReturnLeaves k depths states maps held (Ok POP2) depths' states' maps' (set held k 0)
    return_left depths' states' maps' stack a w = (refl, returns_meets a.here stack)
