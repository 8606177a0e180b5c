-- A machine with an empty row and something pending: what is asked of it and left, by the tables of its program; which rule is its next; and that the rule's
-- function leaves what the definitions' act does.
use Rattle.std.specs.Prelude.{ℕ, ◌+◌, ◌-◌, ◌*◌, ◌/◌, ◌≤◌, ◌≡◌, List, length, get_or}
use Rattle.std.proofs.Common.{sym, ap, ◌∙◌, subst, arith, ne_eqb}
use Rattle.std.proofs.Math.Logic.{dite}
use Rattle.std.proofs.Math.Decide.{ℕ_discrete}
use Rattle.lists.specs.Lists.{There}
use Rattle.programs.specs.Program.{Program}
use Rattle.machines.specs.Config.{Reply, Pending, idle, raising, returning}
use Rattle.rules.specs.Act.{pends}
use Rattle.acceptance.specs.Accepted.{PendingOk}
use Rattle.tables.specs.Decode.{count, events_of, actions_of}
use Rattle.tables.specs.Tables.{events_length}
use Rattle.codes.specs.Pairs.{pair_event, pair_value}
use Rattle.configs.specs.Decode.{pending_of}
use Rattle.configs.proofs.RoundTrip.{pending_back}
use Rattle.maps.specs.Maps.{Moves, Tables, Asked, map_at}
use Rattle.parts.specs.Parts.{Said}
use Rattle.engine.specs.Outcome.{Outcome}
use Rattle.stacks.specs.Stacks.{Deep, top_state, top_map}
use Rattle.turns.specs.declared.Turn.{Turn}
use Rattle.turns.specs.declared.Turn.TheVariants.{Step as step_to, Call as call_to, Act as do_act, Pop as pop_it}
use Rattle.turns.specs.Turns.{turn_of, turn_act, pends_turn}
use Rattle.pending.specs.Pending.{Here, Left, StepAsked, CallAsked, ActionAsked, RaiseAsked, ReturnAsked, StepLeaves, CallLeaves, ActionLeaves, RaiseLeaves, ReturnLeaves}
use Rattle.pending.specs.Meets.{stack_here, framed_here, deep_here, state_64}

-- THE TABLES: all that an empty row is asked about
pub record Told (p : Program) (says stmts kinds entries flags owners bodies types : List ℕ) : Type 0 where
  pub said : Said stmts p
  pub exits : List ℕ
  pub tables : Tables p says kinds entries exits flags
  pub actions : p.actions ≡ actions_of owners bodies
  pub events : p.events ≡ events_of types

-- WHAT IS ASKED: something is pending
pub record PendAsked (says stmts kinds entries flags owners bodies types : List ℕ) (k : ℕ) (depths states maps counts parts held : List ℕ) : Type 0 where
  pub here : Here k depths states maps counts parts held
  pub told : Told here.program says stmts kinds entries flags owners bodies types
  pub something : here.machine.loc.pending ≡ idle → ⊥

-- WHAT IS LEFT
abbrev pub PendLeaves : List ℕ → List ℕ → List ℕ → List ℕ → List ℕ → List ℕ → List ℕ → List ℕ → ℕ → List ℕ → List ℕ → List ℕ → List ℕ → List ℕ → List ℕ → Outcome
    → List ℕ → List ℕ → List ℕ → List ℕ → List ℕ → List ℕ → Type 0
PendLeaves says stmts kinds entries flags owners bodies types k depths states maps counts parts held r depths' states' maps' counts' parts' held' =
    (a : PendAsked says stmts kinds entries flags owners bodies types k depths states maps counts parts held) (w : ℕ)
    → Left a.here
    (pends a.here.program a.here.machine.this a.here.machine.loc w a.here.top.state a.here.top.map a.here.below a.here.machine.loc.pending) r
    depths' states' maps' counts' parts' held'

-- WHAT IS PENDING, by its number
module _ (q : Pending) (x : ℕ) (is : pending_of x ≡ q) where
  -- 1 is a return
  number_return : x ≡ 1 → q ≡ returning
  number_return e = sym is ∙ rw e

  -- another that is not nothing is a raise
  number_raise : (x ≡ 1 → ⊥) → (q ≡ idle → ⊥) → q ≡ raising (pair_event x) (pair_value x)
  number_raise n i = dite (ℕ_discrete x 0)
      (λ (z : x ≡ 0). absurd (i (sym is ∙ rw z)))
      (λ (z : x ≡ 0 → ⊥). sym is ∙ rw (ne_eqb x 0 z, ne_eqb x 1 n))

module _ {says stmts kinds entries flags owners bodies types : List ℕ} {k : ℕ} {depths states maps counts parts held : List ℕ}
    (a : PendAsked says stmts kinds entries flags owners bodies types k depths states maps counts parts held) where
  -- its stack has a frame
  pub pend_deep : Deep k depths states maps
  pend_deep = deep_here a.here

  -- the number of what is pending
  pending_is : pending_of (get_or held k 0) ≡ a.here.machine.loc.pending
  pending_is =
      ap (λ r. pending_of r.held) a.here.bare.stands.holds
      ∙ pending_back a.here.program a.here.others.next a.here.bare.sound a.here.bare.stands.spent a.here.machine.loc.pending a.here.bare.stands.ok.loc_ok.pending_ok

  -- a return
  pub return_here : get_or held k 0 ≡ 1 → a.here.machine.loc.pending ≡ returning
  return_here e = number_return a.here.machine.loc.pending (get_or held k 0) pending_is e

  module _ (n : get_or held k 0 ≡ 1 → ⊥) where
    -- or a raise
    pub raise_here : a.here.machine.loc.pending ≡ raising (pair_event (get_or held k 0)) (pair_value (get_or held k 0))
    raise_here = number_raise a.here.machine.loc.pending (get_or held k 0) pending_is n a.something

    -- of an event that is there
    pub event_here : There (length a.here.program.events) (pair_event (get_or held k 0))
    event_here = (subst (PendingOk a.here.program a.here.others.next) raise_here a.here.bare.stands.ok.loc_ok.pending_ok).0

    -- what the maps are asked
    pub asked_here : Asked (k * 512 + (get_or depths k 0 - 1) * 64) (get_or states (k * 8 + (get_or depths k 0 - 1)) 0) (get_or held k 0 / 1099511627776)
    asked_here =
        let d = deep_here a.here in
        record {
          inside = omega (arith, d.fits, d.room);
          state = state_64 a.here;
          from_1 = event_here.0;
          event = omega (arith, event_here.1, a.here.bare.sound.is_sized.1.0);
        }

    -- THE ACT is the turn's
    pub act_here : (t : Turn) → ((p : Program) → Moves p says → get_or held k 0 / 1099511627776 ≤ length p.events
        → t ≡ turn_of p (get_or states (k * 8 + (get_or depths k 0 - 1)) 0) (map_at p (k * 512 + (get_or depths k 0 - 1) * 64) maps) (get_or held k 0 / 1099511627776))
        → (w : ℕ)
        → pends a.here.program a.here.machine.this a.here.machine.loc w a.here.top.state a.here.top.map a.here.below a.here.machine.loc.pending
        ≡ turn_act a.here.program a.here.machine.this a.here.machine.loc w a.here.top.state a.here.top.map a.here.below
        (pair_event (get_or held k 0)) (pair_value (get_or held k 0)) t
    act_here t is w =
        let h = a.here in
        let s = stack_here h in
        let e : t ≡ turn_of h.program h.top.state h.top.map (get_or held k 0 / 1099511627776) =
        is h.program a.told.tables.lines event_here.1
        ∙ ap (λ (n : ℕ). turn_of h.program n (map_at h.program (k * 512 + (get_or depths k 0 - 1) * 64) maps) (get_or held k 0 / 1099511627776)) (top_state k depths states maps h.top h.below s)
        ∙ ap (λ (α : List Reply). turn_of h.program h.top.state α (get_or held k 0 / 1099511627776))
        (top_map k depths states maps h.top h.below s h.program (framed_here h)) in
        ap (λ (q : Pending). pends h.program h.machine.this h.machine.loc w h.top.state h.top.map h.below q) raise_here
        ∙ pends_turn h.program h.machine.this h.machine.loc w h.top.state h.top.map h.below (pair_event (get_or held k 0)) (pair_value (get_or held k 0))
        ∙ ap (turn_act h.program h.machine.this h.machine.loc w h.top.state h.top.map h.below (pair_event (get_or held k 0)) (pair_value (get_or held k 0))) (sym e)

    -- POP1 is asked
    abbrev pub raise_asked : RaiseAsked k depths states maps
    raise_asked = record { counts = counts; parts = parts; held = held; here = a.here; event = pair_event (get_or held k 0); value = pair_value (get_or held k 0); pends = raise_here }

  -- STEP is asked
  abbrev pub step_asked : StepAsked stmts kinds entries k depths states counts parts held
  step_asked = record { maps = maps; here = a.here; said = a.told.said; entered = record { exits = a.told.exits; flags = flags; states = a.told.tables.states } }

  -- CALL is asked, with the number of events
  abbrev pub call_asked : (events : ℕ) → events ≡ count 64 types → CallAsked says stmts kinds entries flags k events depths states maps counts parts held
  call_asked events e =
      record { here = a.here; said = a.told.said; exits = a.told.exits; tables = a.told.tables; counted = ap length a.told.events ∙ events_length types ∙ sym e }

  -- ACTION is asked
  abbrev pub action_asked : ActionAsked stmts owners bodies k counts parts held
  action_asked = record { depths = depths; states = states; maps = maps; here = a.here; said = a.told.said; actions = a.told.actions }

  -- POP2 is asked
  abbrev pub return_asked : ReturnAsked k depths states maps held
  return_asked = record { counts = counts; parts = parts; here = a.here }

-- EACH RULE LEAVES IT
module _ {says stmts kinds entries flags owners bodies types : List ℕ} {k : ℕ} {depths states maps counts parts held : List ℕ} where
  -- POP2
  pub pend_return : get_or held k 0 ≡ 1 → (r : Outcome) (depths' states' maps' held' : List ℕ) → ReturnLeaves k depths states maps held r depths' states' maps' held'
      → PendLeaves says stmts kinds entries flags owners bodies types k depths states maps counts parts held r depths' states' maps' counts parts held'
  pend_return e r depths' states' maps' held' left a w =
      rw (return_here a e)
      (left (return_asked a) w)

  -- of a raise, whose turn is t
  module _ (n : get_or held k 0 ≡ 1 → ⊥) (t : Turn) (is : (p : Program) → Moves p says → get_or held k 0 / 1099511627776 ≤ length p.events
      → t ≡ turn_of p (get_or states (k * 8 + (get_or depths k 0 - 1)) 0) (map_at p (k * 512 + (get_or depths k 0 - 1) * 64) maps) (get_or held k 0 / 1099511627776)) where
    -- STEP
    pub pend_step : (s : ℕ) → t ≡ step_to s → (r : Outcome) (states' counts' parts' held' : List ℕ) → StepLeaves stmts kinds entries k s depths states counts parts held r states' counts' parts' held'
        → PendLeaves says stmts kinds entries flags owners bodies types k depths states maps counts parts held r depths states' maps counts' parts' held'
    pend_step s e r states' counts' parts' held' left a w =
        rw (act_here a n t is w, e)
        (left (step_asked a) w)

    -- CALL
    pub pend_call : (s events : ℕ) → t ≡ call_to s → events ≡ count 64 types → (r : Outcome) (depths' states' maps' counts' parts' held' : List ℕ)
        → CallLeaves says stmts kinds entries flags k s events depths states maps counts parts held r depths' states' maps' counts' parts' held'
        → PendLeaves says stmts kinds entries flags owners bodies types k depths states maps counts parts held r depths' states' maps' counts' parts' held'
    pend_call s events e q r depths' states' maps' counts' parts' held' left a w =
        rw (act_here a n t is w, e)
        (left (call_asked a events q) w)

    -- ACTION
    pub pend_action : (x : ℕ) → t ≡ do_act x → (r : Outcome) (counts' parts' held' : List ℕ) → ActionLeaves stmts owners bodies k x counts parts held r counts' parts' held'
        → PendLeaves says stmts kinds entries flags owners bodies types k depths states maps counts parts held r depths states maps counts' parts' held'
    pend_action x e r counts' parts' held' left a w =
        rw (act_here a n t is w, e)
        (left (action_asked a) w)

    -- POP1
    pub pend_raise : t ≡ pop_it → (r : Outcome) (depths' states' maps' : List ℕ) → RaiseLeaves k depths states maps r depths' states' maps'
        → PendLeaves says stmts kinds entries flags owners bodies types k depths states maps counts parts held r depths' states' maps' counts parts held
    pend_raise e r depths' states' maps' left a w =
        rw (act_here a n t is w, e)
        (left (raise_asked a n) w)
