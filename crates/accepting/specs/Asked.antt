-- What the tests of a configuration are asked of the lists that they are lent, and what they tell.
use Rattle.std.specs.Prelude.{ℕ, ◌*◌, ◌≤◌, ◌<◌, ◌≡◌, Bool, true, false, not, List, eqb, length, get_or}
use Rattle.std.proofs.Common.{ap, sym, ◌∙◌, arith}
use Rattle.std.proofs.lemmas.Bool.{not-true, not-false}
use Rattle.rows.specs.Part.{part}
use Rattle.lists.specs.Lists.{There}
use Rattle.lists.specs.Tells.{Tells, form, granted, refuted, denied}
use Rattle.programs.specs.Sizes.{EVENTS, SPENT}
use Rattle.programs.specs.Program.{Program}
use Rattle.soundness.specs.Sound.{Sound}
use Rattle.soundness.specs.SoundFounded.{sound_founded}
use Rattle.acceptance.specs.Accepted.{Distinct, Accepted}
use Rattle.tables.specs.declared.Program.{Program as Tables}
use Rattle.tables.specs.Decode as decode
use Rattle.tables.specs.Tables.{events_length}
use Rattle.parts.specs.Parts.{Said, awaits_held}
use Rattle.configs.specs.Decode.{pending_of}
use Rattle.marks.specs.Marks.{Heights, Served}
use Rattle.configs.specs.Encode.{Zeroed}
use Rattle.configs.specs.declared.Flat.{Flat}
use Rattle.configs.specs.Flat.{Sized, held, flat_config}
use Rattle.checked_values.specs.Numbers.{HeldNumber}
use Rattle.checked_queues.specs.Queues.{QueueHeld}
use Rattle.checked_variables.specs.Variables.{ValuesHeld}
use Rattle.checked_stacks.specs.CheckedStacks.{StackHeld}
use Rattle.checked_stacks.specs.CheckedStacks as stacks
use Rattle.checked_rows.specs.CheckedRows.{RowHeld}
use Rattle.checked_rows.specs.CheckedRows as rows
use Rattle.accepting.specs.Rooms.{RoomFit, whole, each_fit}
use Rattle.accepting.specs.Live.{Tested, tested_fit, fit_tested}

-- THE PROGRAM p is the lent tables', with the heights of its statements and the kinds that they serve
pub record Told (types owners vartypes stmts doers homes heights served : List ℕ) (machines : ℕ) (p : Program) : Type 0 where
  pub sound : Sound p
  pub events_are : p.events ≡ decode.events_of types
  pub variables_are : p.variables ≡ decode.variables_of owners vartypes
  pub inits : List ℕ
  pub stmts_are : p.stmts ≡ decode.stmts_of stmts inits
  pub bodies : List ℕ
  pub actions_are : p.actions ≡ decode.actions_of doers bodies
  pub entries : List ℕ
  pub exits : List ℕ
  pub flags : List ℕ
  pub states_are : p.states ≡ decode.states_of homes entries exits flags
  pub machines_are : p.machines ≡ machines
  pub tall : Heights p heights
  pub serving : Served p served

-- the tables are those of q
abbrev pub ToldOf : Tables → List ℕ → List ℕ → Program → Type 0
ToldOf q heights served p = Told q.event_types q.variable_of q.variable_type q.stmts q.action_of q.state_of heights served q.kinds p

-- the statements of such a program
pub told_said : {types owners vartypes stmts doers homes heights served : List ℕ} {machines : ℕ} {p : Program} → Told types owners vartypes stmts doers homes heights served machines p → Said stmts p
told_said {p = p} t = record { inits = t.inits; same = t.stmts_are; founded = sound_founded p t.sound }

-- THE LISTS have their lengths, and no more kinds are told of than 16
pub record Listed (f : Flat) (machines : ℕ) : Type 0 where
  pub sized : Sized f
  pub few : machines ≤ 16

-- the rooms before the k-th are as they should be
abbrev pub Before : Program → Flat → ℕ → Type 0
Before p f k = (j : ℕ) → j < k → RoomFit p f j

-- A CONFIGURATION IS ONE
pub record IsOne (p : Program) (f : Flat) : Type 0 where
  pub accepted : Accepted p (flat_config p f)
  pub zeroed : Zeroed p (held f)

module _ (p : Program) (f : Flat) where
  -- 20: the next live number,
  pub not_one_low : f.next ≡ 0 → Tells false (IsOne p f)
  not_one_low e = refuted (λ h. omega (arith, h.accepted.next_low, e))

  pub not_one_high : SPENT < f.next → Tells false (IsOne p f)
  not_one_high e = refuted (λ h. omega (arith, h.accepted.next_high, e))

  -- live numbers that are not distinct,
  pub not_one_distinct : {b : Bool} → Tells b (Distinct (flat_config p f).rooms) → b ≡ false → Tells false (IsOne p f)
  not_one_distinct t e = refuted (λ h. denied t e h.accepted.distinct)

  -- a room
  pub not_one_room : {b : Bool} (k : ℕ) → k < 32 → Tells b (RoomFit p f k) → b ≡ false → Tells false (IsOne p f)
  not_one_room k l t e = refuted (λ h. denied t e (each_fit p f h.accepted h.zeroed k l))

  -- ALL ARE AS THEY SHOULD BE
  pub one : {b : Bool} → (f.next ≡ 0 → ⊥) → f.next ≤ SPENT → Tells b (Distinct (flat_config p f).rooms) → b ≡ true → Before p f 32 → Tells true (IsOne p f)
  one n high t e rooms = let w = whole p f rooms (t.holds e) (omega (arith, n)) high in granted (record { accepted = w.0; zeroed = w.1 })

  -- and a test of it all, one thing behind the other
  pub one_told : {b : Bool} → Tells b ((((f.next ≡ 0 → ⊥) × (f.next ≤ SPENT)) × Distinct (flat_config p f).rooms) × Before p f 32) → Tells b (IsOne p f)
  one_told t = form t
      (λ h. let w = whole p f h.1 h.0.1 (omega (arith, h.0.0.0)) h.0.0.1 in record { accepted = w.0; zeroed = w.1 })
      (λ o. (((λ e. omega (arith, o.accepted.next_low, e), o.accepted.next_high), o.accepted.distinct), each_fit p f o.accepted o.zeroed))

-- what a live room's tests are asked of the tables
module _ {types owners vartypes stmts doers homes heights served : List ℕ} {machines : ℕ} {p : Program} (t : Told types owners vartypes stmts doers homes heights served machines p) where
  pub frames_told : (events : ℕ) → events ≡ decode.count EVENTS types → stacks.Told homes doers events p
  frames_told events e = record {
    entries = t.entries;
    exits = t.exits;
    flags = t.flags;
    bodies = t.bodies;
    states = t.states_are;
    actions = t.actions_are;
    many = ap length t.events_are ∙ events_length types ∙ sym e;
  }

  pub row_told : (x : ℕ) → rows.Told stmts heights served (not (eqb x 0)) p (pending_of x)
  row_told x = record { said = told_said t; tall = t.tall; serving = t.serving; flag = awaits_held x }

-- A LIVE ROOM
module _ {types owners vartypes stmts doers homes heights served : List ℕ} {machines : ℕ} {p : Program} (t : Told types owners vartypes stmts doers homes heights served machines p) (f : Flat) (i : ℕ)
    (n : get_or f.ids i 0 ≡ 0 → ⊥) where
  abbrev tests : RoomFit p f i → Tested p f i
  tests = fit_tested p t.sound f i n

  -- the room's number, and its kind
  pub no_number : f.next ≤ get_or f.ids i 0 → Tells false (RoomFit p f i)
  no_number h = refuted (λ r. omega (arith, h, (tests r).high))

  pub no_kind : get_or f.kinds i 0 ≡ 0 → Tells false (RoomFit p f i)
  no_kind h = refuted (λ r. omega (arith, h, (tests r).kind_there.0))

  pub no_such_kind : machines < get_or f.kinds i 0 → Tells false (RoomFit p f i)
  no_such_kind h = refuted (λ r. omega (arith, h, (tests r).kind_there.1, t.machines_are))

  -- a test that fails
  pub fails : {b : Bool} {P : Type 0} → (Tested p f i → P) → Tells b P → not b ≡ true → Tells false (RoomFit p f i)
  fails part told h = refuted (λ r. denied told (not-true _ h) (part (tests r)))

  -- ALL TESTS BUT THE QUEUE'S have passed
  pub passes : {q a b c d : Bool} → get_or f.ids i 0 < f.next → (get_or f.kinds i 0 ≡ 0 → ⊥) → get_or f.kinds i 0 ≤ machines
      → Tells a (StackHeld p (get_or f.kinds i 0) (get_or f.depths i 0) (part (i * 8) 8 f.states) (part (i * 512) 512 f.maps)) → not a ≡ false
      → Tells b (ValuesHeld p f.next (get_or f.kinds i 0) (get_or f.ids i 0) (part (i * 19) 19 f.values)) → not b ≡ false
      → Tells c (HeldNumber p f.next (get_or f.held i 0)) → not c ≡ false
      → Tells d (RowHeld p (get_or f.kinds i 0) (pending_of (get_or f.held i 0)) (get_or f.counts i 0) (part (i * 33) 33 f.parts)) → not d ≡ false
      → Tells q (QueueHeld p f.next (get_or f.waiting i 0) (part (i * 16) 16 f.pairs)) → Tells q (RoomFit p f i)
  passes high some few sa ha sb hb sc hc sd hd sq = record {
    holds = λ e. tested_fit p t.sound f i n (record {
      high = high;
      kind_there = (omega (arith, some), omega (arith, few, t.machines_are));
      stack = sa.holds (not-false _ ha);
      values = sb.holds (not-false _ hb);
      pending = sc.holds (not-false _ hc);
      row = sd.holds (not-false _ hd);
      queue = sq.holds e;
    });
    test = λ r. sq.test (tests r).queue;
  }

  -- a test of all, one thing behind the other
  pub live_told : {b : Bool} → Tells b ((((((get_or f.ids i 0 < f.next × There machines (get_or f.kinds i 0)) × RowHeld p (get_or f.kinds i 0) (pending_of (get_or f.held i 0)) (get_or f.counts i 0) (part (i * 33) 33 f.parts))
      × StackHeld p (get_or f.kinds i 0) (get_or f.depths i 0) (part (i * 8) 8 f.states) (part (i * 512) 512 f.maps)) × ValuesHeld p f.next (get_or f.kinds i 0) (get_or f.ids i 0) (part (i * 19) 19 f.values))
      × HeldNumber p f.next (get_or f.held i 0)) × QueueHeld p f.next (get_or f.waiting i 0) (part (i * 16) 16 f.pairs)) → Tells b (RoomFit p f i)
  live_told told = form told
      (λ h. tested_fit p t.sound f i n (record {
        high = h.0.0.0.0.0.0;
        kind_there = (h.0.0.0.0.0.1.0, omega (arith, h.0.0.0.0.0.1.1, t.machines_are));
        row = h.0.0.0.0.1;
        stack = h.0.0.0.1;
        values = h.0.0.1;
        pending = h.0.1;
        queue = h.1;
      }))
      (λ r. let x = tests r in ((((((x.high, (x.kind_there.0, omega (arith, x.kind_there.1, t.machines_are))), x.row), x.stack), x.values), x.pending), x.queue))
