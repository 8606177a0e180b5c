-- The step by the cases of a machine: what the functions of its rules are asked, and that what they leave is what the definitions' step has.
use Rattle.std.specs.Prelude.{ℕ, ◌<◌, ◌≡◌, refl, Some, None, List, [], get_or, Err}
use Rattle.std.proofs.Common.{ap, sym, ◌∙◌, subst, arith}
use Rattle.std.proofs.Math.Option.{none}
use Rattle.lists.specs.Facts.{All-get_d}
use Rattle.answers.specs.declared.Answer.TheVariants.{StackEmpty, UnableToStep}
use Rattle.programs.specs.Program.{Program}
use Rattle.soundness.specs.SoundFounded.{sound_founded}
use Rattle.machines.specs.Config.{Frame, Pending, idle, raising, returning, Machine}
use Rattle.machines.specs.Rooms.{find}
use Rattle.acceptance.specs.Accepted.{PendingOk, RoomOk, MachineOk}
use Rattle.rules.specs.Act.{Act, dequeues, refuses, act, pends}
use Rattle.rules.specs.Step as definition
use Rattle.configs.specs.Encode.{held_code}
use Rattle.configs.specs.declared.Flat.{Flat}
use Rattle.engine.specs.Outcome.{Outcome}
use Rattle.engine.specs.Engine.{Acted, Dequeued, Performed}
use Rattle.rooms.specs.Places.{Found, find_none}
use Rattle.parts.specs.Parts.{Said}
use Rattle.rooms.specs.Standing.{Lives, lives_ok, lives_stands, found, not_found, performed_own, performed_dequeue}
use Rattle.remaining.specs.Held.{row_33}
use Rattle.stored.specs.Stated.{tables_said}
use Rattle.pending.specs.Pending.{Here}
use Rattle.pended.specs.Pended.{PendAsked}
use Rattle.dequeuing.specs.Dequeuing.{DequeueAsked}
use Rattle.heads.specs.Asked.{StepAsked, RoomAsked, HeadAsked}
use Rattle.heads.specs.Heads.{head_outcome}
use Rattle.dispatch.specs.Cases.{step_nobody, step_act, held_is, Topped, case_empty, case_stack, Headed, case_head, case_row, case_pends, case_idle}

module _ {exprs stmts inits types owners vartypes doers bodies homes entries exits defers says places : List ℕ} {f : Flat} {w : ℕ}
    (a : StepAsked exprs stmts inits types owners vartypes doers bodies homes entries exits defers says places f w) (i : ℕ) where
  abbrev p : Program
  p = a.p

  -- the definitions' step
  abbrev pub step_outcome : definition.Outcome
  step_outcome = definition.step p a.c (record { machine = i; bits = w })

  -- 19: no machine has the number 0,
  nobody_0 : find 0 a.c.rooms ≡ none
  nobody_0 = find_none 0 a.c.rooms (λ j m e n.
      let ok : MachineOk p a.c.next m = subst (RoomOk p a.c.next) e (All-get_d (RoomOk p a.c.next) none a.c.rooms j tt a.accepted.each_room) in
      omega (arith, ok.low, n))

  pub step_zero : i ≡ 0 → Performed f step_outcome (Err UnableToStep) f
  step_zero e = step_nobody p f a.c i w (rw e nobody_0)

  -- or none has it
  pub step_none : (i ≡ 0 → ⊥) → Found f.ids i None → Performed f step_outcome (Err UnableToStep) f
  step_none n q = step_nobody p f a.c i w (not_found p f a.c a.sized a.holds a.accepted i 32 (omega (arith, n)) q (omega arith))

  -- THE MACHINE
  module _ (k : ℕ) (n : i ≡ 0 → ⊥) (q : Found f.ids i (Some k)) where
    abbrev there : (m : Machine) × (Lives p f a.c k m × (m.this ≡ i))
    there = found p f a.c a.sized a.holds a.accepted i k (omega (arith, n)) q.1 q.0

    abbrev m : Machine
    m = there.0

    abbrev lives : Lives p f a.c k m
    lives = there.1.0

    -- its room
    pub room_low : k < 32
    room_low = lives.room

    -- its step is what its act does
    by_act : (x : Act) → act p m.this m.loc w ≡ x → step_outcome ≡ definition.perform p a.c m.this m x
    by_act x e = ap (λ (j : ℕ). definition.step p a.c (record { machine = j; bits = w })) (sym there.1.1) ∙ step_act p f a.c k m lives w ∙ ap (definition.perform p a.c m.this m) e

    -- 13
    pub step_empty : get_or f.depths k 0 ≡ 0 → Performed f step_outcome (Err StackEmpty) f
    step_empty e = subst (λ o. Performed f o (Err StackEmpty) f) (sym (by_act (refuses StackEmpty) (case_empty p f a.c k m lives w e))) (refl, refl)

    -- A STACK
    module _ (d : get_or f.depths k 0 ≡ 0 → ⊥) where
      abbrev topped : (x : Frame) × ((γ : List Frame) × Topped p f a.c k m lives w x γ)
      topped = case_stack p f a.c k m lives w (omega (arith, d))

      abbrev top : Frame
      top = topped.0

      abbrev below : List Frame
      below = topped.1.0

      abbrev is_topped : Topped p f a.c k m lives w top below
      is_topped = topped.1.1

      abbrev room_asked : RoomAsked exprs stmts inits types owners vartypes doers bodies homes entries exits defers says places f k w
      room_asked = record { step = a; m = m; lives = lives; top = top; below = below; stack = is_topped.stack }

      -- A HEAD
      module _ (z : get_or f.counts k 0 ≡ 0 → ⊥) where
        abbrev headed : (s : ℕ) × ((r : List ℕ) × Headed p f a.c k m lives w top below is_topped s r)
        headed = case_head p f a.c k m lives w top below is_topped (row_33 p f k m a.tabled.sound (lives_stands p f a.c k m lives)) (omega (arith, z))

        abbrev pub head_asked : HeadAsked exprs stmts inits types owners vartypes doers bodies homes entries exits defers says places f k w
        head_asked = record { room = room_asked; s = headed.0; r = headed.1.0; row = headed.1.1.row; place = headed.1.1.place }

        pub step_head : (r : Outcome) (g : Flat) → Performed f (head_outcome head_asked) r g → Performed f step_outcome r g
        step_head r g h = subst (λ o. Performed f o r g) (sym (by_act _ headed.1.1.acts)) h

      -- AN EMPTY ROW
      module _ (z : get_or f.counts k 0 ≡ 0) where
        pub bare_row : m.loc.row ≡ []
        bare_row = case_row p f a.c k m lives w top below is_topped z

        abbrev here : Here k f.depths f.states f.maps f.counts f.parts f.held
        here = record {
          program = p;
          others = record { ids = f.ids; kinds = f.kinds; values = f.values; waiting = f.waiting; pairs = f.pairs; next = f.next };
          machine = m;
          top = top;
          below = below;
          bare = record { sound = a.tabled.sound; stands = lives_stands p f a.c k m lives; stack_is = is_topped.stack; row_is = bare_row };
        }

        abbrev said : Said stmts p
        said = record { inits = inits; same = a.tabled.stmts_are; founded = sound_founded p a.tabled.sound }

        -- SOMETHING IS PENDING
        abbrev pub pend_asked : (get_or f.held k 0 ≡ 0 → ⊥) → PendAsked says stmts homes entries defers doers bodies types k f.depths f.states f.maps f.counts f.parts f.held
        pend_asked h = record {
          here = here;
          told = record {
            said = said;
            exits = exits;
            tables = tables_said p says a.tabled.sound a.tabled.told homes entries exits defers a.tabled.states_are;
            actions = a.tabled.actions_are;
            events = a.tabled.events_are;
          };
          something = λ e. h (held_is p f a.c k m lives w ∙ ap held_code e);
        }

        pub step_pends : (r : Outcome) (g : Flat) → Acted f k m (pends p m.this m.loc w top.state top.map below m.loc.pending) r g → Performed f step_outcome r g
        step_pends r g d = subst (λ o. Performed f o r g) (sym (by_act _ (case_pends p f a.c k m lives w top below is_topped bare_row)))
            (performed_own p f a.c k m lives r g (pends p m.this m.loc w top.state top.map below m.loc.pending) d)

        -- NOTHING IS PENDING
        abbrev pub dequeue_asked : DequeueAsked says stmts homes exits defers k f.depths f.states f.maps f.values f.counts f.parts f.held f.waiting f.pairs
        dequeue_asked = record {
          program = p;
          ids = f.ids;
          owners = f.kinds;
          next = f.next;
          machine = m;
          top = top;
          below = below;
          bare = here.bare;
          said = said;
          entries = entries;
          tables = tables_said p says a.tabled.sound a.tabled.told homes entries exits defers a.tabled.states_are;
        }

        nothing_pends : get_or f.held k 0 ≡ 0 → m.loc.pending ≡ idle
        nothing_pends h = go m.loc.pending refl (lives_ok p f a.c k m lives).loc_ok.pending_ok
          where
            go : (q : Pending) → m.loc.pending ≡ q → PendingOk p a.c.next m.loc.pending → q ≡ idle
            go idle e ok = refl
            go returning e ok = absurd (omega (arith, h, held_is p f a.c k m lives w ∙ ap held_code e))
            go (raising n v) e ok = let o : PendingOk p a.c.next (raising n v) = subst (PendingOk p a.c.next) e ok in
                absurd (omega (arith, o.0.0, h, held_is p f a.c k m lives w ∙ ap held_code e))

        pub step_dequeues : get_or f.held k 0 ≡ 0 → (r : Outcome) (g : Flat) → Dequeued f k m (definition.takes p m.loc m.loc.stack m.queue) r g → Performed f step_outcome r g
        step_dequeues h r g d = subst (λ o. Performed f o r g) (sym (by_act dequeues (case_idle p f a.c k m lives w top below is_topped bare_row (nothing_pends h))))
            (performed_dequeue p f a.c k m lives r g d)
