-- DEQUEUE: what it is asked of the lists that it is lent, and that what it leaves is what the definitions have.
use Rattle.std.specs.Prelude.{ℕ, ◌+◌, ◌-◌, ◌*◌, ◌%◌, ◌≤◌, ◌<◌, ◌≡◌, refl, true, List, [], ◌∷◌, map, length, take, get_or, set, Ok, Err}
use Rattle.std.proofs.Common.{sym, ap, ◌∙◌, subst, arith, get_or-set_same}
use Rattle.std.proofs.Math.Option
use Rattle.std.proofs.lemmas.List.{length-map}
use Rattle.lists.specs.Lists.{All, There}
use Rattle.lists.specs.Facts.{All-map, All-at}
use Rattle.lists.specs.Keep.{map_back, All-image}
use Rattle.rows.specs.Pad.{pad, pad_length, pad_take, without}
use Rattle.rows.specs.Part.{part, put_length, put_out}
use Rattle.values.specs.declared.Value.TheVariants.{Event as vevent}
use Rattle.answers.specs.declared.Answer.TheVariants.{UnableToStep}
use Rattle.programs.specs.Program.{Program}
use Rattle.machines.specs.Config.{Frame, raising, Pair, Local, Machine}
use Rattle.machines.specs.Locals.{remains, told}
use Rattle.machines.specs.Maps.{exit_or_skip, held_back}
use Rattle.machines.specs.Queue.{pull}
use Rattle.rules.specs.declared.Rule.TheVariants.{DEQUEUE}
use Rattle.rules.specs.Step as definition
use Rattle.acceptance.specs.Accepted.{PairOk}
use Rattle.codes.specs.Codes.{code_of}
use Rattle.codes.specs.Pairs.{pair_event, pair_value, CanonicalPair, pair_event_lem, pair_value_lem, pair_rest, pair_canonical}
use Rattle.configs.specs.Decode.{pair_of}
use Rattle.configs.specs.Encode.{pair_number, taken}
use Rattle.configs.proofs.RoundTrip.{holdable, machine_back}
use Rattle.configs.specs.declared.Flat.{Flat}
use Rattle.configs.specs.Flat.{flat, room_path}
use Rattle.maps.specs.Maps.{Tables, Asked, map_at}
use Rattle.queues.specs.Queues.{QueueOk, queue_at, Removed, Becomes, queue_length, becomes_ok, becomes_queue, remove_becomes}
use Rattle.queues.specs.Meaning.{remove_canonical}
use Rattle.parts.specs.Parts.{Said, tidied}
use Rattle.engine.specs.Outcome.{Outcome}
use Rattle.engine.specs.Engine.{Changed, Dequeued}
use Rattle.engine.specs.Holding.{Elsewhere, RowHeld, RowBecomes, untouched, touched, touched_place, touched_then}
use Rattle.remaining.specs.Remaining.{Placing}
use Rattle.remaining.specs.Held.{changed, row_taken, row_there, tidy_awaits}
use Rattle.stored.specs.Stored.{told_set}
use Rattle.stacks.specs.Stacks.{Deep, top_state, top_map}
use Rattle.pending.specs.Pending.{Bare, Here}
use Rattle.pending.specs.Meets.{stack_here, framed_here, deep_here, state_64, placing_here}
use Rattle.dequeuing.specs.Search.{SearchAsked, First, event_at, search_asked, number_at_lem, takes_none, takes_some}

-- WHAT IS ASKED: a machine that stands in room k with a frame on top of its stack, and tables that say what its program says
pub record DequeueAsked (says stmts kinds exits flags : List ℕ) (k : ℕ) (depths states maps values counts parts held waiting pairs : List ℕ) : Type 0 where
  pub program : Program
  pub ids : List ℕ
  pub owners : List ℕ
  pub next : ℕ
  pub machine : Machine
  pub top : Frame
  pub below : List Frame
  pub bare : Bare program (flat ids owners depths states maps values counts parts held waiting pairs next) k machine top below
  pub said : Said stmts program
  pub entries : List ℕ
  pub tables : Tables program says kinds entries exits flags

-- WHAT IS LEFT
abbrev pub DequeueLeaves : List ℕ → List ℕ → List ℕ → List ℕ → List ℕ → ℕ → List ℕ → List ℕ → List ℕ → List ℕ → List ℕ → List ℕ → List ℕ → List ℕ → List ℕ → Outcome
    → List ℕ → List ℕ → List ℕ → List ℕ → List ℕ → List ℕ → Type 0
DequeueLeaves says stmts kinds exits flags k depths states maps values counts parts held waiting pairs r values' counts' parts' held' waiting' pairs' =
    (a : DequeueAsked says stmts kinds exits flags k depths states maps values counts parts held waiting pairs)
    → Dequeued (flat a.ids a.owners depths states maps values counts parts held waiting pairs a.next) k a.machine
    (definition.takes a.program a.machine.loc a.machine.loc.stack a.machine.queue) r
    (flat a.ids a.owners depths states maps values' counts' parts' held' waiting' pairs' a.next)

-- what the stores for the pair with number x leave, but for the queue: msg and arg are its event and value, statement s is all that is left, and it is pending
pub record Taken (stmts : List ℕ) (k x s : ℕ) (values counts parts held values' counts' parts' held' : List ℕ) : Type 0 where
  pub values_told : values' ≡ set (set values (k * 19 + 17) (code_of (vevent (pair_event x)))) (k * 19 + 18) (x % 1099511627776)
  pub row : RowBecomes k counts parts (Said stmts) (λ p r. tidied true p (s ∷ [])) counts' parts'
  pub pends : held' ≡ set held k x

-- THE NUMBERS OF PAIRS
-- the number of an accepted pair: it is the pair's only one, its event is there, and below it has the number of its value
pub record Good (p : Program) (x : ℕ) : Type 0 where
  pub canonical : CanonicalPair x
  pub there : There (length p.events) (pair_event x)
  pub rest : x % 1099511627776 ≡ code_of (pair_value x)

module _ {says stmts kinds exits flags : List ℕ} {k : ℕ} {depths states maps values counts parts held waiting pairs : List ℕ}
    (a : DequeueAsked says stmts kinds exits flags k depths states maps values counts parts held waiting pairs) where
  -- the lists
  abbrev lists : Flat
  lists = flat a.ids a.owners depths states maps values counts parts held waiting pairs a.next

  -- the machine, as the other rules of an empty row are asked about it
  abbrev here : Here k depths states maps counts parts held
  here = record {
    program = a.program;
    others = record { ids = a.ids; kinds = a.owners; values = values; waiting = waiting; pairs = pairs; next = a.next };
    machine = a.machine;
    top = a.top;
    below = a.below;
    bare = a.bare;
  }

  -- ITS STACK
  -- has a frame
  pub dequeue_deep : Deep k depths states maps
  dequeue_deep = deep_here here

  -- whose state has a row in the tables
  pub dequeue_state : get_or states (k * 8 + (get_or depths k 0 - 1)) 0 ≤ 64
  dequeue_state = state_64 here

  -- its state
  state_is : get_or states (k * 8 + (get_or depths k 0 - 1)) 0 ≡ a.top.state
  state_is = top_state k depths states maps a.top a.below (stack_here here)

  -- its map
  map_is : map_at a.program (k * 512 + (get_or depths k 0 - 1) * 64) maps ≡ a.top.map
  map_is = top_map k depths states maps a.top a.below (stack_here here) a.program (framed_here here)

  -- ITS ROW has room for one statement
  pub dequeue_placing : (s : ℕ) → Placing stmts k counts parts s 0
  dequeue_placing s = placing_here here stmts s a.said

  -- ITS QUEUE
  -- as many pairs as are counted
  count_is : get_or waiting k 0 ≡ length a.machine.queue
  count_is = ap (λ r. r.waiting) a.bare.stands.holds

  -- the numbers are those of its pairs
  numbers : queue_at pairs waiting k ≡ map pair_number a.machine.queue
  numbers =
      ap (λ r. take r.waiting r.pairs) a.bare.stands.holds
      ∙ ap (λ (n : ℕ). take n (pad 0 16 (map pair_number a.machine.queue))) (sym (length-map a.machine.queue pair_number)) ∙ pad_take 0 16 (map pair_number a.machine.queue)

  -- and its pairs are those of the numbers
  queue_is : a.machine.queue ≡ map pair_of (queue_at pairs waiting k)
  queue_is =
      sym (ap (λ r. map pair_of (take r.waiting r.pairs)) a.bare.stands.holds
      ∙ ap (λ (m : Machine). m.queue) (machine_back a.program a.next a.bare.sound a.bare.stands.spent a.machine a.bare.stands.ok))

  -- what is asked of it
  pub dequeue_queue : QueueOk pairs waiting k
  dequeue_queue = record {
    room = a.bare.stands.room;
    places = a.bare.stands.sized.pairs_512;
    rooms = a.bare.stands.sized.waiting_32;
    fits = rw count_is a.bare.stands.ok.queue_ok.size;
    packed = ap (λ r. r.pairs) a.bare.stands.holds ∙ ap (pad 0 16) (sym numbers);
  }

  -- each number is good
  good_number : (y : Pair) → PairOk a.program a.next y → Good a.program (pair_number y)
  good_number y ok =
      let h = holdable a.program a.next a.bare.sound a.bare.stands.spent y.value ok.1.0 in
      record {
        canonical = pair_canonical y.event y.value h;
        there = rw (pair_event_lem y.event y.value h) ok.0;
        rest = pair_rest y.event y.value h ∙ ap code_of (sym (pair_value_lem y.event y.value h));
      }

  all_good : All (Good a.program) (queue_at pairs waiting k)
  all_good = rw numbers (All-image (Good a.program) pair_number a.machine.queue (All-map _ _ a.machine.queue good_number a.bare.stands.ok.queue_ok.pairs))

  -- number j is
  good_at : (j : ℕ) → j < get_or waiting k 0 → Good a.program (get_or pairs (k * 16 + j) 0)
  good_at j h =
      rw (number_at_lem pairs waiting k dequeue_queue j h) at
      (All-at (Good a.program) 0 (queue_at pairs waiting k) j (omega (arith, queue_length pairs waiting k dequeue_queue)) all_good)

  -- what the search is asked
  pub dequeue_search : SearchAsked k (k * 512 + (get_or depths k 0 - 1) * 64) (get_or states (k * 8 + (get_or depths k 0 - 1)) 0) waiting pairs
  dequeue_search =
      let d = dequeue_deep in
      record {
        queue = dequeue_queue;
        inside = omega (arith, d.room, d.fits);
        state = dequeue_state;
        events = λ j h. ((good_at j h).there.0, omega (arith, (good_at j h).there.1, a.bare.sound.is_sized.1.0));
      }

  -- WHAT IT FINDS
  module _ (r : ℕ) (found : (p : Program) (entries exits : List ℕ) → Tables p says kinds entries exits flags → ((j : ℕ) → j < get_or waiting k 0 → event_at k pairs j ≤ length p.events)
      → First (λ j. held_back p (get_or states (k * 8 + (get_or depths k 0 - 1)) 0) (map_at p (k * 512 + (get_or depths k 0 - 1) * 64) maps) (event_at k pairs j)) (get_or waiting k 0) r) where
    -- the first that the top frame does not hold back
    first : First (λ j. held_back a.program a.top.state a.top.map (event_at k pairs j)) (get_or waiting k 0) r
    first = rw (← state_is, ← map_is) (found a.program a.entries exits a.tables (λ j h. (good_at j h).there.1))

    -- what the definitions take
    takes_is : definition.takes a.program a.machine.loc a.machine.loc.stack a.machine.queue
        ≡ Option.map (definition.taken a.program a.machine.loc a.top) (pull a.program a.top.state a.top.map (map pair_of (queue_at pairs waiting k)))
    takes_is =
        ap (λ (γ : List Frame). definition.takes a.program a.machine.loc γ a.machine.queue) a.bare.stack_is
        ∙ ap (λ (q : List Pair). Option.map (definition.taken a.program a.machine.loc a.top) (pull a.program a.top.state a.top.map q)) queue_is

    -- NONE
    pub dequeue_none : get_or waiting k 0 ≤ r → Dequeued lists k a.machine (definition.takes a.program a.machine.loc a.machine.loc.stack a.machine.queue) (Err UnableToStep) lists
    dequeue_none h =
        rw (takes_is, takes_none a.program a.top.state a.top.map pairs waiting k dequeue_queue r first h) (refl, refl)

    -- SOME: pair r, with the number x
    module _ (h : r < get_or waiting k 0) where
      -- its number
      abbrev x : ℕ
      x = get_or pairs (k * 16 + r) 0

      -- is good
      pub dequeue_good : Good a.program x
      dequeue_good = good_at r h

      -- the local part after it, where s remains
      abbrev after : ℕ → Local
      after s = remains a.program (s ∷ []) (raising (pair_event x) (pair_value x)) (told (pair_event x) (pair_value x) a.machine.loc)

      -- the queue after it
      abbrev left : List ℕ
      left = without r (queue_at pairs waiting k)

      module _ (s : ℕ) {values' counts' parts' held' waiting' pairs' : List ℕ} (stored : Taken stmts k x s values counts parts held values' counts' parts' held')
          (removed : Removed pairs waiting k r pairs' waiting') where
        -- the values are those of the local part after it
        values_are : part (k * 19) 19 values' ≡ (taken (record { this = a.machine.this; loc = after s; queue = a.machine.queue })).values
        values_are =
            ap (part (k * 19) 19) stored.values_told
            ∙ ap (λ (y : ℕ). part (k * 19) 19 (set (set values (k * 19 + 17) (code_of (vevent (pair_event x)))) (k * 19 + 18) y)) dequeue_good.rest
            ∙ told_set a.program lists k a.machine a.bare.sound a.bare.stands (pair_event x) (pair_value x)

        -- the row after it
        row_after : RowHeld k counts' parts' (after s).row
        row_after = subst (RowHeld k counts' parts') (tidy_awaits a.program (s ∷ []) (raising (pair_event x) (pair_value x)))
            (stored.row.becomes a.program a.said a.machine.loc.row (row_there a.program lists k a.machine a.bare.sound a.bare.stands))

        -- the queue after it
        becomes : Becomes pairs waiting k left pairs' waiting'
        becomes = remove_becomes pairs waiting k pairs' waiting' dequeue_queue r h removed

        -- its numbers are its pairs'
        left_back : map pair_number (map pair_of left) ≡ left
        left_back = map_back pair_number pair_of left (remove_canonical r (queue_at pairs waiting k) (All-map _ _ (queue_at pairs waiting k) (λ y g. g.canonical) all_good))

        -- they stand in the room,
        pairs_are : part (k * 16) 16 pairs' ≡ pad 0 16 (map pair_number (map pair_of left))
        pairs_are =
            (becomes_ok pairs waiting k left pairs' waiting' dequeue_queue becomes).packed
            ∙ ap (pad 0 16) (becomes_queue pairs waiting k left pairs' waiting' dequeue_queue becomes ∙ sym left_back)

        -- counted
        waiting_is : get_or waiting' k 0 ≡ length (map pair_of left)
        waiting_is = ap (λ (l : List ℕ). get_or l k 0) becomes.counts ∙ get_or-set_same waiting k (length left) 0 (omega (arith, dequeue_queue.rooms, dequeue_queue.room)) ∙ sym (length-map left pair_of)

        -- off the room nothing changes
        pairs_off : Elsewhere k 16 pairs pairs'
        pairs_off =
            let n : length (pad 0 16 left) ≡ 16 = pad_length 0 16 left becomes.small in
            let inside : k * 16 + length (pad 0 16 left) ≤ length pairs = omega (arith, dequeue_queue.places, dequeue_queue.room) in
            rw becomes.places (record {
              size = put_length (k * 16) (pad 0 16 left) pairs inside;
              same = λ j o. put_out (k * 16) (pad 0 16 left) pairs j 0 inside (rw n o);
            })

        values_off : Elsewhere k 19 values values'
        values_off = rw stored.values_told (touched_then (touched k 19 17 (code_of (vevent (pair_event x))) values (omega arith))
            (touched k 19 18 (x % 1099511627776) (set values (k * 19 + 17) (code_of (vevent (pair_event x)))) (omega arith)))

        -- THE MACHINE AFTER IT stands in the room
        pub dequeue_changed : Changed lists k (record { this = a.machine.this; loc = after s; queue = map pair_of left })
            (flat a.ids a.owners depths states maps values' counts' parts' held' waiting' pairs' a.next)
        dequeue_changed = changed lists k _ _ a.bare.stands.sized (record {
          ids = untouched;
          kinds = untouched;
          depths = untouched;
          states = untouched;
          maps = untouched;
          values = values_off;
          counts = stored.row.counts_off;
          parts = stored.row.parts_off;
          held = rw stored.pends (touched_place k x held);
          waiting = rw becomes.counts (touched_place k (length left) waiting);
          pairs = pairs_off;
          next = refl;
        }) (room_path (ap (λ z. z.this.0) a.bare.stands.holds) (ap (λ z. z.kind.0) a.bare.stands.holds) (ap (λ z. z.depth) a.bare.stands.holds) (ap (λ z. z.states) a.bare.stands.holds)
            (ap (λ z. z.maps) a.bare.stands.holds) values_are (row_taken row_after).0 (row_taken row_after).1
            (ap (λ (l : List ℕ). get_or l k 0) stored.pends ∙ get_or-set_same held k x 0 (omega (arith, a.bare.stands.sized.held_32, a.bare.stands.room)) ∙ sym dequeue_good.canonical) waiting_is pairs_are)

        -- which is DEQUEUE's, where s is the state's exit or skip for the event e
        pub dequeue_some : (e : ℕ) → e ≡ pair_event x → ((p : Program) (entries flags : List ℕ) → Tables p says kinds entries exits flags → e ≤ length p.events
            → s ≡ exit_or_skip p (get_or states (k * 8 + (get_or depths k 0 - 1)) 0) (map_at p (k * 512 + (get_or depths k 0 - 1) * 64) maps) e)
            → Dequeued lists k a.machine (definition.takes a.program a.machine.loc a.machine.loc.stack a.machine.queue) (Ok DEQUEUE)
            (flat a.ids a.owners depths states maps values' counts' parts' held' waiting' pairs' a.next)
        dequeue_some e is exit =
            let q : s ≡ exit_or_skip a.program a.top.state a.top.map (pair_event x) =
            rw (← state_is, ← map_is, ← is) (exit a.program a.entries flags a.tables (rw is dequeue_good.there.1)) in
            rw (takes_is, takes_some a.program a.top.state a.top.map pairs waiting k dequeue_queue r first h, ← q) (refl, dequeue_changed)

      -- what the look-up of the state's exit is asked
      pub dequeue_asked : (e : ℕ) → e ≡ pair_event x → Asked (k * 512 + (get_or depths k 0 - 1) * 64) (get_or states (k * 8 + (get_or depths k 0 - 1)) 0) e
      dequeue_asked e is = rw is (search_asked k (k * 512 + (get_or depths k 0 - 1) * 64) (get_or states (k * 8 + (get_or depths k 0 - 1)) 0) waiting pairs dequeue_search r h)

      -- what the stores are asked
      pub dequeue_take : (s : ℕ) → Placing stmts k counts parts s 0 × (pair_event x ≤ 64)
      dequeue_take s = (dequeue_placing s, omega (arith, dequeue_good.there.1, a.bare.sound.is_sized.1.0))
