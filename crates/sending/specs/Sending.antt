-- SEND as the definitions have it: where the pair goes, and what is left where it does not.
use Rattle.std.specs.Prelude.{ℕ, ◌≤◌, ◌≡◌, refl, true, false, List, map, length, get_or, Ok, Err}
use Rattle.std.proofs.Common.{ap, sym, ◌∙◌}
use Rattle.std.proofs.Math.Option
use Rattle.std.proofs.Math.Option.{Option, none, some}
use Rattle.std.proofs.Math.ListN.{get_or-map}
use Rattle.answers.specs.declared.Answer.TheVariants.{QueueFull, SendToNotLive, WrongType}
use Rattle.programs.specs.Program.{Program}
use Rattle.soundness.specs.Sound.{Sound}
use Rattle.machines.specs.Config.{Pair, Local, Machine, Config}
use Rattle.machines.specs.Queue.{put}
use Rattle.machines.specs.Rooms.{find, set_local, set_queue, on, with_local, with_queue}
use Rattle.machines.specs.RoomLaws.{keeps_local, on_loc_queue}
use Rattle.rules.specs.declared.Rule.TheVariants.{SEND}
use Rattle.rules.specs.Act.{sends}
use Rattle.rules.specs.Step as definition
use Rattle.acceptance.specs.Accepted.{PairOk}
use Rattle.configs.specs.Decode.{pair_of}
use Rattle.configs.specs.Encode.{pair_number, taken, room_code, written}
use Rattle.configs.specs.declared.Flat.{Flat}
use Rattle.configs.specs.Flat.{room_at, held}
use Rattle.queues.specs.Queues as queues
use Rattle.queues.specs.Queues.{queue_at, Put, put_done, put_refused}
use Rattle.engine.specs.Engine.{Changed, Performed}
use Rattle.remaining.specs.Held.{with_row}
use Rattle.kept.specs.Kept.{distinct_each}
use Rattle.rooms.specs.Places.{on_set}
use Rattle.rooms.specs.Standing.{Lives, lives_found, lives_taken, lives_ok, room_is, changed_written, local_written}
use Rattle.sending.specs.Waiting.{with_queues, number_put, number_refused, queue_is, queue_fine, queue_changed}

-- the lists after a send: another row of the sender's, and another queue
abbrev pub with_sent : Flat → List ℕ → List ℕ → List ℕ → List ℕ → Flat
with_sent f counts parts waiting pairs = with_queues (with_row f counts parts) waiting pairs

module _ (p : Program) (sound : Sound p) (f : Flat) (c : Config) (k : ℕ) (m : Machine) (from : Lives p f c k m) where
  -- 12: the target is not live
  pub sent_not_live : (i : ℕ) (x : Option Pair) (l : Local) → find i c.rooms ≡ none → Performed f (definition.perform p c m.this m (sends i x l)) (Err SendToNotLive) f
  sent_not_live i x l e = rw e (refl, refl)

  module _ (j : ℕ) (n : Machine) (to : Lives p f c j n) where
    -- 15: the payload does not suit
    pub sent_wrong : (x : Option Pair) (l : Local) → x ≡ none → Performed f (definition.perform p c m.this m (sends n.this x l)) (Err WrongType) f
    sent_wrong x l e = rw (lives_found p f c j n to, e) (refl, refl)

    -- the pair y, which suits
    module _ (y : Pair) (fine : PairOk p c.next y) (l : Local) (waiting pairs : List ℕ) where
      -- the target's queue has 16 places,
      ready : queues.QueueOk f.pairs f.waiting j
      ready = queue_fine f j n to.sized to.room (lives_taken p f c j n to) (lives_ok p f c j n to).queue_ok.size

      -- and its pairs' numbers wait there
      waits : queue_at f.pairs f.waiting j ≡ map pair_number n.queue
      waits = queue_is f j n to.sized to.room (lives_taken p f c j n to) (lives_ok p f c j n to).queue_ok.size

      -- 16: the queue is full
      pub sent_full : Put f.pairs f.waiting j (pair_number y) false pairs waiting
          → Performed f (definition.perform p c m.this m (sends n.this (some y) l)) (Err QueueFull) (with_queues f waiting pairs)
      sent_full h =
          let d = put_refused f.pairs f.waiting j pairs waiting ready (pair_number y) h in
          let e : put n.queue y ≡ none =
          number_refused p c.next sound to.accepted.next_high n.queue y (lives_ok p f c j n to).queue_ok.pairs fine (rw waits at d.0) in
          rw (lives_found p f c j n to, e) (refl, λ t. with_queues f (d.1.1 t) (d.1.0 t))

      -- THE PAIR GOES TO THE QUEUE, and the sender moves on
      module _ (counts parts : List ℕ) (moved : Changed f k (set_local l m) (with_row f counts parts)) where
        -- the target, after the sender moved on: the same but where it is the sender
        abbrev target : Machine
        target = on m.this (set_local l) n

        -- where it stands
        stays : get_or (with_local m.this l c).rooms j none ≡ some target
        stays = get_or-map (Option.map (on m.this (set_local l))) c.rooms j none ∙ ap (Option.map (on m.this (set_local l))) to.place

        -- the configuration after the sender moved on
        moves : held (with_row f counts parts) ≡ written (with_local m.this l c)
        moves = local_written p f c k m from (Ok SEND) (with_row f counts parts) l moved

        -- its room
        room : room_at (with_row f counts parts) j ≡ taken target
        room = room_is (with_row f counts parts) (with_local m.this l c) moves j to.room ∙ ap room_code stays

        -- the queue q of it
        queued : (q : List Pair) → Changed (with_row f counts parts) j (set_queue q target) (with_sent f counts parts waiting pairs)
            → held (with_sent f counts parts waiting pairs) ≡ written (with_queue n.this q (with_local m.this l c))
        queued q d = changed_written (with_row f counts parts) (with_local m.this l c) moves (with_sent f counts parts waiting pairs) j (set_queue q target) to.room d
            ∙ ap (λ (rs : List (Option Machine)). written (record { rooms = rs; next = c.next }))
            (sym (on_set (set_queue q) (with_local m.this l c).rooms j target
            (distinct_each (on m.this (set_local l)) (keeps_local m.this l) c.rooms to.accepted.distinct) stays))
            ∙ ap (λ (i : ℕ). written (with_queue i q (with_local m.this l c))) (keeps_local m.this l n)

        pub sent_done : Put f.pairs f.waiting j (pair_number y) true pairs waiting
            → Performed f (definition.perform p c m.this m (sends n.this (some y) l)) (Ok SEND) (with_sent f counts parts waiting pairs)
        sent_done h =
            let d = put_done f.pairs f.waiting j pairs waiting ready (pair_number y) h in
            let e = number_put p c.next sound to.accepted.next_high n.queue y (lives_ok p f c j n to).queue_ok.pairs fine d.0 (rw waits at d.1.0) in
            let small : length target.queue ≤ 16 = rw (on_loc_queue m.this l n) (lives_ok p f c j n to).queue_ok.size in
            let g = queue_changed (with_row f counts parts) j target moved.sized to.room room small (map pair_of d.0) d.0 waiting pairs d.1.1 e.1 in
            rw (lives_found p f c j n to, e.0) (refl, (g.sized, queued (map pair_of d.0) g))
