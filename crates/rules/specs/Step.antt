-- THE SECOND STOREY. What an act does to the rooms, the queues and the numbers; the step; the run.
use Rattle.std.specs.Prelude.{ℕ, suc, ◌-◌, cond, List, [], ◌∷◌, map, ltb, replicate}
use Rattle.std.proofs.Math.Option
use Rattle.std.proofs.Math.Option.{Option, none, some}
use Rattle.lists.specs.Lists.{on_opt}
use Rattle.answers.specs.declared.Answer.TheVariants.{NoRoom, QueueFull, SendToNotLive, UnableToStep, WrongType}
use Rattle.programs.specs.Sizes.{LIVE, SPENT}
use Rattle.programs.specs.Program.{Program}
use Rattle.runs.specs.Outcome.{Out, took, refused}
use Rattle.machines.specs.Config.{Frame, raising, Pair, Local, Machine, Config, Choice}
use Rattle.machines.specs.Locals.{remains, told, created, blank}
use Rattle.machines.specs.Maps.{exit_or_skip}
use Rattle.machines.specs.Rooms.{find, fill, with_local, with_queue, without, born}
use Rattle.machines.specs.Queue.{put, pull}
use Rattle.rules.specs.declared.Rule.{Rule}
use Rattle.rules.specs.declared.Rule.TheVariants.{NEW, DELETE, SEND, DEQUEUE}
use Rattle.rules.specs.Act.{Act, alone, creates, deletes, sends, dequeues, refuses, act}

-- what a choice gives
abbrev pub Outcome : Type 0
Outcome = Out Config Rule

module _ (p : Program) where
  -- DEQUEUE of the local part l from the queue q: msg and arg, Exit or skip, the pending raise; and the queue that is left
  abbrev pub taken : Local → Frame → Pair × List Pair → Local × List Pair
  taken l f t = (remains p (exit_or_skip p f.state f.map t.0.event ∷ []) (raising t.0.event t.0.value) (told t.0.event t.0.value l), t.1)

  -- DEQUEUE in the state on top of the stack
  abbrev pub takes : Local → List Frame → List Pair → Option (Local × List Pair)
  takes l [] q = none
  takes l (f ∷ γ) q = Option.map (taken l f) (pull p f.state f.map q)

  -- What the act of machine i, which is m, does. "then 16 to 18"
  abbrev pub perform : Config → ℕ → Machine → Act → Outcome
  perform c i m (alone R l) = took R (with_local i l c)
  perform c i m (creates f l) = cond (ltb c.next SPENT)
      (on_opt (fill (born c l) (with_local i (f c.next) c).rooms) (refused NoRoom) (λ rs. took NEW (record { rooms = rs; next = suc c.next })))
      (refused NoRoom)
  perform c i m deletes = took DELETE (without i c)
  -- "SEND to oneself, unlike the printed rule, both moves on and queues."
  perform c i m (sends t x l) = on_opt (find t c.rooms) (refused SendToNotLive) (λ n. on_opt x (refused WrongType) (λ x'. on_opt (put n.queue x') (refused QueueFull)
      (λ q. took SEND (with_queue t q (with_local i l c)))))
  perform c i m dequeues = on_opt (takes m.loc m.loc.stack m.queue) (refused UnableToStep) (λ t. took DEQUEUE (with_queue i t.1 (with_local i t.0 c)))
  perform c i m (refuses a) = refused a

  -- THE STEP
  unfoldable pub step : Config → Choice → Outcome
  step c x = on_opt (find x.machine c.rooms) (refused UnableToStep) (λ m. perform c x.machine m (act p x.machine m.loc x.bits))

  -- The start configuration: one machine of the start's kind, live number 1, in the first room.
  unfoldable pub start_config : Config
  start_config = record {
    rooms = some (record { this = 1; loc = created p p.start (blank p p.start); queue = [] }) ∷ replicate (LIVE - 1) none;
    next = 2;
  }
