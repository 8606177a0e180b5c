-- What is seen of a text: its refusal, or its run down to the last configuration; and short names for writing a configuration down.
use Rattle.std.specs.Prelude.{ℕ, ◌-◌, List, ◌++◌, length, replicate}
use Rattle.std.proofs.Math.Option.{Option, none, some}
use Rattle.answers.specs.declared.Answer.{Answer}
use Rattle.values.specs.declared.Value.{Value}
use Rattle.runs.specs.Run.{Ended, place, run, ruled}
use Rattle.machines.specs.Config.{Reply, Frame, Pending, Pair, Machine, Config}
use Rattle.rules.specs.declared.Rule.{Rule}
use Rattle.rules.specs.Step.{step, start_config}
use Rattle.texts.specs.Reading.{Result, loaded, refused}
use Rattle.texts.specs.Answered.{answered}

pub data Seen : Type 0 where
  refused_text : Answer → ℕ → Seen  -- with its line
  ran_text : List Rule → Answer → ℕ → ℕ → Config → Seen  -- the rules in order, the answer, the place, the steps, the last configuration

abbrev ran : List Rule → Ended Config → Seen
ran rs e = ran_text rs e.answer (place e) e.steps e.config

abbrev seen_of : Result → Seen
seen_of (refused a k) = refused_text a k
seen_of (loaded p l) = ran (ruled (step p) (start_config p) l) (run (step p) (start_config p) l)

-- from the bytes of a text to all that its run shows
unfoldable pub seen : List ℕ → Seen
seen t = seen_of (answered t)

-- a state and its map
abbrev pub frame : ℕ → List Reply → Frame
frame n α = record { state = n; map = α }

-- what waits in a queue
abbrev pub pair : ℕ → Value → Pair
pair e v = record { event = e; value = v }

-- a live machine: its number, its kind, the stack, the variables, msg, arg, the row, what is pending, the queue
abbrev pub machine : ℕ → ℕ → List Frame → List Value → Value → Value → List ℕ → Pending → List Pair → Option Machine
machine i k γ vs m a r q xs = some (record { this = i; loc = record { kind = k; stack = γ; variables = vs; msg = m; arg = a; row = r; pending = q }; queue = xs })

-- the rooms and the next live number; the rooms behind those given are free, 32 in all
abbrev pub config : List (Option Machine) → ℕ → Config
config rs n = record { rooms = rs ++ replicate (32 - length rs) none; next = n }
