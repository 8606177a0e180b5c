-- Document 01, "A configuration": "A configuration is accepted when ...".
use Rattle.std.specs.Prelude.{ℕ, ◌+◌, ◌≤◌, ◌<◌, ◌≡◌, ◌⊎◌, true, false, List, [], ◌∷◌, length}
use Rattle.std.proofs.Math.Option.{Option, none, some}
use Rattle.lists.specs.Lists.{All, There}
use Rattle.values.specs.declared.Ty.{Ty}
use Rattle.values.specs.declared.Ty.TheVariants.{Event as event}
use Rattle.values.specs.declared.Value.{Value}
use Rattle.values.specs.declared.Value.TheVariants.{Undefined as undefined, Bool as vbool, Int as vint, Event as vevent, Id as vid}
use Rattle.values.specs.Values.{in_range, suits}
use Rattle.programs.specs.Sizes.{LIVE, STACK, QUEUE, ROW, SPENT}
use Rattle.programs.specs.Program.{Program, Variable, stmt_at, state_at, action_at, event_type, variables_of}
use Rattle.programs.specs.Statements.{is_skip, is_seq, height, serves}
use Rattle.machines.specs.Config.{Reply, action, deferred, nothing, Frame, Pending, idle, raising, returning, Pair, Local, Machine, Config}
use Rattle.machines.specs.Rooms.{find}
use Rattle.machines.specs.Queue.{waits}

-- A CONFIGURATION, of program p, with the next live number `next`
module _ (p : Program) (next : ℕ) where
  -- a value at all: "all id values are from 1 and below the next one"
  abbrev pub ValueOk : Value → Type 0
  ValueOk undefined = Unit {0}
  ValueOk (vbool b) = Unit {0}
  ValueOk (vint z) = in_range z ≡ true
  ValueOk (vevent e) = There (length p.events) e
  ValueOk (vid i) = (1 ≤ i.0) × (i.0 < next)

  -- "values are undefined or of their type"
  abbrev pub Typed : Ty → Value → Type 0
  Typed t v = ValueOk v × (suits t v ≡ true)

  -- a value for each variable
  abbrev pub TypedAll : List Variable → List Value → Type 0
  TypedAll [] [] = Unit {0}
  TypedAll [] (v ∷ vs) = ⊥
  TypedAll (x ∷ xs) [] = ⊥
  TypedAll (x ∷ xs) (v ∷ vs) = Typed x.type v × TypedAll xs vs

  -- a pair: its event is there and its value of the event's type
  abbrev pub PairOk : Pair → Type 0
  PairOk x = There (length p.events) x.event × Typed (event_type p x.event) x.value

  -- "A pending raise's value is of its event's type" (readings)
  abbrev pub PendingOk : Pending → Type 0
  PendingOk idle = Unit {0}
  PendingOk (raising e v) = PairOk (record { event = e; value = v })
  PendingOk returning = Unit {0}

module _ (p : Program) (k : ℕ) where
  -- an entry of a map suits the kind: "so is any action of the kind in a map" (readings)
  abbrev pub ReplyOk : Reply → Type 0
  ReplyOk (action a) = There (length p.actions) a × ((action_at p a).of ≡ k)
  ReplyOk deferred = Unit {0}
  ReplyOk nothing = Unit {0}

  -- (n, α): the state is of the kind, the map has an entry for each event
  pub record FrameOk (f : Frame) : Type 0 where
    pub there : There (length p.states) f.state
    pub suited : (state_at p f.state).of ≡ k
    pub each_event : length f.map ≡ length p.events
    pub replies : All ReplyOk f.map

  -- "A row part suits a kind when it is 0 or serves that kind" (readings)
  abbrev pub PartOk : ℕ → Type 0
  PartOk s = (s ≡ 0) ⊎ (There (length p.stmts) s × (serves p k s ≡ true))

-- "no row begins with [a seq]; a lone skip with nothing pending is kept as the empty row"
abbrev pub NoSeq : Program → ℕ → Type 0
NoSeq p s = is_seq (stmt_at p s) ≡ none

-- both rules of form
abbrev pub Formed : Program → List ℕ → Pending → Type 0
Formed p [] q = Unit {0}
Formed p (s ∷ t ∷ r) q = NoSeq p s
Formed p (s ∷ []) idle = NoSeq p s × (is_skip (stmt_at p s) ≡ false)
Formed p (s ∷ []) (raising e v) = NoSeq p s
Formed p (s ∷ []) returning = NoSeq p s

-- "for each part, height plus parts behind it, a pending one counted, is at most 33"
abbrev pub counted : Pending → ℕ
counted idle = 0
counted (raising e v) = 1
counted returning = 1

-- of each part, with those behind it
abbrev pub Heights : Program → ℕ → List ℕ → Type 0
Heights p q [] = Unit {0}
Heights p q (s ∷ r) = (height p s + (length r + q) ≤ ROW) × Heights p q r

-- a row with what is pending
pub record RowOk (p : Program) (k : ℕ) (r : List ℕ) (q : Pending) : Type 0 where
  pub suited : All (PartOk p k) r
  pub formed : Formed p r q
  pub heights : Heights p (counted q) r

-- a local part
pub record LocalOk (p : Program) (next : ℕ) (l : Local) : Type 0 where
  pub kind_there : There p.machines l.kind
  pub depth : length l.stack ≤ STACK
  pub frames : All (FrameOk p l.kind) l.stack
  pub vars : TypedAll p next (variables_of p l.kind) l.variables
  pub msg_ok : Typed p next event l.msg
  pub arg_ok : ValueOk p next l.arg  -- "(`arg`, of any)"
  pub row_ok : RowOk p l.kind l.row l.pending
  pub pending_ok : PendingOk p next l.pending

-- "no queue holds a pair twice"
abbrev pub NoneTwice : List Pair → Type 0
NoneTwice [] = Unit {0}
NoneTwice (x ∷ q) = (waits x q ≡ false) × NoneTwice q

-- a queue
pub record QueueOk (p : Program) (next : ℕ) (q : List Pair) : Type 0 where
  pub size : length q ≤ QUEUE
  pub pairs : All (PairOk p next) q
  pub once : NoneTwice q

-- "`this` is the machine's own number" (there is no other), "from 1 and below the next one"
pub record MachineOk (p : Program) (next : ℕ) (m : Machine) : Type 0 where
  pub low : 1 ≤ m.this
  pub high : m.this < next
  pub loc_ok : LocalOk p next m.loc
  pub queue_ok : QueueOk p next m.queue

-- a room: free, or with an accepted machine
abbrev pub RoomOk : Program → ℕ → Option Machine → Type 0
RoomOk p next none = Unit {0}
RoomOk p next (some m) = MachineOk p next m

-- "live numbers are distinct"
abbrev pub Distinct : List (Option Machine) → Type 0
Distinct [] = Unit {0}
Distinct (none ∷ rs) = Distinct rs
Distinct (some m ∷ rs) = (find m.this rs ≡ none) × Distinct rs

-- ACCEPTED
pub record Accepted (p : Program) (c : Config) : Type 0 where
  pub rooms_32 : length c.rooms ≡ LIVE
  pub each_room : All (RoomOk p c.next) c.rooms
  pub distinct : Distinct c.rooms
  pub next_low : 1 ≤ c.next
  pub next_high : c.next ≤ SPENT
