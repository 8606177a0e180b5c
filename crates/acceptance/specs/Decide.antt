-- Acceptance as a test, and that the test tells, both ways.
use Rattle.std.specs.Prelude.{ℕ, ◌+◌, Bool, true, false, not, ◌&&◌, ◌||◌, List, [], ◌∷◌, eqb, leb, ltb, length}
use Rattle.std.proofs.Math.Option.{Option, none, some}
use Rattle.lists.specs.Lists.{all, is_some, there}
use Rattle.lists.specs.Tells.{Tells, both, either, form, always, never, itself, isnt, is_none, at_most_lem, less, equal, every, there_is}
use Rattle.values.specs.declared.Ty.{Ty}
use Rattle.values.specs.declared.Ty.TheVariants.{Event as event}
use Rattle.values.specs.declared.Value.{Value}
use Rattle.values.specs.declared.Value.TheVariants.{Undefined as undefined, Bool as vbool, Int as vint, Event as vevent, Id as vid}
use Rattle.values.specs.Values.{in_range, suits}
use Rattle.programs.specs.Sizes.{LIVE, STACK, QUEUE, ROW, SPENT}
use Rattle.programs.specs.Program.{Program, Variable, stmt_at, state_at, action_at, event_type, variables_of}
use Rattle.programs.specs.Statements.{is_skip, is_seq, height, serves}
use Rattle.machines.specs.Config.{Reply, action, deferred, nothing, Frame, Pending, idle, raising, returning, Pair, Local, Machine, Config}
use Rattle.machines.specs.Rooms.{find}
use Rattle.machines.specs.Queue.{waits}
use Rattle.acceptance.specs.Accepted.{ValueOk, Typed, TypedAll, PairOk, PendingOk, ReplyOk, FrameOk, PartOk, Formed, counted, Heights, RowOk, LocalOk, NoneTwice, QueueOk, RoomOk, Distinct, Accepted}

-- ACCEPTANCE, test by test
module _ (p : Program) (next : ℕ) where
  -- decides ValueOk
  abbrev pub ok_value : Value → Bool
  ok_value undefined = true
  ok_value (vbool b) = true
  ok_value (vint z) = in_range z
  ok_value (vevent e) = there (length p.events) e
  ok_value (vid i) = leb 1 i.0 && ltb i.0 next

  value_is : (v : Value) → Tells (ok_value v) (ValueOk p next v)
  value_is undefined = always
  value_is (vbool b) = always
  value_is (vint z) = itself (in_range z)
  value_is (vevent e) = there_is (length p.events) e
  value_is (vid i) = both (at_most_lem 1 i.0) (less i.0 next)

  -- decides Typed
  abbrev pub typed : Ty → Value → Bool
  typed t v = ok_value v && suits t v

  typed_is : (t : Ty) (v : Value) → Tells (typed t v) (Typed p next t v)
  typed_is t v = both (value_is v) (itself (suits t v))

  -- decides TypedAll
  abbrev pub typed_all : List Variable → List Value → Bool
  typed_all [] [] = true
  typed_all [] (v ∷ vs) = false
  typed_all (x ∷ xs) [] = false
  typed_all (x ∷ xs) (v ∷ vs) = typed x.type v && typed_all xs vs

  typed_all_is : (xs : List Variable) (vs : List Value) → Tells (typed_all xs vs) (TypedAll p next xs vs)
  typed_all_is [] [] = always
  typed_all_is [] (v ∷ vs) = never
  typed_all_is (x ∷ xs) [] = never
  typed_all_is (x ∷ xs) (v ∷ vs) = both (typed_is x.type v) (typed_all_is xs vs)

  -- decides PairOk
  abbrev pub ok_pair : Pair → Bool
  ok_pair x = there (length p.events) x.event && typed (event_type p x.event) x.value

  pair_is : (x : Pair) → Tells (ok_pair x) (PairOk p next x)
  pair_is x = both (there_is (length p.events) x.event) (typed_is (event_type p x.event) x.value)

  -- decides PendingOk
  abbrev pub ok_pending : Pending → Bool
  ok_pending idle = true
  ok_pending (raising e v) = ok_pair (record { event = e; value = v })
  ok_pending returning = true

  pending_is : (q : Pending) → Tells (ok_pending q) (PendingOk p next q)
  pending_is idle = always
  pending_is (raising e v) = pair_is (record { event = e; value = v })
  pending_is returning = always

module _ (p : Program) (k : ℕ) where
  -- decides ReplyOk
  abbrev pub ok_reply : Reply → Bool
  ok_reply (action a) = there (length p.actions) a && eqb (action_at p a).of k
  ok_reply deferred = true
  ok_reply nothing = true

  reply_is : (x : Reply) → Tells (ok_reply x) (ReplyOk p k x)
  reply_is (action a) = both (there_is (length p.actions) a) (equal (action_at p a).of k)
  reply_is deferred = always
  reply_is nothing = always

  -- decides FrameOk
  abbrev pub ok_frame : Frame → Bool
  ok_frame f = there (length p.states) f.state && (eqb (state_at p f.state).of k && (eqb (length f.map) (length p.events) && all ok_reply f.map))

  frame_is : (f : Frame) → Tells (ok_frame f) (FrameOk p k f)
  frame_is f = form (both (there_is (length p.states) f.state) (both (equal (state_at p f.state).of k) (both (equal (length f.map) (length p.events)) (every f.map reply_is))))
      (λ h. record { there = h.0; suited = h.1.0; each_event = h.1.1.0; replies = h.1.1.1 }) (λ h. (h.there, (h.suited, (h.each_event, h.replies))))

  -- decides PartOk
  abbrev pub ok_part : ℕ → Bool
  ok_part s = eqb s 0 || (there (length p.stmts) s && serves p k s)

  part_is : (s : ℕ) → Tells (ok_part s) (PartOk p k s)
  part_is s = either (equal s 0) (both (there_is (length p.stmts) s) (itself (serves p k s)))

-- decides NoSeq
abbrev pub no_seq : Program → ℕ → Bool
no_seq p s = not (is_some (is_seq (stmt_at p s)))

-- decides Formed
abbrev pub formed : Program → List ℕ → Pending → Bool
formed p [] q = true
formed p (s ∷ t ∷ r) q = no_seq p s
formed p (s ∷ []) idle = no_seq p s && not (is_skip (stmt_at p s))
formed p (s ∷ []) (raising e v) = no_seq p s
formed p (s ∷ []) returning = no_seq p s

formed_is : (p : Program) (r : List ℕ) (q : Pending) → Tells (formed p r q) (Formed p r q)
formed_is p [] q = always
formed_is p (s ∷ t ∷ r) q = is_none (is_seq (stmt_at p s))
formed_is p (s ∷ []) idle = both (is_none (is_seq (stmt_at p s))) (isnt (is_skip (stmt_at p s)))
formed_is p (s ∷ []) (raising e v) = is_none (is_seq (stmt_at p s))
formed_is p (s ∷ []) returning = is_none (is_seq (stmt_at p s))

-- decides Heights
abbrev pub ok_heights : Program → ℕ → List ℕ → Bool
ok_heights p q [] = true
ok_heights p q (s ∷ r) = leb (height p s + (length r + q)) ROW && ok_heights p q r

heights_are : (p : Program) (q : ℕ) (r : List ℕ) → Tells (ok_heights p q r) (Heights p q r)
heights_are p q [] = always
heights_are p q (s ∷ r) = both (at_most_lem (height p s + (length r + q)) ROW) (heights_are p q r)

-- decides RowOk
abbrev pub ok_row : Program → ℕ → List ℕ → Pending → Bool
ok_row p k r q = all (ok_part p k) r && (formed p r q && ok_heights p (counted q) r)

row_is : (p : Program) (k : ℕ) (r : List ℕ) (q : Pending) → Tells (ok_row p k r q) (RowOk p k r q)
row_is p k r q = form (both (every r (part_is p k)) (both (formed_is p r q) (heights_are p (counted q) r)))
    (λ h. record { suited = h.0; formed = h.1.0; heights = h.1.1 }) (λ h. (h.suited, (h.formed, h.heights)))

-- decides LocalOk
abbrev pub ok_local : Program → ℕ → Local → Bool
ok_local p next l = there p.machines l.kind && (leb (length l.stack) STACK && (all (ok_frame p l.kind) l.stack && (typed_all p next (variables_of p l.kind) l.variables
    && (typed p next event l.msg && (ok_value p next l.arg && (ok_row p l.kind l.row l.pending && ok_pending p next l.pending))))))

local_is : (p : Program) (next : ℕ) (l : Local) → Tells (ok_local p next l) (LocalOk p next l)
local_is p next l = form
    (both (there_is p.machines l.kind) (both (at_most_lem (length l.stack) STACK) (both (every l.stack (frame_is p l.kind)) (both (typed_all_is p next (variables_of p l.kind) l.variables)
    (both (typed_is p next event l.msg) (both (value_is p next l.arg) (both (row_is p l.kind l.row l.pending) (pending_is p next l.pending))))))))
    (λ h. record { kind_there = h.0; depth = h.1.0; frames = h.1.1.0; vars = h.1.1.1.0; msg_ok = h.1.1.1.1.0; arg_ok = h.1.1.1.1.1.0; row_ok = h.1.1.1.1.1.1.0; pending_ok = h.1.1.1.1.1.1.1 })
    (λ h. (h.kind_there, (h.depth, (h.frames, (h.vars, (h.msg_ok, (h.arg_ok, (h.row_ok, h.pending_ok))))))))

-- decides NoneTwice
abbrev pub none_twice : List Pair → Bool
none_twice [] = true
none_twice (x ∷ q) = not (waits x q) && none_twice q

none_twice_is : (q : List Pair) → Tells (none_twice q) (NoneTwice q)
none_twice_is [] = always
none_twice_is (x ∷ q) = both (isnt (waits x q)) (none_twice_is q)

-- decides QueueOk
abbrev pub ok_queue : Program → ℕ → List Pair → Bool
ok_queue p next q = leb (length q) QUEUE && (all (ok_pair p next) q && none_twice q)

queue_is : (p : Program) (next : ℕ) (q : List Pair) → Tells (ok_queue p next q) (QueueOk p next q)
queue_is p next q = form (both (at_most_lem (length q) QUEUE) (both (every q (pair_is p next)) (none_twice_is q)))
    (λ h. record { size = h.0; pairs = h.1.0; once = h.1.1 }) (λ h. (h.size, (h.pairs, h.once)))

-- decides RoomOk
abbrev pub ok_room : Program → ℕ → Option Machine → Bool
ok_room p next none = true
ok_room p next (some m) = leb 1 m.this && (ltb m.this next && (ok_local p next m.loc && ok_queue p next m.queue))

room_is : (p : Program) (next : ℕ) (o : Option Machine) → Tells (ok_room p next o) (RoomOk p next o)
room_is p next none = always
room_is p next (some m) = form (both (at_most_lem 1 m.this) (both (less m.this next) (both (local_is p next m.loc) (queue_is p next m.queue))))
    (λ h. record { low = h.0; high = h.1.0; loc_ok = h.1.1.0; queue_ok = h.1.1.1 }) (λ h. (h.low, (h.high, (h.loc_ok, h.queue_ok))))

-- decides Distinct
abbrev pub distinct : List (Option Machine) → Bool
distinct [] = true
distinct (none ∷ rs) = distinct rs
distinct (some m ∷ rs) = not (is_some (find m.this rs)) && distinct rs

distinct_is : (rs : List (Option Machine)) → Tells (distinct rs) (Distinct rs)
distinct_is [] = always
distinct_is (none ∷ rs) = distinct_is rs
distinct_is (some m ∷ rs) = both (is_none (find m.this rs)) (distinct_is rs)

-- decides Accepted: THE TEST
unfoldable pub accepted : Program → Config → Bool
accepted p c = eqb (length c.rooms) LIVE && (all (ok_room p c.next) c.rooms && (distinct c.rooms && (leb 1 c.next && leb c.next SPENT)))

-- THE TEST TELLS
pub accepted_is : (p : Program) (c : Config) → Tells (accepted p c) (Accepted p c)
unfolding accepted
accepted_is p c = form (both (equal (length c.rooms) LIVE) (both (every c.rooms (room_is p c.next)) (both (distinct_is c.rooms) (both (at_most_lem 1 c.next) (at_most_lem c.next SPENT)))))
    (λ h. record { rooms_32 = h.0; each_room = h.1.0; distinct = h.1.1.0; next_low = h.1.1.1.0; next_high = h.1.1.1.1 })
    (λ h. (h.rooms_32, (h.each_room, (h.distinct, (h.next_low, h.next_high)))))
