-- Document 002's printed rules as a relation, one constructor for each under its printed name, with document 01's deviations marked (01); and
-- the refusals, the printed error transitions among them. Match.antt proves that the step takes exactly these.
use Rattle.std.specs.Prelude.{ℕ, suc, ◌≡◌, ◌⊎◌, Bool, true, false, List, [], ◌∷◌, ◌++◌, ltb, length}
use Rattle.std.proofs.Math.Option.{Option, none, some}
use Rattle.lists.specs.Lists.{All}
use Rattle.answers.specs.declared.Answer.{Answer}
use Rattle.answers.specs.declared.Answer.TheVariants.{AssertionFalse, NoRoom, NotABool, NotAccepted, QueueFull, SendToNotLive, SendToUndefined, StackEmpty, StackFull, UnableToStep, WrongType}
use Rattle.values.specs.declared.Value.{Value}
use Rattle.values.specs.declared.Value.TheVariants.{Undefined as undefined, Bool as vbool}
use Rattle.values.specs.Values.{suits, id_of}
use Rattle.values.specs.declared.Ty.TheVariants.{Event as event}
use Rattle.programs.specs.Sizes.{STACK, SPENT}
use Rattle.programs.specs.Program.{Program, Stmt, skip, assign, new, delete, send, raise, leave, return, assert, seq, if, while, stmt_at, variable_at, event_type, Entry, Exit, Body, Step, Call, ActionOf}
use Rattle.programs.specs.Trees.{tree, stars}
use Rattle.machines.specs.Config.{Frame, Pending, idle, raising, returning, Pair, Machine, Config}
use Rattle.machines.specs.Eval.{eval}
use Rattle.machines.specs.Locals.{remains, moves_on, sets, told, stacked, created, blank}
use Rattle.machines.specs.Maps.{is_action, entry_at, Pop, exit_or_skip, call_map, held_back}
use Rattle.machines.specs.Rooms.{find, with_local, with_queue, without, born, fill}
use Rattle.machines.specs.Queue.{put}
use Rattle.rules.specs.declared.Rule.{Rule}
use Rattle.rules.specs.Act.{inits}

-- M[id] = ((n, α) · γ, σ, S[t], q): machine i is m, (n, α) tops its stack, statement s, which is t, is at the head of its row, and r is behind.
-- (01: a rule is for a machine with a stack; an empty one is POP-FAIL before all else.)
pub record At (p : Program) (c : Config) (i : ℕ) (m : Machine) (f : Frame) (γ : List Frame) (s : ℕ) (r : List ℕ) (t : Stmt) : Type 0 where
  pub found : find i c.rooms ≡ some m
  pub top : m.loc.stack ≡ f ∷ γ
  pub head : m.loc.row ≡ s ∷ r
  pub is : stmt_at p s ≡ t

-- M[id] = ((n, α) · γ, σ, q, ..): the same with an empty row and q pending; for q idle the remaining statement is skip
pub record Bare (c : Config) (i : ℕ) (m : Machine) (f : Frame) (γ : List Frame) (q : Pending) : Type 0 where
  pub found : find i c.rooms ≡ some m
  pub top : m.loc.stack ≡ f ∷ γ
  pub empty : m.loc.row ≡ []
  pub rest : m.loc.pending ≡ q

-- M —→ M' by a rule of machine i under the choice's bits w
pub data Takes (p : Program) (c : Config) (i w : ℕ) : Rule → Config → Type 0 where
  ASSIGN : {m : Machine} {f : Frame} {γ : List Frame} {s x e : ℕ} {r : List ℕ} {v : Value} →
      At p c i m f γ s r (assign x e) → eval p i m.loc w 0 e ≡ v →
      suits (variable_at p x).type v ≡ true →  -- 01: else 15
      Takes p c i w Rule.ASSIGN (with_local i (moves_on p r (sets p x v m.loc)) c)
  NEW : {m : Machine} {f : Frame} {γ : List Frame} {s x k : ℕ} {is : List (ℕ × ℕ)} {r : List ℕ} {vs : List Value} {rs : List (Option Machine)} →
      At p c i m f γ s r (new x k is) → inits p i m.loc w k is 0 (blank p k) ≡ some vs →
      ltb c.next SPENT ≡ true →  -- 01: "or live numbers spent", else 18
      fill (born c (created p k vs)) (with_local i (moves_on p r (sets p x (id_of c.next) m.loc)) c).rooms ≡ some rs →  -- 01: the lowest free room
      Takes p c i w Rule.NEW (record { rooms = rs; next = suc c.next })
  DELETE : {m : Machine} {f : Frame} {γ : List Frame} {s : ℕ} {r : List ℕ} → At p c i m f γ s r delete → Takes p c i w Rule.DELETE (without i c)
  ASSERT-PASS : {m : Machine} {f : Frame} {γ : List Frame} {s e : ℕ} {r : List ℕ} →
      At p c i m f γ s r (assert e) → eval p i m.loc w 0 e ≡ vbool true → Takes p c i w Rule.ASSERT (with_local i (moves_on p r m.loc) c)
  SEQ : {m : Machine} {f : Frame} {γ : List Frame} {s : ℕ} {r : List ℕ} →
      At p c i m f γ s r skip → Takes p c i w Rule.SEQ (with_local i (remains p r m.loc.pending m.loc) c)
  IF-THEN : {m : Machine} {f : Frame} {γ : List Frame} {s e a b : ℕ} {r : List ℕ} →
      At p c i m f γ s r (if e a b) → eval p i m.loc w 0 e ≡ vbool true →
      Takes p c i w Rule.IF (with_local i (remains p (a ∷ r) m.loc.pending m.loc) c)
  IF-ELSE : {m : Machine} {f : Frame} {γ : List Frame} {s e a b : ℕ} {r : List ℕ} →
      At p c i m f γ s r (if e a b) → eval p i m.loc w 0 e ≡ vbool false →
      Takes p c i w Rule.IF (with_local i (remains p (b ∷ r) m.loc.pending m.loc) c)
  WHILE-ITERATE : {m : Machine} {f : Frame} {γ : List Frame} {s e a : ℕ} {r : List ℕ} →
      At p c i m f γ s r (while e a) → eval p i m.loc w 0 e ≡ vbool true →
      Takes p c i w Rule.WHILE (with_local i (remains p (a ∷ s ∷ r) m.loc.pending m.loc) c)
  WHILE-DONE : {m : Machine} {f : Frame} {γ : List Frame} {s e a : ℕ} {r : List ℕ} →
      At p c i m f γ s r (while e a) → eval p i m.loc w 0 e ≡ vbool false → Takes p c i w Rule.WHILE (with_local i (moves_on p r m.loc) c)
  SEND : {m m' : Machine} {f : Frame} {γ : List Frame} {s t e a i' : ℕ} {r : List ℕ} {v : Value} {q : List Pair} →
      At p c i m f γ s r (send t e a) → eval p i m.loc w 0 t ≡ id_of i' → find i' c.rooms ≡ some m' →
      eval p i m.loc w (stars (tree p t)) a ≡ v → suits (event_type p e) v ≡ true →  -- 01: else 15
      put m'.queue (record { event = e; value = v }) ≡ some q →  -- q' ⊙ (e, v) (01: none where the queue is full)
      Takes p c i w Rule.SEND (with_queue i' q (with_local i (moves_on p r m.loc) c))  -- 01: to oneself too
  RAISE : {m : Machine} {f : Frame} {γ : List Frame} {s e a : ℕ} {r : List ℕ} {v : Value} →
      At p c i m f γ s r (raise e a) → eval p i m.loc w 0 a ≡ v →
      suits (event_type p e) v ≡ true →  -- 01: else 15
      Takes p c i w Rule.RAISE (with_local i (remains p (exit_or_skip p f.state f.map e ∷ []) (raising e v) (told e v m.loc)) c)
  LEAVE : {m : Machine} {f : Frame} {γ : List Frame} {s : ℕ} {r : List ℕ} →
      At p c i m f γ s r leave → Takes p c i w Rule.LEAVE (with_local i (remains p [] idle m.loc) c)
  RETURN : {m : Machine} {f : Frame} {γ : List Frame} {s : ℕ} {r : List ℕ} →
      At p c i m f γ s r return → Takes p c i w Rule.RETURN (with_local i (remains p (Exit p f.state ∷ []) returning m.loc) c)
  DEQUEUE : {m : Machine} {f : Frame} {γ : List Frame} (q₁ q₂ : List Pair) (e : ℕ) (v : Value) →
      Bare c i m f γ idle → m.queue ≡ q₁ ++ record { event = e; value = v } ∷ q₂ →
      All (λ x. held_back p f.state f.map x.event ≡ true) q₁ → held_back p f.state f.map e ≡ false →
      Takes p c i w Rule.DEQUEUE (with_queue i (q₁ ++ q₂) (with_local i (remains p (exit_or_skip p f.state f.map e ∷ []) (raising e v) (told e v m.loc)) c))
  STEP : {m : Machine} {f : Frame} {γ : List Frame} {e n' : ℕ} {v : Value} →
      Bare c i m f γ (raising e v) → Step p f.state e ≡ some n' →
      Takes p c i w Rule.STEP (with_local i (remains p (Entry p n' ∷ []) idle (stacked (record { state = n'; map = f.map } ∷ γ) m.loc)) c)
  ACTION : {m : Machine} {f : Frame} {γ : List Frame} {e a : ℕ} {v : Value} →
      Bare c i m f γ (raising e v) → Step p f.state e ≡ none → Call p f.state e ≡ none →  -- Trans(m, n, e) = ⊥
      ((is_action (entry_at f.map e) ≡ some a) × (ActionOf p f.state e ≡ none)) ⊎ (ActionOf p f.state e ≡ some a) →
      Takes p c i w Rule.ACTION (with_local i (remains p (Body p a ∷ []) idle m.loc) c)
  CALL : {m : Machine} {f : Frame} {γ : List Frame} {e n' : ℕ} {v : Value} →
      Bare c i m f γ (raising e v) → Call p f.state e ≡ some n' →
      Step p f.state e ≡ none →  -- 01: "step, call, ..": no state has both (answer 6)
      ltb (length (f ∷ γ)) STACK ≡ true →  -- 01: else 17
      Takes p c i w Rule.CALL (with_local i (remains p (Entry p n' ∷ []) idle
      (stacked (record { state = n'; map = call_map p f.state f.map } ∷ f ∷ γ) m.loc)) c)
  POP1 : {m : Machine} {f : Frame} {γ : List Frame} {e : ℕ} {v : Value} →
      Bare c i m f γ (raising e v) → Pop p f.state f.map e ≡ true →
      Takes p c i w Rule.POP1 (with_local i (remains p [] (raising e v) (stacked γ m.loc)) c)
  POP2 : {m : Machine} {f : Frame} {γ : List Frame} →
      Bare c i m f γ returning → Takes p c i w Rule.POP2 (with_local i (remains p [] idle (stacked γ m.loc)) c)

-- not a bool
abbrev pub NoBool : Value → Type 0
NoBool v = (b : Bool) → v ≡ vbool b → ⊥

-- no id
abbrev pub NoId : Value → Type 0
NoId v = (i : ℕ) → v ≡ id_of i → ⊥

-- M —→ error, and document 01's further answers
pub data Fails (p : Program) (c : Config) (i w : ℕ) : Answer → Type 0 where
  ASSERT-FAIL : {m : Machine} {f : Frame} {γ : List Frame} {s e : ℕ} {r : List ℕ} →
      At p c i m f γ s r (assert e) → eval p i m.loc w 0 e ≡ vbool false → Fails p c i w AssertionFalse
  SEND-FAIL1 : {m : Machine} {f : Frame} {γ : List Frame} {s t e a : ℕ} {r : List ℕ} →
      At p c i m f γ s r (send t e a) → eval p i m.loc w 0 t ≡ undefined → Fails p c i w SendToUndefined
  SEND-FAIL2 : {m : Machine} {f : Frame} {γ : List Frame} {s t e a i' : ℕ} {r : List ℕ} →
      At p c i m f γ s r (send t e a) → eval p i m.loc w 0 t ≡ id_of i' → find i' c.rooms ≡ none → Fails p c i w SendToNotLive
  POP-FAIL : {m : Machine} → find i c.rooms ≡ some m → m.loc.stack ≡ [] → Fails p c i w StackEmpty
  -- "condition of if, while or assert not a bool"
  IF-14 : {m : Machine} {f : Frame} {γ : List Frame} {s e a b : ℕ} {r : List ℕ} →
      At p c i m f γ s r (if e a b) → NoBool (eval p i m.loc w 0 e) → Fails p c i w NotABool
  WHILE-14 : {m : Machine} {f : Frame} {γ : List Frame} {s e a : ℕ} {r : List ℕ} →
      At p c i m f γ s r (while e a) → NoBool (eval p i m.loc w 0 e) → Fails p c i w NotABool
  ASSERT-14 : {m : Machine} {f : Frame} {γ : List Frame} {s e : ℕ} {r : List ℕ} →
      At p c i m f γ s r (assert e) → NoBool (eval p i m.loc w 0 e) → Fails p c i w NotABool
  -- "a value neither undefined nor of the wanted type (assignment, `init`, payload, send target)"
  ASSIGN-15 : {m : Machine} {f : Frame} {γ : List Frame} {s x e : ℕ} {r : List ℕ} →
      At p c i m f γ s r (assign x e) → suits (variable_at p x).type (eval p i m.loc w 0 e) ≡ false → Fails p c i w WrongType
  INIT-15 : {m : Machine} {f : Frame} {γ : List Frame} {s x k : ℕ} {is : List (ℕ × ℕ)} {r : List ℕ} →
      At p c i m f γ s r (new x k is) → inits p i m.loc w k is 0 (blank p k) ≡ none → Fails p c i w WrongType
  TARGET-15 : {m : Machine} {f : Frame} {γ : List Frame} {s t e a : ℕ} {r : List ℕ} →
      At p c i m f γ s r (send t e a) → (eval p i m.loc w 0 t ≡ undefined → ⊥) → NoId (eval p i m.loc w 0 t) → Fails p c i w WrongType
  SEND-15 : {m m' : Machine} {f : Frame} {γ : List Frame} {s t e a i' : ℕ} {r : List ℕ} →
      At p c i m f γ s r (send t e a) → eval p i m.loc w 0 t ≡ id_of i' → find i' c.rooms ≡ some m' →
      suits (event_type p e) (eval p i m.loc w (stars (tree p t)) a) ≡ false → Fails p c i w WrongType
  RAISE-15 : {m : Machine} {f : Frame} {γ : List Frame} {s e a : ℕ} {r : List ℕ} →
      At p c i m f γ s r (raise e a) → suits (event_type p e) (eval p i m.loc w 0 a) ≡ false → Fails p c i w WrongType
  -- "queue full"
  SEND-16 : {m m' : Machine} {f : Frame} {γ : List Frame} {s t e a i' : ℕ} {r : List ℕ} {v : Value} →
      At p c i m f γ s r (send t e a) → eval p i m.loc w 0 t ≡ id_of i' → find i' c.rooms ≡ some m' →
      eval p i m.loc w (stars (tree p t)) a ≡ v → suits (event_type p e) v ≡ true → put m'.queue (record { event = e; value = v }) ≡ none → Fails p c i w QueueFull
  -- "call stack full"
  CALL-17 : {m : Machine} {f : Frame} {γ : List Frame} {e n' : ℕ} {v : Value} →
      Bare c i m f γ (raising e v) → Call p f.state e ≡ some n' → Step p f.state e ≡ none → ltb (length (f ∷ γ)) STACK ≡ false → Fails p c i w StackFull
  -- "no free room, or live numbers spent"
  ROOM-18 : {m : Machine} {f : Frame} {γ : List Frame} {s x k : ℕ} {is : List (ℕ × ℕ)} {r : List ℕ} {vs : List Value} →
      At p c i m f γ s r (new x k is) → inits p i m.loc w k is 0 (blank p k) ≡ some vs → ltb c.next SPENT ≡ true →
      fill (born c (created p k vs)) (with_local i (moves_on p r (sets p x (id_of c.next) m.loc)) c).rooms ≡ none → Fails p c i w NoRoom
  SPENT-18 : {m : Machine} {f : Frame} {γ : List Frame} {s x k : ℕ} {is : List (ℕ × ℕ)} {r : List ℕ} {vs : List Value} →
      At p c i m f γ s r (new x k is) → inits p i m.loc w k is 0 (blank p k) ≡ some vs → ltb c.next SPENT ≡ false → Fails p c i w NoRoom
  -- "the chosen machine is not live, or has a stack, an empty row, nothing pending and nothing to dequeue"
  LIVE-19 : find i c.rooms ≡ none → Fails p c i w UnableToStep
  WAIT-19 : {m : Machine} {f : Frame} {γ : List Frame} →
      Bare c i m f γ idle → All (λ x. held_back p f.state f.map x.event ≡ true) m.queue → Fails p c i w UnableToStep
  -- a row that begins with a seq: "the configuration handed in is not one"
  SEQ-20 : {m : Machine} {f : Frame} {γ : List Frame} {s a b : ℕ} {r : List ℕ} → At p c i m f γ s r (seq a b) → Fails p c i w NotAccepted
