-- THE FIRST STOREY. What a machine does next, worked out from its number, its local part and the bits alone: no queue and no other machine is in
-- reach. Document 01's rules, in document 002's order; the words in quotation marks are document 01's.
use Rattle.std.specs.Prelude.{ℕ, ◌+◌, Bool, true, false, cond, List, [], ◌∷◌, map, ltb, length, set}
use Rattle.std.proofs.Math.Option.{Option, none, some}
use Rattle.lists.specs.Lists.{on_opt}
use Rattle.answers.specs.declared.Answer.{Answer}
use Rattle.answers.specs.declared.Answer.TheVariants.{AssertionFalse, NotABool, NotAccepted, SendToUndefined, StackEmpty, StackFull, WrongType}
use Rattle.values.specs.declared.Ty.{Ty}
use Rattle.values.specs.declared.Value.{Value}
use Rattle.values.specs.declared.Value.TheVariants.{Undefined as undefined, Bool as vbool, Event as vevent, Id as vid, Int as vint}
use Rattle.values.specs.Values.{suits, id_of}
use Rattle.values.specs.declared.Ty.TheVariants.{Event as event}
use Rattle.programs.specs.Sizes.{STACK}
use Rattle.programs.specs.Program.{Program, Stmt, skip, assign, new, delete, send, raise, leave, return, assert, seq, if, while, stmt_at, variable_at, place, event_type, Entry, Exit, Body, Step, Call, ActionOf}
use Rattle.programs.specs.Trees.{tree, stars}
use Rattle.machines.specs.Config.{Reply, Frame, Pending, idle, raising, returning, Pair, Local}
use Rattle.machines.specs.Eval.{eval}
use Rattle.machines.specs.Locals.{remains, moves_on, sets, told, stacked, created, blank}
use Rattle.machines.specs.Maps.{is_action, entry_at, exit_or_skip, call_map}
use Rattle.rules.specs.declared.Rule.{Rule}
use Rattle.rules.specs.declared.Rule.TheVariants.{ASSIGN, ASSERT, SEQ, IF, WHILE, RAISE, LEAVE, RETURN, STEP, ACTION, CALL, POP1, POP2}

-- What a machine does next: what only it and its choice decide.
pub data Act : Type 0 where
  alone : Rule → Local → Act  -- a rule that touches nothing else, and the local part after it
  creates : (ℕ → Local) → Local → Act  -- the creator's local part after it, by the new number; the new machine's local part
  deletes : Act
  sends : ℕ → Option Pair → Local → Act  -- to whom; what (none: the payload does not suit); the local part after it
  dequeues : Act  -- "a stack, an empty row, nothing pending"
  refuses : Answer → Act

-- A condition: "condition of if, while or assert not a bool" is 14.
abbrev pub on_bool : Value → Act → Act → Act
on_bool undefined yes' no' = refuses NotABool
on_bool (vbool true) yes' no' = yes'
on_bool (vbool false) yes' no' = no'
on_bool (vint z) yes' no' = refuses NotABool
on_bool (vevent e) yes' no' = refuses NotABool
on_bool (vid i) yes' no' = refuses NotABool

-- A send's target: undefined 11, not an id 15.
abbrev pub on_target : Value → (ℕ → Act) → Act
on_target undefined k = refuses SendToUndefined
on_target (vbool b) k = refuses WrongType
on_target (vint z) k = refuses WrongType
on_target (vevent e) k = refuses WrongType
on_target (vid i) k = k i.0

-- v if it suits t: else 15
abbrev pub fits : Value → Bool → Option Value
fits v true = some v
fits v false = none

-- v, if it suits the type t
abbrev pub fit : Ty → Value → Option Value
fit t v = fits v (suits t v)

module _ (p : Program) (i : ℕ) (l : Local) (w : ℕ) where
  -- The values of `init`, in order, put into vs; none where one does not suit its variable. k is the number of the next star.
  abbrev pub inits : ℕ → List (ℕ × ℕ) → ℕ → List Value → Option (List Value)
  inits m [] k vs = some vs
  inits m (xe ∷ is) k vs = on_opt (fit (variable_at p xe.0).type (eval p i l w k xe.1)) none
      (λ v. inits m is (k + stars (tree p xe.1)) (set vs (place p m xe.0) v))

  -- THE HEAD OF THE ROW is statement s; r is behind it; the top of the stack is (n, α).
  abbrev pub does : ℕ → List Reply → ℕ → List ℕ → Stmt → Act
  does n α s r skip = alone SEQ (remains p r l.pending l)
  does n α s r (assign x e) = on_opt (fit (variable_at p x).type (eval p i l w 0 e)) (refuses WrongType)
      (λ v. alone ASSIGN (moves_on p r (sets p x v l)))
  does n α s r (new x m is) = on_opt (inits m is 0 (blank p m)) (refuses WrongType) (λ vs. creates (λ i'. moves_on p r (sets p x (id_of i') l)) (created p m vs))
  does n α s r delete = deletes
  does n α s r (send t e a) = on_target (eval p i l w 0 t) (λ i'. sends i'
      (on_opt (fit (event_type p e) (eval p i l w (stars (tree p t)) a)) none (λ v. some (record { event = e; value = v })))
      (moves_on p r l))
  does n α s r (raise e a) = on_opt (fit (event_type p e) (eval p i l w 0 a)) (refuses WrongType)
      (λ v. alone RAISE (remains p (exit_or_skip p n α e ∷ []) (raising e v) (told e v l)))
  does n α s r leave = alone LEAVE (remains p [] idle l)
  does n α s r return = alone RETURN (remains p (Exit p n ∷ []) returning l)
  does n α s r (assert e) = on_bool (eval p i l w 0 e) (alone ASSERT (moves_on p r l)) (refuses AssertionFalse)
  does n α s r (seq a b) = refuses NotAccepted  -- "no row begins with one": not a configuration
  does n α s r (if e a b) = on_bool (eval p i l w 0 e) (alone IF (remains p (a ∷ r) l.pending l)) (alone IF (remains p (b ∷ r) l.pending l))
  does n α s r (while e a) = on_bool (eval p i l w 0 e) (alone WHILE (remains p (a ∷ s ∷ r) l.pending l)) (alone WHILE (moves_on p r l))

  -- THE ROW IS EMPTY; the stack is (n, α) · γ.
  abbrev pub stepping : List Reply → List Frame → ℕ → Act
  stepping α γ n' = alone STEP (remains p (Entry p n' ∷ []) idle (stacked (record { state = n'; map = α } ∷ γ) l))

  -- CALL
  abbrev pub calling : ℕ → List Reply → List Frame → ℕ → Act
  calling n α γ n' = cond (ltb (length l.stack) STACK)
      (alone CALL (remains p (Entry p n' ∷ []) idle (stacked (record { state = n'; map = call_map p n α } ∷ record { state = n; map = α } ∷ γ) l)))
      (refuses StackFull)

  -- ACTION
  abbrev pub acting : ℕ → Act
  acting a = alone ACTION (remains p (Body p a ∷ []) idle l)

  -- POP1
  abbrev pub popping : List Frame → ℕ → Value → Act
  popping γ e v = alone POP1 (remains p [] (raising e v) (stacked γ l))

  -- "For a pending raise: step, call, the state's action, the map's action, else POP1."
  abbrev pub pends : ℕ → List Reply → List Frame → Pending → Act
  pends n α γ idle = dequeues
  pends n α γ (raising e v) = on_opt (Step p n e) (on_opt (Call p n e) (on_opt (ActionOf p n e) (on_opt (is_action (entry_at α e)) (popping γ e v) acting) acting) (calling n α γ)) (stepping α γ)
  pends n α γ returning = alone POP2 (remains p [] idle (stacked γ l))

  -- the machine has a stack, with f on top
  abbrev pub in_state : Frame → List Frame → List ℕ → Act
  in_state f γ [] = pends f.state f.map γ l.pending
  in_state f γ (s ∷ r) = does f.state f.map s r (stmt_at p s)

  -- 13: "call stack empty"
  abbrev pub on_stack : List Frame → Act
  on_stack [] = refuses StackEmpty
  on_stack (f ∷ γ) = in_state f γ l.row

  -- "In a step: 20, 19, then 13, then left to right through the statement"
  unfoldable pub act : Act
  act = on_stack l.stack
