-- The tables of src/lib.rt read as a program of the definitions. Whatever numbers stand in them they are read: a count larger than its table as the
-- table's size, a number too large for what holds it as the largest that fits, a word that names no kind as `bot`, as `skip` or as `void`, and what
-- would lie beyond the end of the pool of pairs or of the moves is cut.
use Rattle.std.specs.Prelude.{ℕ, ◌+◌, ◌-◌, ◌*◌, min, Bool, not, List, [], ◌∷◌, map, eqb, get_or}
use Rattle.lists.specs.Lists.{at, keep}
use Rattle.rows.specs.Seek.{table}
use Rattle.values.specs.declared.Ty.{Ty}
use Rattle.values.specs.declared.Ty.TheVariants.{Void as void, Bool as bool, Int as int, Event as event, Id as id}
use Rattle.values.specs.Words.{int_of}
use Rattle.values.specs.declared.Unary.TheVariants.{Not as not', Neg as neg}
use Rattle.values.specs.declared.Binary.TheVariants.{Add as add, Sub as sub, And as and, Or as or}
use Rattle.programs.specs.declared.Leaf.TheVariants.{Bot as bot, Int as int_val, Bool as bool_val, Var as var, This as this, Msg as msg, Arg as arg, Star as star}
use Rattle.programs.specs.declared.Expr.{Expr}
use Rattle.programs.specs.declared.Expr.TheVariants.{Leaf as leaf, Unary as unary, Binary as binary}
use Rattle.programs.specs.Sizes.{KINDS, EVENTS, VARIABLES, EXPRS, STMTS, ACTIONS, STATES}
use Rattle.programs.specs.Program.{Program, Variable, Stmt, Action, State, Move, skip, assign, new, delete, send, raise, leave, return, assert, seq, if, while}
use Rattle.tables.specs.declared.Head.{Head}
use Rattle.tables.specs.declared.Head.TheVariants.{Skip, Assign, New, Delete, Send, Raise, Leave, Return, Assert, Seq, If, While}
use Rattle.tables.specs.declared.Program.{Program as Tables}

-- NUMBERS
-- how many rows a table has: what stands in its place 0, and no more than its size
abbrev pub count : ℕ → List ℕ → ℕ
count size l = min (get_or l 0 0) size

-- the number of a kind or of an event that a word stands for
abbrev pub byte : ℕ → ℕ
byte x = min x 255

-- the number of an expression or of a variable that a word stands for
abbrev pub short : ℕ → ℕ
short x = min x 65535

-- TYPES
-- each type at its number
abbrev pub types : List Ty
types = void ∷ bool ∷ int ∷ event ∷ id ∷ []

-- the type that a word names
unfoldable pub ty_of : ℕ → Ty
ty_of k = get_or types k void

-- EVENTS
-- the types of the events
unfoldable pub events_of : List ℕ → List Ty
events_of l = table (λ e. ty_of (get_or l e 0)) 1 (count EVENTS l)

-- VARIABLES
-- for what is absent
abbrev pub no_variable : Variable
no_variable = record { of = 0; type = void }

-- variable x
abbrev pub variable_in : List ℕ → List ℕ → ℕ → Variable
variable_in kinds types x = record { of = byte (get_or kinds x 0); type = ty_of (get_or types x 0) }

-- the variables
unfoldable pub variables_of : List ℕ → List ℕ → List Variable
variables_of kinds types = table (variable_in kinds types) 1 (count (KINDS * VARIABLES) kinds)

-- EXPRESSIONS
-- each kind of expression at its number, with its value x or its parts a and b
abbrev pub expr_kinds : ℕ → ℕ → ℕ → List Expr
expr_kinds x a b =
    leaf bot
    ∷ leaf (int_val (int_of x))
    ∷ leaf (bool_val (eqb x 1))
    ∷ leaf (var a)
    ∷ leaf this
    ∷ leaf msg
    ∷ leaf arg
    ∷ leaf star
    ∷ unary not' a
    ∷ unary neg a
    ∷ binary add a b
    ∷ binary sub a b
    ∷ binary and a b
    ∷ binary or a b
    ∷ []

-- the expression of kind k
unfoldable pub expr_of : ℕ → ℕ → ℕ → ℕ → Expr
expr_of k x a b = get_or (expr_kinds x a b) k (leaf bot)

-- expression e: a row of three words, its kind and two more
abbrev pub expr_in : List ℕ → ℕ → Expr
expr_in l e = expr_of (get_or l (e * 3) 0) (get_or l (e * 3 + 1) 0) (short (get_or l (e * 3 + 1) 0)) (short (get_or l (e * 3 + 2) 0))

-- the expressions
unfoldable pub exprs_of : List ℕ → List Expr
exprs_of l = table (expr_in l) 1 (count EXPRS l)

-- STATEMENTS
-- each kind of statement at its number, with the numbers x, y, z and n; where they are a kind's or an event's, x is a and y is b
abbrev pub head_kinds : ℕ → ℕ → ℕ → ℕ → ℕ → ℕ → List Head
head_kinds x y z n a b =
    Skip
    ∷ Assign x y
    ∷ New x (record { 0 = b }) z n
    ∷ Delete
    ∷ Send x b z
    ∷ Raise a y
    ∷ Leave
    ∷ Return
    ∷ Assert x
    ∷ Seq x y
    ∷ If x y z
    ∷ While x y
    ∷ []

-- the statement of kind k
unfoldable pub head_of : ℕ → ℕ → ℕ → ℕ → ℕ → ℕ → ℕ → Head
head_of k x y z n a b = get_or (head_kinds x y z n a b) k Skip

-- statement s: a row of five words, its kind and four more
abbrev pub head_in : List ℕ → ℕ → Head
head_in l s =
    head_of (get_or l (s * 5) 0) (get_or l (s * 5 + 1) 0) (get_or l (s * 5 + 2) 0) (get_or l (s * 5 + 3) 0) (get_or l (s * 5 + 4) 0)
    (byte (get_or l (s * 5 + 1) 0)) (byte (get_or l (s * 5 + 2) 0))

-- the statements, without their init lists
unfoldable pub heads_of : List ℕ → List Head
heads_of l = table (head_in l) 1 (count STMTS l)

-- statement s of them; skip for 0 and for what is absent
abbrev pub head_at : List ℕ → ℕ → Head
head_at l s = at Skip (heads_of l) s

-- pair j of the pool, from 0: a variable and an expression
abbrev pub pair_in : List ℕ → ℕ → ℕ × ℕ
pair_in inits j = (get_or inits (j * 2) 0, get_or inits (j * 2 + 1) 0)

-- as many pairs as are held: more than any text has
abbrev pub PAIRS : ℕ
PAIRS = 15000

-- n pairs from place i on, as far as the pool goes
unfoldable pub pairs_of : List ℕ → ℕ → ℕ → List (ℕ × ℕ)
pairs_of inits i n = table (pair_in inits) i (min n (PAIRS - i))

-- a statement with its init list
abbrev pub stmt_of : List ℕ → Head → Stmt
stmt_of inits Skip = skip
stmt_of inits (Assign x e) = assign x e
stmt_of inits (New x k i n) = new x k.0 (pairs_of inits i n)
stmt_of inits Delete = delete
stmt_of inits (Send t e a) = send t e a
stmt_of inits (Raise e a) = raise e a
stmt_of inits Leave = leave
stmt_of inits Return = return
stmt_of inits (Assert e) = assert e
stmt_of inits (Seq a b) = seq a b
stmt_of inits (If e a b) = if e a b
stmt_of inits (While e a) = while e a

-- the statements
unfoldable pub stmts_of : List ℕ → List ℕ → List Stmt
stmts_of l inits = map (stmt_of inits) (heads_of l)

-- ACTIONS
-- for what is absent
abbrev pub no_action : Action
no_action = record { of = 0; body = 0 }

-- action a
abbrev pub action_in : List ℕ → List ℕ → ℕ → Action
action_in kinds bodies a = record { of = get_or kinds a 0; body = get_or bodies a 0 }

-- the actions
unfoldable pub actions_of : List ℕ → List ℕ → List Action
actions_of kinds bodies = table (action_in kinds bodies) 1 (count ACTIONS kinds)

-- STATES
-- for what is absent
abbrev pub no_state : State
no_state = record { of = 0; defer = []; entry = 0; exit = 0 }

-- the flag of state n and event e is set
abbrev pub flag : List ℕ → ℕ → ℕ → Bool
flag flags n e = not (eqb (get_or flags (n * (EVENTS + 1) + e) 0) 0)

-- the events that state n defers, ascending
unfoldable pub defer_of : List ℕ → ℕ → List ℕ
defer_of flags n = keep (flag flags n) (table (λ e. e) 1 EVENTS)

-- state n
abbrev pub state_in : List ℕ → List ℕ → List ℕ → List ℕ → ℕ → State
state_in kinds entries exits flags n = record { of = get_or kinds n 0; defer = defer_of flags n; entry = get_or entries n 0; exit = get_or exits n 0 }

-- the states
unfoldable pub states_of : List ℕ → List ℕ → List ℕ → List ℕ → List State
states_of kinds entries exits flags = table (state_in kinds entries exits flags) 1 (count STATES kinds)

-- MOVES
-- as many of them as are held
abbrev pub MOVES : ℕ
MOVES = 4096

-- move i, from 0: a row of three words
abbrev pub move_in : List ℕ → ℕ → Move
move_in moves i = record { from = get_or moves (i * 3) 0; on = get_or moves (i * 3 + 1) 0; to = get_or moves (i * 3 + 2) 0 }

-- n moves from place i on, as far as the moves go
unfoldable pub moves_of : List ℕ → ℕ → ℕ → List Move
moves_of moves i n = table (move_in moves) i (min n (MOVES - i))

-- THE PROGRAM that the tables are
abbrev pub program_of : Tables → Program
program_of q = record {
  events = events_of q.event_types;
  machines = q.kinds;
  variables = variables_of q.variable_of q.variable_type;
  exprs = exprs_of q.exprs;
  stmts = stmts_of q.stmts q.inits;
  actions = actions_of q.action_of q.action_body;
  states = states_of q.state_of q.state_entry q.state_exit q.defers;
  steps = moves_of q.moves 0 q.steps;
  calls = moves_of q.moves q.steps q.calls;
  acts = moves_of q.moves (q.steps + q.calls) q.acts;
  start = q.start.0;
}
