-- A program as its tables read: a number that its word cannot hold is the largest that it can, and a state that defers what no program has as an event
-- is of a kind that no program has. And what reading a text makes sure of, so that the tables hold the program.
use Rattle.std.specs.Prelude.{ℕ, ◌+◌, ◌*◌, ◌≤◌, ◌≡◌, true, cond, [], map, length}
use Rattle.std.proofs.Common.{arith}
use Rattle.lists.specs.Lists.{All, flat}
use Rattle.programs.specs.declared.Leaf.{Leaf}
use Rattle.programs.specs.declared.Leaf.TheVariants.{Bot as bot, Int as int_val, Bool as bool_val, Var as var, This as this, Msg as msg, Arg as arg, Star as star}
use Rattle.programs.specs.declared.Expr.{Expr}
use Rattle.programs.specs.declared.Expr.TheVariants.{Leaf as leaf, Unary as unary, Binary as binary}
use Rattle.programs.specs.Sizes.{KINDS, EVENTS, VARIABLES, EXPRS, STMTS, ACTIONS, STATES}
use Rattle.programs.specs.Program.{Program, Variable, Stmt, Action, State, Move, skip, assign, new, delete, send, raise, leave, return, assert, seq, if, while}
use Rattle.soundness.specs.Asked.{ascending, init_of}
use Rattle.soundness.specs.Sound.{expr_ranged}
use Rattle.tables.specs.Decode.{byte, short, MOVES, PAIRS}
use Rattle.tabled.specs.Tabled.{byte_of, word_of, deferrable, state_kind}

-- a word of 16 bits read as one
pub word_again : (n : ℕ) → short (word_of n) ≡ word_of n
word_again n = omega arith

-- and as one of 8 bits
pub byte_again : (n : ℕ) → byte (word_of n) ≡ byte_of n
byte_again n = omega arith

-- a variable
abbrev pub variable_stood : Variable → Variable
variable_stood v = record { of = byte_of v.of; type = v.type }

-- a leaf
abbrev pub leaf_stood : Leaf → Leaf
leaf_stood bot = bot
leaf_stood (int_val z) = int_val z
leaf_stood (bool_val b) = bool_val b
leaf_stood (var x) = var (word_of x)
leaf_stood this = this
leaf_stood msg = msg
leaf_stood arg = arg
leaf_stood star = star

-- an expression
abbrev pub expr_stood : Expr → Expr
expr_stood (leaf l) = leaf (leaf_stood l)
expr_stood (unary o a) = unary o (word_of a)
expr_stood (binary o a b) = binary o (word_of a) (word_of b)

-- a pair of an init list
abbrev pub pair_stood : ℕ × ℕ → ℕ × ℕ
pair_stood xe = (word_of xe.0, word_of xe.1)

-- a statement
abbrev pub stmt_stood : Stmt → Stmt
stmt_stood skip = skip
stmt_stood (assign x e) = assign (word_of x) (word_of e)
stmt_stood (new x k l) = new (word_of x) (byte_of k) (map pair_stood l)
stmt_stood delete = delete
stmt_stood (send t e a) = send (word_of t) (byte_of e) (word_of a)
stmt_stood (raise e a) = raise (byte_of e) (word_of a)
stmt_stood leave = leave
stmt_stood return = return
stmt_stood (assert e) = assert (word_of e)
stmt_stood (seq a b) = seq (word_of a) (word_of b)
stmt_stood (if e a b) = if (word_of e) (word_of a) (word_of b)
stmt_stood (while e a) = while (word_of e) (word_of a)

-- an action
abbrev pub action_stood : Action → Action
action_stood a = record { of = byte_of a.of; body = word_of a.body }

-- a state
abbrev pub state_stood : State → State
state_stood n = record { of = state_kind n; defer = cond (deferrable n) n.defer []; entry = word_of n.entry; exit = word_of n.exit }

-- a move
abbrev pub move_stood : Move → Move
move_stood m = record { from = byte_of m.from; on = byte_of m.on; to = byte_of m.to }

-- THE PROGRAM
abbrev pub stood : Program → Program
stood p = record {
  events = p.events;
  machines = p.machines;
  variables = map variable_stood p.variables;
  exprs = map expr_stood p.exprs;
  stmts = map stmt_stood p.stmts;
  actions = map action_stood p.actions;
  states = map state_stood p.states;
  steps = map move_stood p.steps;
  calls = map move_stood p.calls;
  acts = map move_stood p.acts;
  start = byte_of p.start;
}

-- WHAT THE TABLES CAN HOLD: no table passes its size, every `val` is in range, every defer list ascends
pub record Fitting (p : Program) : Type 0 where
  pub events : length p.events ≤ EVENTS
  pub machines : p.machines ≤ KINDS
  pub variables : length p.variables ≤ KINDS * VARIABLES
  pub exprs : length p.exprs ≤ EXPRS
  pub stmts : length p.stmts ≤ STMTS
  pub actions : length p.actions ≤ ACTIONS
  pub states : length p.states ≤ STATES
  pub moves : length p.steps + (length p.calls + length p.acts) ≤ MOVES
  pub pairs : length (flat init_of p.stmts) ≤ PAIRS
  pub ranged : All (λ e. (expr_ranged p e).Holds) p.exprs
  pub deferring : All (λ n. ascending n.defer ≡ true) p.states
