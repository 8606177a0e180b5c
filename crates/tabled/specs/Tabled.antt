-- A program written into the tables of crates/tables, line by line, and what a text is loaded as. A number that its word cannot hold is written as the largest
-- that it can; no table of any program has so many rows, so what the number names is absent either way.
use Rattle.std.specs.Prelude as std
use Rattle.std.specs.Prelude.{ℕ, ◌+◌, min, Bool, cond, ◌&&◌, List, [], ◌∷◌, ◌++◌, map, eqb, length, replicate, ◌≡◌, refl, Ok, Err}
use Rattle.std.proofs.Common.{ap, sym}
use Rattle.lists.specs.Lists.{any, all, there, flat}
use Rattle.rows.specs.Pad.{pad}
use Rattle.rows.specs.Seek.{table}
use Rattle.answers.specs.declared.Answer.{Answer}
use Rattle.answers.specs.declared.Answer.TheVariants.{Done}
use Rattle.values.specs.declared.Ty.{Ty}
use Rattle.values.specs.declared.Ty.TheVariants.{Void as void, Bool as bool, Int as int, Event as event, Id as id}
use Rattle.values.specs.declared.Unary.TheVariants.{Not as not', Neg as neg}
use Rattle.values.specs.declared.Binary.TheVariants.{Add as add, Sub as sub, And as and, Or as or}
use Rattle.programs.specs.Sizes.{EVENTS}
use Rattle.programs.specs.declared.Leaf.{Leaf}
use Rattle.programs.specs.declared.Leaf.TheVariants.{Bot as bot, Int as int_val, Bool as bool_val, Var as var, This as this, Msg as msg, Arg as arg, Star as star}
use Rattle.programs.specs.declared.Expr.{Expr}
use Rattle.programs.specs.declared.Expr.TheVariants.{Leaf as leaf, Unary as unary, Binary as binary}
use Rattle.programs.specs.Program.{Program, Variable, Stmt, Action, State, Move, skip, assign, new, delete, send, raise, leave, return, assert, seq, if, while}
use Rattle.soundness.specs.Asked.{init_of}
use Rattle.codes.specs.Codes.{int_code}
use Rattle.tables.specs.declared.Program.{Program as Tables}
use Rattle.machines.specs.Config.{Choice}
use Rattle.choices.specs.Choices.{choice_word}
use Rattle.texts.specs.Reading.{Result, loaded, refused}
use Rattle.texts.specs.Answered.{answered}
use Rattle.tabled.specs.declared.Loaded.{Loaded as Text}
use Rattle.answers.specs.declared.Refusal.{Refusal}

-- NUMBERS
-- in a word of 8 bits
abbrev pub byte_of : ℕ → ℕ
byte_of n = min n 255

-- in a word of 16 bits
abbrev pub word_of : ℕ → ℕ
word_of n = min n 65535

-- EVENTS, by their types; place 0 has how many
abbrev pub ty_code : Ty → ℕ
ty_code void = 0
ty_code bool = 1
ty_code int = 2
ty_code event = 3
ty_code id = 4

-- the table of the events
unfoldable pub event_table : List Ty → List ℕ
event_table es = pad 0 65 (length es ∷ map ty_code es)

-- VARIABLES: their kinds, with how many in place 0, and their types
unfoldable pub variable_kinds : List Variable → List ℕ
variable_kinds vs = pad 0 257 (length vs ∷ map (λ v. word_of v.of) vs)

-- the types
unfoldable pub variable_types : List Variable → List ℕ
variable_types vs = pad 0 257 (0 ∷ map (λ v. ty_code v.type) vs)

-- EXPRESSIONS: rows of three, the first of which has how many
abbrev pub leaf_row : Leaf → List ℕ
leaf_row bot = 0 ∷ 0 ∷ 0 ∷ []
leaf_row (int_val z) = 1 ∷ int_code z ∷ 0 ∷ []
leaf_row (bool_val b) = 2 ∷ cond b 1 0 ∷ 0 ∷ []
leaf_row (var x) = 3 ∷ word_of x ∷ 0 ∷ []
leaf_row this = 4 ∷ 0 ∷ 0 ∷ []
leaf_row msg = 5 ∷ 0 ∷ 0 ∷ []
leaf_row arg = 6 ∷ 0 ∷ 0 ∷ []
leaf_row star = 7 ∷ 0 ∷ 0 ∷ []

-- of any expression
abbrev pub expr_row : Expr → List ℕ
expr_row (leaf l) = leaf_row l
expr_row (unary not' a) = 8 ∷ word_of a ∷ 0 ∷ []
expr_row (unary neg a) = 9 ∷ word_of a ∷ 0 ∷ []
expr_row (binary add a b) = 10 ∷ word_of a ∷ word_of b ∷ []
expr_row (binary sub a b) = 11 ∷ word_of a ∷ word_of b ∷ []
expr_row (binary and a b) = 12 ∷ word_of a ∷ word_of b ∷ []
expr_row (binary or a b) = 13 ∷ word_of a ∷ word_of b ∷ []

-- the table
unfoldable pub expr_table : List Expr → List ℕ
expr_table xs = pad 0 3075 (length xs ∷ 0 ∷ 0 ∷ flat expr_row xs)

-- STATEMENTS: rows of five, the first of which has how many. A `new` has the place of its first pair in the pool, and how many it has
abbrev pub stmt_row : ℕ → Stmt → List ℕ
stmt_row i skip = 0 ∷ 0 ∷ 0 ∷ 0 ∷ 0 ∷ []
stmt_row i (assign x e) = 1 ∷ word_of x ∷ word_of e ∷ 0 ∷ 0 ∷ []
stmt_row i (new x k l) = 2 ∷ word_of x ∷ word_of k ∷ i ∷ length l ∷ []
stmt_row i delete = 3 ∷ 0 ∷ 0 ∷ 0 ∷ 0 ∷ []
stmt_row i (send t e a) = 4 ∷ word_of t ∷ word_of e ∷ word_of a ∷ 0 ∷ []
stmt_row i (raise e a) = 5 ∷ word_of e ∷ word_of a ∷ 0 ∷ 0 ∷ []
stmt_row i leave = 6 ∷ 0 ∷ 0 ∷ 0 ∷ 0 ∷ []
stmt_row i return = 7 ∷ 0 ∷ 0 ∷ 0 ∷ 0 ∷ []
stmt_row i (assert e) = 8 ∷ word_of e ∷ 0 ∷ 0 ∷ 0 ∷ []
stmt_row i (seq a b) = 9 ∷ word_of a ∷ word_of b ∷ 0 ∷ 0 ∷ []
stmt_row i (if e a b) = 10 ∷ word_of e ∷ word_of a ∷ word_of b ∷ 0 ∷ []
stmt_row i (while e a) = 11 ∷ word_of e ∷ word_of a ∷ 0 ∷ 0 ∷ []

-- the rows, the first pair of the first at place i
abbrev pub stmt_rows : ℕ → List Stmt → List ℕ
stmt_rows i [] = []
stmt_rows i (s ∷ ss) = stmt_row i s ++ stmt_rows (i + length (init_of s)) ss

-- the table
unfoldable pub stmt_table : List Stmt → List ℕ
stmt_table ss = pad 0 5125 (length ss ∷ 0 ∷ 0 ∷ 0 ∷ 0 ∷ stmt_rows 0 ss)

-- a pair in the pool
abbrev pub pair_row : ℕ × ℕ → List ℕ
pair_row xe = word_of xe.0 ∷ word_of xe.1 ∷ []

-- the pool: the pairs of every statement, in their order
unfoldable pub init_pool : List Stmt → List ℕ
init_pool ss = pad 0 30000 (flat pair_row (flat init_of ss))

-- ACTIONS: their kinds, with how many in place 0, and their statements
unfoldable pub action_kinds : List Action → List ℕ
action_kinds acs = pad 0 65 (length acs ∷ map (λ a. byte_of a.of) acs)

-- the statements
unfoldable pub action_bodies : List Action → List ℕ
action_bodies acs = pad 0 65 (0 ∷ map (λ a. word_of a.body) acs)

-- STATES. Every event that the state defers can be one of a program's
abbrev pub deferrable : State → Bool
deferrable n = all (there EVENTS) n.defer

-- its kind; 255, no program's, where one cannot be
abbrev pub state_kind : State → ℕ
state_kind n = cond (deferrable n) (byte_of n.of) 255

-- a flag for each event from 0 on; none where one cannot be
abbrev pub flag_row : State → List ℕ
flag_row n = table (λ e. cond (deferrable n && any (eqb e) n.defer) 1 0) 0 65

-- the kinds, with how many in place 0
unfoldable pub state_kinds : List State → List ℕ
state_kinds ns = pad 0 65 (length ns ∷ map state_kind ns)

-- the statements at entry
unfoldable pub state_entries : List State → List ℕ
state_entries ns = pad 0 65 (0 ∷ map (λ n. word_of n.entry) ns)

-- the statements at exit
unfoldable pub state_exits : List State → List ℕ
state_exits ns = pad 0 65 (0 ∷ map (λ n. word_of n.exit) ns)

-- the flags: rows of 65, the first of no state
unfoldable pub defer_table : List State → List ℕ
defer_table ns = pad 0 4225 (replicate 65 0 ++ flat flag_row ns)

-- MOVES: rows of three
abbrev pub move_row : Move → List ℕ
move_row m = byte_of m.from ∷ byte_of m.on ∷ byte_of m.to ∷ []

-- the table: the steps, the calls, the acts
unfoldable pub move_table : List Move → List ℕ
move_table ms = pad 0 12288 (flat move_row ms)

-- THE TABLES OF A PROGRAM
abbrev pub tabled : Program → Tables
tabled p = record {
  event_types = event_table p.events;
  kinds = p.machines;
  variable_of = variable_kinds p.variables;
  variable_type = variable_types p.variables;
  exprs = expr_table p.exprs;
  stmts = stmt_table p.stmts;
  inits = init_pool p.stmts;
  action_of = action_kinds p.actions;
  action_body = action_bodies p.actions;
  state_of = state_kinds p.states;
  state_entry = state_entries p.states;
  state_exit = state_exits p.states;
  defers = defer_table p.states;
  moves = move_table (p.steps ++ (p.calls ++ p.acts));
  steps = length p.steps;
  calls = length p.calls;
  acts = length p.acts;
  start = record { 0 = byte_of p.start };
}

-- the choices, each as its number
unfoldable pub choice_table : List Choice → List ℕ
choice_table cs = pad 0 4096 (map choice_word cs)

-- the program of no lines
abbrev pub no_program : Program
no_program = record { events = []; machines = 0; variables = []; exprs = []; stmts = []; actions = []; states = []; steps = []; calls = []; acts = []; start = 0 }

-- WHAT A TEXT IS LOADED AS: "on a refusal nothing is loaded"
pub record Loaded : Type 0 where
  pub answer : Answer
  -- the faulty line; 0 at the answers 0, 1 and 9
  pub line : ℕ
  -- on a refusal the program of no lines, and no choices
  pub program : Tables
  pub choices : List ℕ
  pub count : ℕ

abbrev pub loaded_as : Result → Loaded
loaded_as (loaded p c) = record { answer = Done; line = 0; program = tabled p; choices = choice_table c; count = length c }
loaded_as (refused a k) = record { answer = a; line = k; program = tabled no_program; choices = choice_table []; count = 0 }

-- of the text
unfoldable pub load_of : List ℕ → Loaded
load_of t = loaded_as (answered t)

-- WHAT THE LOADER ANSWERS: the tables and the choices, or the refusal
abbrev pub loads : Result → std.Result Text Refusal
loads (loaded p c) = Ok (record { program = tabled p; choices = choice_table c; count = length c })
loads (refused a k) = Err (record { answer = a; line = k })

-- what that is loaded as
abbrev pub handed : std.Result Text Refusal → Loaded
handed (Ok l) = record { answer = Done; line = 0; program = l.program; choices = l.choices; count = l.count }
handed (Err r) = record { answer = r.answer; line = r.line; program = tabled no_program; choices = choice_table []; count = 0 }

-- the same
pub handed_loads : (r : Result) → handed (loads r) ≡ loaded_as r
handed_loads (loaded p c) = refl
handed_loads (refused a k) = refl

-- of the text
pub loads_of : (t : List ℕ) → handed (loads (answered t)) ≡ load_of t
unfolding load_of
loads_of t = handed_loads (answered t)

-- a refusal is what the text is refused with
pub loads_refused : (r : Result) (e : Refusal) → Err e ≡ loads r → r ≡ refused e.answer e.line
loads_refused (loaded p c) e h = cc
loads_refused (refused a k) e h = let q : e ≡ record { answer = a; line = k } = cc in λ i. refused (sym (ap (λ (x : Refusal). x.answer) q) i) (sym (ap (λ (x : Refusal). x.line) q) i)

-- and what is loaded is the text's program and choices
pub loads_loaded : (r : Result) (l : Text) → Ok l ≡ loads r → (p : Program) × (c : List Choice) × (r ≡ loaded p c)
loads_loaded (loaded p c) l h = (p, c, refl)
loads_loaded (refused a k) l h = cc
