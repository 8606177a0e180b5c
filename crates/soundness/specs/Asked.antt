-- Document 01, "Answers" 4 to 8, and of answer 2 "a void variable, a list not ascending": what is asked of each line of a program. A text is refused at
-- the first line that does not meet it; a program that is lent is sound when every line meets it (20). Both read these definitions.
use Rattle.std.specs.Prelude.{ℕ, ◌-◌, Bool, true, false, not, ◌&&◌, ◌||◌, List, [], ◌∷◌, ◌++◌, map, eqb, ltb, length, take}
use Rattle.lists.specs.Lists.{all, any, total, flat}
use Rattle.lists.specs.Down.{downward}
use Rattle.lists.specs.Check.{Check, free, ◌also◌, is_true, is_false, given, at_most, under, equals, within, each, for_all}
use Rattle.values.specs.declared.Ty.{Ty}
use Rattle.values.specs.declared.Ty.TheVariants.{Void as void, Bool as bool, Int as int, Event as event, Id as id}
use Rattle.programs.specs.declared.Leaf.{Leaf}
use Rattle.programs.specs.declared.Leaf.TheVariants.{Bot as bot, Int as int_val, Bool as bool_val, Var as var, This as this, Msg as msg, Arg as arg, Star as star}
use Rattle.programs.specs.declared.Expr.{Expr}
use Rattle.programs.specs.declared.Expr.TheVariants.{Leaf as leaf, Unary as unary, Binary as binary}
use Rattle.programs.specs.Sizes.{HEIGHT, STARS}
use Rattle.programs.specs.Program.{Program, Variable, Action, State, Move, Stmt, skip, assign, new, delete, send, raise, leave, return, assert, seq, if, while, stmt_at, state_at, action_at, variable_at}
use Rattle.programs.specs.Trees.{tree, stars, tree_height, operands}
use Rattle.programs.specs.Statements.{parts, exprs_of, height, serves, expr_serves}

-- What is asked of a line, by the table that it stands in and its number there. (Nothing is asked of the lines of events and machines.)
pub record Asked : Type 1 where
  pub variable : ℕ → Variable → Check
  pub expr : ℕ → Expr → Check
  pub stmt : ℕ → Stmt → Check
  pub action : ℕ → Action → Check
  pub state : ℕ → State → Check
  pub step : ℕ → Move → Check
  pub call : ℕ → Move → Check
  pub act : ℕ → Move → Check
  pub start : ℕ → Check

-- nothing is asked of these lines
abbrev pub nothing : {A : Type 0} → ℕ → A → Check
nothing n x = free

-- 2: "a void variable, a list not ascending"
abbrev pub is_void : Ty → Bool
is_void void = true
is_void bool = false
is_void int = false
is_void event = false
is_void id = false

-- "a list not ascending": strictly
abbrev pub ascending : List ℕ → Bool
ascending [] = true
ascending (x ∷ []) = true
ascending (x ∷ y ∷ l) = ltb x y && ascending (y ∷ l)

-- the pairs of a statement's `init`: variable and expression
abbrev pub init_of : Stmt → List (ℕ × ℕ)
init_of skip = []
init_of (assign x e) = []
init_of (new x m is) = is
init_of delete = []
init_of (send t e a) = []
init_of (raise e a) = []
init_of leave = []
init_of return = []
init_of (assert e) = []
init_of (seq a b) = []
init_of (if e a b) = []
init_of (while e a) = []

-- ANSWER 2, as far as 20 names it
abbrev pub orderly : Asked
orderly = record {
  variable = λ n v. is_false (is_void v.type);
  expr = nothing;
  stmt = λ n s. is_true (ascending (map (λ xe. xe.0) (init_of s)));
  action = nothing;
  state = λ n q. is_true (ascending q.defer);
  step = nothing;
  call = nothing;
  act = nothing;
  start = λ k. free;
}

-- 4: "a reference to something absent or of another kind's; `new` into a variable not of type id". "0 means skip in `entry`, `exit`, `do`, `then`,
-- `else`, `body`, `first`, `second`, and the undefined value in `arg`. Any other reference 0 is answer 4."
abbrev pub is_id : Ty → Bool
is_id void = false
is_id bool = false
is_id int = false
is_id event = false
is_id id = true

module _ (p : Program) where
  -- expression e is there
  abbrev pub expr_there : ℕ → Check
  expr_there e = within (length p.exprs) e

  -- "the undefined value in `arg`": 0, or an expression that is there
  abbrev pub arg_there : ℕ → Check
  arg_there e = at_most e (length p.exprs)

  -- "0 means skip": 0, or a statement that is there
  abbrev pub stmt_there : ℕ → Check
  stmt_there s = at_most s (length p.stmts)

  -- event e is there
  abbrev pub event_there : ℕ → Check
  event_there e = within (length p.events) e

  -- machine kind k is there
  abbrev pub kind_there : ℕ → Check
  kind_there k = within p.machines k

  -- variable x is there
  abbrev pub variable_there : ℕ → Check
  variable_there x = within (length p.variables) x

  -- state n is there
  abbrev pub state_there : ℕ → Check
  state_there n = within (length p.states) n

  -- action a is there
  abbrev pub action_there : ℕ → Check
  action_there a = within (length p.actions) a

  -- what a leaf names is there: `var`
  abbrev pub leaf_refers : Leaf → Check
  leaf_refers bot = free
  leaf_refers (int_val z) = free
  leaf_refers (bool_val b) = free
  leaf_refers (var x) = variable_there x
  leaf_refers this = free
  leaf_refers msg = free
  leaf_refers arg = free
  leaf_refers star = free

  -- what an expression names is there
  abbrev pub expr_refers : Expr → Check
  expr_refers (leaf l) = leaf_refers l
  expr_refers (unary o a) = expr_there a
  expr_refers (binary o a b) = expr_there a also expr_there b

  -- what a statement names is there
  abbrev pub stmt_refers : Stmt → Check
  stmt_refers skip = free
  stmt_refers (assign x e) = variable_there x also expr_there e
  stmt_refers (new x m is) = variable_there x also is_true (is_id (variable_at p x).type) also kind_there m also each (λ xe. variable_there xe.0 also expr_there xe.1) is
  stmt_refers delete = free
  stmt_refers (send t e a) = expr_there t also event_there e also arg_there a
  stmt_refers (raise e a) = event_there e also arg_there a
  stmt_refers leave = free
  stmt_refers return = free
  stmt_refers (assert e) = expr_there e
  stmt_refers (seq a b) = stmt_there a also stmt_there b
  stmt_refers (if e a b) = expr_there e also stmt_there a also stmt_there b
  stmt_refers (while e a) = expr_there e also stmt_there a

  -- a transition leads to a state of the same kind
  abbrev pub move_refers : Move → Check
  move_refers t = state_there t.from also event_there t.on also state_there t.to also equals (state_at p t.to).of (state_at p t.from).of

  -- and an act line names an action of the state's kind
  abbrev pub act_refers : Move → Check
  act_refers t = state_there t.from also event_there t.on also action_there t.to also equals (action_at p t.to).of (state_at p t.from).of

  -- ANSWER 4: everything that a line names is there, and a transition's and an act's of the state's kind
  abbrev pub refers : Asked
  refers = record {
    variable = λ n v. kind_there v.of;
    expr = λ n e. expr_refers e;
    stmt = λ n s. stmt_refers s;
    action = λ n a. kind_there a.of also stmt_there a.body;
    state = λ n q. kind_there q.of also each event_there q.defer also stmt_there q.entry also stmt_there q.exit;
    step = λ n t. move_refers t;
    call = λ n t. move_refers t;
    act = λ n t. act_refers t;
    start = λ k. kind_there k;
  }

  -- 5: "a part not lower than its whole, or named twice", "doublings at the later line". 0 names nothing.
  -- of the numbers named, one is among the earlier ones, or stands twice
  abbrev pub again : List ℕ → List ℕ → Bool
  again earlier [] = false
  again earlier (x ∷ l) = (not (eqb x 0) && any (eqb x) earlier) || again (x ∷ earlier) l

  -- what a state names: `entry`, `exit`
  abbrev pub bodies : State → List ℕ
  bodies q = q.entry ∷ q.exit ∷ []

  -- what the lines in front of number n of a table name: of expressions
  abbrev pub expr_names : ℕ → List ℕ
  expr_names n = flat operands (take (n - 1) p.exprs)

  -- and those that the statements in front of number n name
  abbrev pub stmt_names : ℕ → List ℕ
  stmt_names n = flat operands p.exprs ++ flat exprs_of (take (n - 1) p.stmts)

  -- and of statements
  abbrev pub part_names : ℕ → List ℕ
  part_names n = flat parts (take (n - 1) p.stmts)

  -- those that statements and the actions in front of number n name
  abbrev pub action_names : ℕ → List ℕ
  action_names n = flat parts p.stmts ++ map (λ a. a.body) (take (n - 1) p.actions)

  -- those that statements, actions and the states in front of number n name
  abbrev pub state_names : ℕ → List ℕ
  state_names n = flat parts p.stmts ++ (map (λ a. a.body) p.actions ++ flat bodies (take (n - 1) p.states))

  -- ANSWER 5: "has a lower number than its whole, and each is named at most once in the text"
  abbrev pub lower : Asked
  lower = record {
    variable = nothing;
    expr = λ n e. each (λ a. under a n) (operands e) also is_false (again (expr_names n) (operands e));
    stmt = λ n s. each (λ a. under a n) (parts s) also is_false (again (stmt_names n) (exprs_of s)) also is_false (again (part_names n) (parts s));
    action = λ n a. is_false (again (action_names n) (a.body ∷ []));
    state = λ n q. is_false (again (state_names n) (bodies q));
    step = nothing;
    call = nothing;
    act = nothing;
    start = λ k. free;
  }

  -- 4 again: "A statement or expression belongs to the kind whose state or action it serves; one that serves none may mix kinds. A foreign variable is
  -- the fault of the line naming it; `init` variables are the created kind's, in a statement that serves none too."
  -- variable x is of each kind that is served
  abbrev pub of_served : (ℕ → Bool) → ℕ → Check
  of_served served x = for_all p.machines (λ k. given (served k) (equals (variable_at p x).of k))

  -- a leaf of expression n names no foreign variable
  abbrev pub leaf_own : ℕ → Leaf → Check
  leaf_own n bot = free
  leaf_own n (int_val z) = free
  leaf_own n (bool_val b) = free
  leaf_own n (var x) = of_served (λ k. expr_serves p k n) x
  leaf_own n this = free
  leaf_own n msg = free
  leaf_own n arg = free
  leaf_own n star = free

  -- expression n itself names no foreign variable (its parts answer for themselves)
  abbrev pub expr_own : ℕ → Expr → Check
  expr_own n (leaf l) = leaf_own n l
  expr_own n (unary o a) = free
  expr_own n (binary o a b) = free

  -- statement n names no foreign variable, its `init` only the created kind's
  abbrev pub stmt_own : ℕ → Stmt → Check
  stmt_own n skip = free
  stmt_own n (assign x e) = of_served (λ k. serves p k n) x
  stmt_own n (new x m is) = of_served (λ k. serves p k n) x also each (λ xe. equals (variable_at p xe.0).of m) is
  stmt_own n delete = free
  stmt_own n (send t e a) = free
  stmt_own n (raise e a) = free
  stmt_own n leave = free
  stmt_own n return = free
  stmt_own n (assert e) = free
  stmt_own n (seq a b) = free
  stmt_own n (if e a b) = free
  stmt_own n (while e a) = free

  -- ANSWER 4 again: no foreign variable
  abbrev pub own : Asked
  own = record {
    variable = nothing;
    expr = expr_own;
    stmt = stmt_own;
    action = nothing;
    state = nothing;
    step = nothing;
    call = nothing;
    act = nothing;
    start = λ k. free;
  }

-- 6: "two transitions, or two actions, for one state and event", at the later line
abbrev pub alike : Move → Move → Bool
alike t u = eqb t.from u.from && eqb t.on u.on

module _ (p : Program) where
  -- ANSWER 6: no earlier line for the state and event; a step and a call are both transitions
  abbrev pub single : Asked
  single = record {
    variable = nothing;
    expr = nothing;
    stmt = nothing;
    action = nothing;
    state = nothing;
    step = λ n t. is_false (any (alike t) (take (n - 1) p.steps));
    call = λ n t. is_false (any (alike t) (p.steps ++ take (n - 1) p.calls));
    act = λ n t. is_false (any (alike t) (take (n - 1) p.acts));
    start = λ k. free;
  }

  -- 7: "an exit with raise, return or leave anywhere inside", at the state's line
  abbrev pub is_quiet : Stmt → Bool
  is_quiet skip = true
  is_quiet (assign x e) = true
  is_quiet (new x m is) = true
  is_quiet delete = true
  is_quiet (send t e a) = true
  is_quiet (raise e a) = false
  is_quiet leave = false
  is_quiet return = false
  is_quiet (assert e) = true
  is_quiet (seq a b) = true
  is_quiet (if e a b) = true
  is_quiet (while e a) = true

  -- nothing inside statement s is one
  unfoldable pub quietly : ℕ → Bool
  quietly s = downward true (λ f n. is_quiet (stmt_at p n) && all f (parts (stmt_at p n))) s

  -- ANSWER 7: every exit is quiet
  abbrev pub quiet : Asked
  quiet = record {
    variable = nothing;
    expr = nothing;
    stmt = nothing;
    action = nothing;
    state = λ n q. is_true (quietly q.exit);
    step = nothing;
    call = nothing;
    act = nothing;
    start = λ k. free;
  }

  -- 8: "height over 32, or more than 8 `*`"
  abbrev pub low : Asked
  low = record {
    variable = nothing;
    expr = λ n e. at_most (tree_height (tree p n)) HEIGHT;
    stmt = λ n s. at_most (height p n) HEIGHT also at_most (total (λ e. stars (tree p e)) (exprs_of s)) STARS;
    action = nothing;
    state = nothing;
    step = nothing;
    call = nothing;
    act = nothing;
    start = λ k. free;
  }
