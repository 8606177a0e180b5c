-- How long the rows of the tables are together; the tables' counts and lengths.
use Rattle.std.specs.Prelude.{ℕ, ◌+◌, ◌*◌, ◌≤◌, ◌<◌, ◌≡◌, refl, List, [], ◌∷◌, ◌++◌, map, length, get_or, replicate}
use Rattle.std.proofs.Common.{◌∙◌, arith, length-append}
use Rattle.std.proofs.lemmas.List.{length-map, length-replicate}
use Rattle.lists.specs.Lists.{flat}
use Rattle.lists.specs.Facts.{All-each}
use Rattle.lists.specs.Keep.{flat_length}
use Rattle.rows.specs.Pad.{pad, pad_length, pad_get}
use Rattle.values.specs.declared.Ty.{Ty}
use Rattle.programs.specs.Sizes.{KINDS, EVENTS, VARIABLES, EXPRS, STMTS, ACTIONS, STATES, CHOICES}
use Rattle.programs.specs.declared.Expr.{Expr}
use Rattle.programs.specs.Program.{Variable, Stmt, Action, State, Move}
use Rattle.soundness.specs.Asked.{init_of}
use Rattle.machines.specs.Config.{Choice}
use Rattle.tables.specs.Decode.{MOVES, PAIRS}
use Rattle.tabled.specs.Tabled.{ty_code, event_table, variable_kinds, variable_types, expr_row, expr_table, stmt_row, stmt_rows, stmt_table, pair_row, init_pool}
use Rattle.tabled.specs.Widths.{expr_three, stmt_five, flag_length}
use Rattle.tabled.specs.Tabled.{action_kinds, action_bodies, state_kinds, state_entries, state_exits, flag_row, defer_table, move_row, move_table, choice_table}

-- ROWS
-- rows of one width
rows_length : {A : Type 0} (row : A → List ℕ) (w : ℕ) → ((x : A) → length (row x) ≡ w) → (l : List A) → length (flat row l) ≡ length l * w
rows_length row w f l = flat_length row w l (All-each (λ x. length (row x) ≡ w) f l)

-- the expressions' rows
pub expr_rows : (xs : List Expr) → length (flat expr_row xs) ≡ length xs * 3
expr_rows xs = rows_length expr_row 3 expr_three xs

-- the statements'
pub stmt_rows_lem : (i : ℕ) (ss : List Stmt) → length (stmt_rows i ss) ≡ length ss * 5
stmt_rows_lem i [] = refl
stmt_rows_lem i (s ∷ ss) =
    length-append (stmt_row i s) (stmt_rows (i + length (init_of s)) ss) ∙ omega (arith, stmt_five i s, stmt_rows_lem (i + length (init_of s)) ss)

-- the pairs'
pub pair_rows : (l : List (ℕ × ℕ)) → length (flat pair_row l) ≡ length l * 2
pair_rows l = rows_length pair_row 2 (λ x. refl) l

-- the states' flags
pub flag_rows : (ns : List State) → length (flat flag_row ns) ≡ length ns * 65
flag_rows ns = rows_length flag_row 65 flag_length ns

-- the moves'
pub move_rows : (ms : List Move) → length (flat move_row ms) ≡ length ms * 3
move_rows ms = rows_length move_row 3 (λ x. refl) ms

-- COUNTS: place 0 has how many
-- events
pub event_count : (es : List Ty) → get_or (event_table es) 0 0 ≡ length es
unfolding event_table
event_count es = pad_get 0 65 _ 0

-- variables
pub variable_count : (vs : List Variable) → get_or (variable_kinds vs) 0 0 ≡ length vs
unfolding variable_kinds
variable_count vs = pad_get 0 257 _ 0

-- expressions
pub expr_count : (xs : List Expr) → get_or (expr_table xs) 0 0 ≡ length xs
unfolding expr_table
expr_count xs = pad_get 0 3075 _ 0

-- statements
pub stmt_count : (ss : List Stmt) → get_or (stmt_table ss) 0 0 ≡ length ss
unfolding stmt_table
stmt_count ss = pad_get 0 5125 _ 0

-- actions
pub action_count : (acs : List Action) → get_or (action_kinds acs) 0 0 ≡ length acs
unfolding action_kinds
action_count acs = pad_get 0 65 _ 0

-- states
pub state_count : (ns : List State) → get_or (state_kinds ns) 0 0 ≡ length ns
unfolding state_kinds
state_count ns = pad_get 0 65 _ 0

-- LENGTHS of the tables of lines that fit
-- a count and its rows' images
counted_length : {A : Type 0} (size c : ℕ) (f : A → ℕ) (l : List A) → length l < size → length (pad 0 size (c ∷ map f l)) ≡ size
counted_length size c f l h = pad_length 0 size (c ∷ map f l) (simp length-map (omega arith))

-- events
pub event_length : (es : List Ty) → length es ≤ EVENTS → length (event_table es) ≡ 65
unfolding event_table
event_length es h = counted_length 65 _ ty_code es (omega arith)

-- the variables' kinds
pub variable_kinds_length : (vs : List Variable) → length vs ≤ KINDS * VARIABLES → length (variable_kinds vs) ≡ 257
unfolding variable_kinds
variable_kinds_length vs h = counted_length 257 _ _ vs (omega arith)

-- and types
pub variable_types_length : (vs : List Variable) → length vs ≤ KINDS * VARIABLES → length (variable_types vs) ≡ 257
unfolding variable_types
variable_types_length vs h = counted_length 257 _ _ vs (omega arith)

-- expressions
pub expr_length : (xs : List Expr) → length xs ≤ EXPRS → length (expr_table xs) ≡ 3075
unfolding expr_table
expr_length xs h = pad_length 0 3075 _ (omega (arith, expr_rows xs))

-- statements
pub stmt_length : (ss : List Stmt) → length ss ≤ STMTS → length (stmt_table ss) ≡ 5125
unfolding stmt_table
stmt_length ss h = pad_length 0 5125 _ (omega (arith, stmt_rows_lem 0 ss))

-- the pool of pairs
pub pool_length : (ss : List Stmt) → length (flat init_of ss) ≤ PAIRS → length (init_pool ss) ≡ 30000
unfolding init_pool
pool_length ss h = pad_length 0 30000 _ (omega (arith, pair_rows (flat init_of ss)))

-- the actions' kinds
pub action_kinds_length : (acs : List Action) → length acs ≤ ACTIONS → length (action_kinds acs) ≡ 65
unfolding action_kinds
action_kinds_length acs h = counted_length 65 _ _ acs (omega arith)

-- and statements
pub action_bodies_length : (acs : List Action) → length acs ≤ ACTIONS → length (action_bodies acs) ≡ 65
unfolding action_bodies
action_bodies_length acs h = counted_length 65 _ _ acs (omega arith)

-- the states' kinds,
pub state_kinds_length : (ns : List State) → length ns ≤ STATES → length (state_kinds ns) ≡ 65
unfolding state_kinds
state_kinds_length ns h = counted_length 65 _ _ ns (omega arith)

-- their statements at entry
pub state_entries_length : (ns : List State) → length ns ≤ STATES → length (state_entries ns) ≡ 65
unfolding state_entries
state_entries_length ns h = counted_length 65 _ _ ns (omega arith)

-- and at exit,
pub state_exits_length : (ns : List State) → length ns ≤ STATES → length (state_exits ns) ≡ 65
unfolding state_exits
state_exits_length ns h = counted_length 65 _ _ ns (omega arith)

-- and their flags
pub defer_length : (ns : List State) → length ns ≤ STATES → length (defer_table ns) ≡ 4225
unfolding defer_table
defer_length ns h =
    let n : length (replicate 65 0 ++ flat flag_row ns) ≤ 4225 = simp (length-append, length-replicate) (omega (arith, flag_rows ns)) in
    pad_length 0 4225 _ n

-- moves
pub move_length : (ms : List Move) → length ms ≤ MOVES → length (move_table ms) ≡ 12288
unfolding move_table
move_length ms h = pad_length 0 12288 _ (omega (arith, move_rows ms))

-- choices
pub choice_length : (cs : List Choice) → length cs ≤ CHOICES → length (choice_table cs) ≡ 4096
unfolding choice_table
choice_length cs h = pad_length 0 4096 _ (simp length-map h)
