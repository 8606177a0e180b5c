-- The events, the variables, the expressions, the actions and the moves of a program, read back from their tables.
use Rattle.std.specs.Prelude.{ℕ, ◌+◌, ◌-◌, ◌*◌, ◌≤◌, ◌<◌, min, ◌≡◌, refl, true, false, List, [], ◌∷◌, ◌++◌, map, ℤ, length, get_or}
use Rattle.std.proofs.Common.{ap, ◌∙◌, map-id, arith}
use Rattle.lists.specs.Lists.{All, flat}
use Rattle.lists.specs.Facts.{All-at}
use Rattle.rows.specs.Pad.{pad}
use Rattle.values.specs.declared.Ty.{Ty}
use Rattle.values.specs.declared.Ty.TheVariants.{Void as void, Bool as bool, Int as int, Event as event, Id as id}
use Rattle.values.specs.declared.Unary.TheVariants.{Not as not', Neg as neg}
use Rattle.values.specs.declared.Binary.TheVariants.{Add as add, Sub as sub, And as and, Or as or}
use Rattle.programs.specs.Sizes.{KINDS, EVENTS, VARIABLES, EXPRS, ACTIONS}
use Rattle.programs.specs.declared.Leaf.{Leaf}
use Rattle.programs.specs.declared.Leaf.TheVariants.{Bot as bot, Int as int_val, Bool as bool_val, Var as var, This as this, Msg as msg, Arg as arg, Star as star}
use Rattle.programs.specs.declared.Expr.{Expr}
use Rattle.programs.specs.declared.Expr.TheVariants.{Leaf as leaf, Unary as unary, Binary as binary}
use Rattle.programs.specs.Program.{Program, Variable, Action, Move}
use Rattle.soundness.specs.Sound.{leaf_ranged, expr_ranged}
use Rattle.codes.specs.Laws.{int_back}
use Rattle.tables.specs.Decode.{byte, short, ty_of, events_of, no_variable, variables_of, expr_of, expr_in, exprs_of, no_action, actions_of, MOVES, move_in, moves_of}
use Rattle.faults.specs.Read.{no_move}
use Rattle.tabled.specs.Tabled.{word_of, byte_of, ty_code, event_table, variable_kinds, variable_types, leaf_row, expr_row, expr_table, action_kinds, action_bodies, move_row, move_table}
use Rattle.tabled.specs.Widths.{expr_three}
use Rattle.standing.specs.Stood.{word_again, byte_again, variable_stood, expr_stood, leaf_stood, action_stood, move_stood}
use Rattle.standing.specs.Columns.{table_map, table_reads, head_get, column_get, row_within, row_after}

-- TYPES
-- a type's number names it
type_back : (t : Ty) → ty_of (ty_code t) ≡ t
unfolding ty_of
type_back void = refl
type_back bool = refl
type_back int = refl
type_back event = refl
type_back id = refl

-- EVENTS
pub events_read : (es : List Ty) → length es ≤ EVENTS → events_of (event_table es) ≡ es
unfolding events_of event_table
events_read es h = table_reads _ (λ t. t) void _ EVENTS es (head_get 65 (length es) (map ty_code es)) h
    (λ i b. ap ty_of (column_get ty_code void 65 (length es) es i b) ∙ type_back (get_or es i void)) ∙ map-id es

-- VARIABLES
pub variables_read : (vs : List Variable) → length vs ≤ KINDS * VARIABLES → variables_of (variable_kinds vs) (variable_types vs) ≡ map variable_stood vs
unfolding variables_of variable_kinds variable_types
variables_read vs h = table_reads _ variable_stood no_variable _ (KINDS * VARIABLES) vs (head_get 257 (length vs) _) h (λ i b.
    let k = column_get (λ v. word_of v.of) no_variable 257 (length vs) vs i b in
    let t = column_get (λ v. ty_code v.type) no_variable 257 0 vs i b in
    λ j. record { of = (ap byte k ∙ byte_again (get_or vs i no_variable).of) j; type = (ap ty_of t ∙ type_back (get_or vs i no_variable).type) j })

-- ACTIONS
pub actions_read : (acs : List Action) → length acs ≤ ACTIONS → actions_of (action_kinds acs) (action_bodies acs) ≡ map action_stood acs
unfolding actions_of action_kinds action_bodies
actions_read acs h = table_reads _ action_stood no_action _ ACTIONS acs (head_get 65 (length acs) _) h (λ i b.
    let k = column_get (λ a. byte_of a.of) no_action 65 (length acs) acs i b in
    let s = column_get (λ a. word_of a.body) no_action 65 0 acs i b in
    λ j. record { of = k j; body = s j })

-- MOVES
-- those of a run of the moves, with others before and behind it
pub moves_read : (before ms behind : List Move) → length before + length ms ≤ MOVES
    → moves_of (move_table (before ++ (ms ++ behind))) (length before) (length ms) ≡ map move_stood ms
unfolding moves_of move_table
moves_read before ms behind h =
    let n : min (length ms) (MOVES - length before) ≡ length ms = omega arith in
    rw n (table_map (move_in (pad 0 12288 (flat move_row (before ++ (ms ++ behind))))) move_stood no_move (length before) ms (λ i b. λ j. record {
      from = (cell i b 0 ((length before + i) * 3) (omega arith) (omega arith)) j;
      on = (cell i b 1 ((length before + i) * 3 + 1) (omega arith) (omega arith)) j;
      to = (cell i b 2 ((length before + i) * 3 + 2) (omega arith) (omega arith)) j;
    }))
  where
    -- word j of move i
    cell : (i : ℕ) → i < length ms → (j k : ℕ) → j < 3 → k ≡ (length before + i) * 3 + j
        → get_or (pad 0 12288 (flat move_row (before ++ (ms ++ behind)))) k 0 ≡ get_or (move_row (get_or ms i no_move)) j 0
    cell i b j k h e = row_within move_row 3 no_move (λ x. refl) 12288 before ms behind i j k b h e

-- a row read
abbrev row_expr : ℕ → ℕ → ℕ → Expr
row_expr k x y = expr_of k x (short x) (short y)

-- a leaf's row reads as the leaf
leaf_back : (p : Program) (l : Leaf) → (leaf_ranged p l).Holds → row_expr (get_or (leaf_row l) 0 0) (get_or (leaf_row l) 1 0) (get_or (leaf_row l) 2 0) ≡ leaf (leaf_stood l)
unfolding expr_of
leaf_back p bot h = refl
leaf_back p (int_val z) h = ap (λ (y : ℤ). leaf (int_val y)) (int_back z h)
leaf_back p (bool_val true) h = refl
leaf_back p (bool_val false) h = refl
leaf_back p (var x) h = ap (λ (n : ℕ). leaf (var n)) (word_again x)
leaf_back p this h = refl
leaf_back p msg h = refl
leaf_back p arg h = refl
leaf_back p star h = refl

-- an expression's row reads as the expression
expr_back : (p : Program) (e : Expr) → (expr_ranged p e).Holds → row_expr (get_or (expr_row e) 0 0) (get_or (expr_row e) 1 0) (get_or (expr_row e) 2 0) ≡ expr_stood e
unfolding expr_of
expr_back p (leaf l) h = leaf_back p l h
expr_back p (unary not' a) h = ap (unary not') (word_again a)
expr_back p (unary neg a) h = ap (unary neg) (word_again a)
expr_back p (binary add a b) h = λ i. binary add (word_again a i) (word_again b i)
expr_back p (binary sub a b) h = λ i. binary sub (word_again a i) (word_again b i)
expr_back p (binary and a b) h = λ i. binary and (word_again a i) (word_again b i)
expr_back p (binary or a b) h = λ i. binary or (word_again a i) (word_again b i)

-- the expressions
pub exprs_read : (p : Program) (xs : List Expr) → length xs ≤ EXPRS → All (λ e. (expr_ranged p e).Holds) xs → exprs_of (expr_table xs) ≡ map expr_stood xs
unfolding exprs_of expr_table
exprs_read p xs h r = table_reads (expr_in (pad 0 3075 (length xs ∷ 0 ∷ 0 ∷ flat expr_row xs))) expr_stood (leaf bot) _ EXPRS xs (head_get 3075 (length xs) _) h (λ i b.
    (λ j. row_expr (cell i b 0 ((1 + i) * 3) (omega arith) (omega arith) j) (cell i b 1 ((1 + i) * 3 + 1) (omega arith) (omega arith) j)
    (cell i b 2 ((1 + i) * 3 + 2) (omega arith) (omega arith) j))
    ∙ expr_back p (get_or xs i (leaf bot)) (All-at (λ e. (expr_ranged p e).Holds) (leaf bot) xs i b r))
  where
    -- word j of expression i
    cell : (i : ℕ) → i < length xs → (j k : ℕ) → j < 3 → k ≡ 3 + (i * 3 + j)
        → get_or (pad 0 3075 (length xs ∷ 0 ∷ 0 ∷ flat expr_row xs)) k 0 ≡ get_or (expr_row (get_or xs i (leaf bot))) j 0
    cell i b j k h e = row_after expr_row 3 (leaf bot) expr_three 3075 (length xs ∷ 0 ∷ 0 ∷ []) xs i j k refl b h e
