-- One more row in each table, as the stores make it.
use Rattle.std.specs.Prelude.{ℕ, ◌+◌, ◌*◌, ◌<◌, ◌≡◌, get_or}
use Rattle.std.proofs.Common.{ap, sym, ◌∙◌, add-zero, arith}
use mathlib.Core.List.{List, [], ◌∷◌, ◌++◌, map, append_assoc, append-nil, map-append}
use Rattle.std.proofs.Math.Nat.{zero-add}
use Rattle.std.proofs.Math.ListN.{length, set, length-append, length-map}
use Rattle.lists.specs.Lists.{flat}
use Rattle.lists.specs.Keep.{flat_snoc}
use Rattle.rows.specs.Pad.{pad, pad_set}
use Rattle.values.specs.declared.Ty.{Ty}
use Rattle.programs.specs.Sizes.{KINDS, EVENTS, VARIABLES, EXPRS, STMTS, ACTIONS, STATES}
use Rattle.programs.specs.declared.Expr.{Expr}
use Rattle.programs.specs.Program.{Variable, Stmt, Action, State, Move}
use Rattle.soundness.specs.Asked.{init_of}
use Rattle.machines.specs.Config.{Choice}
use Rattle.tabled.specs.Tabled.{byte_of, word_of, ty_code, event_table, variable_kinds, variable_types, expr_row, expr_table, stmt_row, stmt_rows, stmt_table}
use Rattle.choices.specs.Choices.{choice_word}
use Rattle.tabled.specs.Tabled.{action_kinds, action_bodies, state_kind, state_kinds, state_entries, state_exits, move_row, move_table, choice_table}
use Rattle.putting.specs.Asked.{EventRoom, VariableTables, VariableRoom, ExprRoom, StmtRoom, ActionTables, ActionRoom, StateTables, StateRoom, MoveRoom, ChoiceRoom}
use Rattle.putting.specs.Stored.{more, one_stored, three_stored, five_stored}
use Rattle.putting.specs.Behind.{row_one, row_three, row_five}
use Rattle.putting.specs.Counts.{expr_rows, stmt_rows_lem, move_rows, event_count, variable_count, expr_count, stmt_count, action_count, state_count}

-- TABLES OF IMAGES
module _ {A : Type 0} (size : ℕ) (f : A → ℕ) (l : List A) (x : A) (h : length l + 1 < size) where
  -- one more, whatever number stands in front
  image_more : (c : ℕ) → set (pad 0 size (c ∷ map f l)) (length l + 1) (f x) ≡ pad 0 size (c ∷ map f (l ++ x ∷ []))
  image_more c =
      let n : length (c ∷ map f l) ≡ length l + 1 = simp length-map (omega arith) in
      row_one 0 size (length l + 1) (c ∷ map f l) n (f x) h ∙ ap (λ (r : List ℕ). pad 0 size (c ∷ r)) (sym (map-append f l (x ∷ [])))

  -- and one more in the count
  counted_more : set (set (pad 0 size (length l ∷ map f l)) (length l + 1) (f x)) 0 (length l + 1) ≡ pad 0 size (length (l ++ x ∷ []) ∷ map f (l ++ x ∷ []))
  counted_more =
      ap (λ (t : List ℕ). set t 0 (length l + 1)) (image_more (length l)) ∙ pad_set 0 size (length l ∷ map f (l ++ x ∷ [])) 0 (length l + 1) (omega arith)
      ∙ ap (λ (n : ℕ). pad 0 size (n ∷ map f (l ++ x ∷ []))) (sym (length-append l (x ∷ [])))

-- EVENTS
module _ {types : List ℕ} (h : EventRoom types) where
  -- fewer than the table has places for
  pub event_room : get_or types 0 0 < EVENTS
  event_room = rw h.held (omega (arith, event_count h.rows))

  -- one more
  pub event_put : (e : Ty) {t : ℕ} → ty_code e ≡ t → one_stored types t ≡ event_table (h.rows ++ e ∷ [])
  unfolding event_table
  event_put e q = rw (← q, h.held, event_count h.rows) (counted_more 65 ty_code h.rows e (omega arith))

-- VARIABLES
module _ {kinds types : List ℕ} (h : VariableRoom kinds types) where
  -- fewer than the tables have places for
  pub variable_room : get_or kinds 0 0 < KINDS * VARIABLES
  variable_room = rw h.held.of (omega (arith, variable_count h.rows))

  -- one more
  pub variable_put : (v : Variable) {k t : ℕ} {kinds' types' : List ℕ} → word_of v.of ≡ k → ty_code v.type ≡ t → (kinds' ≡ one_stored kinds k) × (types' ≡ set types (more kinds) t)
      → VariableTables (h.rows ++ v ∷ []) kinds' types'
  unfolding variable_kinds variable_types
  variable_put v p q e = record {
    of = e.0 ∙ rw (← p, h.held.of, variable_count h.rows) (counted_more 257 (λ w. word_of w.of) h.rows v (omega arith));
    type = e.1 ∙ rw (← q, h.held.of, h.held.type, variable_count h.rows) (image_more 257 (λ w. ty_code w.type) h.rows v (omega arith) 0);
  }

-- EXPRESSIONS
module _ {exprs : List ℕ} (h : ExprRoom exprs) where
  -- fewer than the table has places for
  pub expr_room : get_or exprs 0 0 < EXPRS
  expr_room = rw h.held (omega (arith, expr_count h.rows))

  -- one more
  pub expr_put : (e : Expr) {k x y : ℕ} → expr_row e ≡ k ∷ x ∷ y ∷ [] → three_stored exprs k x y ≡ expr_table (h.rows ++ e ∷ [])
  unfolding expr_table
  expr_put e {k} {x} {y} q =
      let xs = h.rows in
      rw (h.held, expr_count xs, flat_snoc expr_row xs e, q, length-append xs (e ∷ []))
      (ap (λ (l : List ℕ). set l 0 (length xs + 1)) (row_three 0 3075 (3 * (length xs + 1)) (length xs ∷ 0 ∷ 0 ∷ flat expr_row xs) (omega (arith, expr_rows xs)) k x y (omega arith))
      ∙ pad_set 0 3075 (length xs ∷ _) 0 (length xs + 1) (omega arith))

-- STATEMENTS
-- the rows with one more, whose first pair stands behind those of the others
stmt_rows_snoc : (i : ℕ) (ss : List Stmt) (s : Stmt) → stmt_rows i (ss ++ s ∷ []) ≡ stmt_rows i ss ++ stmt_row (i + length (flat init_of ss)) s
stmt_rows_snoc i [] s = rw (add-zero i) (append-nil (stmt_row i s))
stmt_rows_snoc i (t ∷ ss) s =
    let e : i + length (init_of t) + length (flat init_of ss) ≡ i + length (init_of t ++ flat init_of ss) = simp length-append (omega arith) in
    rw (stmt_rows_snoc (i + length (init_of t)) ss s, e) (sym (append_assoc (stmt_row i t) (stmt_rows (i + length (init_of t)) ss) _))

module _ {stmts : List ℕ} (h : StmtRoom stmts) where
  -- fewer than the table has places for
  pub stmt_room : get_or stmts 0 0 < STMTS
  stmt_room = rw h.held (omega (arith, stmt_count h.rows))

  -- one more
  pub stmt_put : (s : Stmt) {k x y z n : ℕ} → stmt_row (length (flat init_of h.rows)) s ≡ k ∷ x ∷ y ∷ z ∷ n ∷ [] → five_stored stmts k x y z n ≡ stmt_table (h.rows ++ s ∷ [])
  unfolding stmt_table
  stmt_put s {k} {x} {y} {z} {n} q =
      let ss = h.rows in
      rw (h.held, stmt_count ss, stmt_rows_snoc 0 ss s, zero-add, q, length-append ss (s ∷ []))
      (ap (λ (l : List ℕ). set l 0 (length ss + 1)) (row_five 0 5125 (5 * (length ss + 1)) (length ss ∷ 0 ∷ 0 ∷ 0 ∷ 0 ∷ stmt_rows 0 ss) (omega (arith, stmt_rows_lem 0 ss)) k x y z n (omega arith))
      ∙ pad_set 0 5125 (length ss ∷ _) 0 (length ss + 1) (omega arith))

-- ACTIONS
module _ {kinds bodies : List ℕ} (h : ActionRoom kinds bodies) where
  -- fewer than the tables have places for
  pub action_room : get_or kinds 0 0 < ACTIONS
  action_room = rw h.held.of (omega (arith, action_count h.rows))

  -- one more
  pub action_put : (a : Action) {k b : ℕ} {kinds' bodies' : List ℕ} → byte_of a.of ≡ k → word_of a.body ≡ b → (kinds' ≡ one_stored kinds k) × (bodies' ≡ set bodies (more kinds) b)
      → ActionTables (h.rows ++ a ∷ []) kinds' bodies'
  unfolding action_kinds action_bodies
  action_put a p q e = record {
    of = e.0 ∙ rw (← p, h.held.of, action_count h.rows) (counted_more 65 (λ c. byte_of c.of) h.rows a (omega arith));
    body = e.1 ∙ rw (← q, h.held.of, h.held.body, action_count h.rows) (image_more 65 (λ c. word_of c.body) h.rows a (omega arith) 0);
  }

-- STATES
module _ {kinds entries exits : List ℕ} (h : StateRoom kinds entries exits) where
  -- fewer than the tables have places for
  pub state_room : get_or kinds 0 0 < STATES
  state_room = rw h.held.of (omega (arith, state_count h.rows))

  -- one more
  pub state_put : (s : State) {k entry exit : ℕ} {kinds' entries' exits' : List ℕ} → state_kind s ≡ k → word_of s.entry ≡ entry → word_of s.exit ≡ exit
      → (kinds' ≡ one_stored kinds k) × ((entries' ≡ set entries (more kinds) entry) × (exits' ≡ set exits (more kinds) exit)) → StateTables (h.rows ++ s ∷ []) kinds' entries' exits'
  unfolding state_kinds state_entries state_exits
  state_put s p q r e = record {
    of = e.0 ∙ rw (← p, h.held.of, state_count h.rows) (counted_more 65 state_kind h.rows s (omega arith));
    entry = e.1.0 ∙ rw (← q, h.held.of, h.held.entry, state_count h.rows) (image_more 65 (λ n. word_of n.entry) h.rows s (omega arith) 0);
    exit = e.1.1 ∙ rw (← r, h.held.of, h.held.exit, state_count h.rows) (image_more 65 (λ n. word_of n.exit) h.rows s (omega arith) 0);
  }

-- MOVES
module _ {moves : List ℕ} {n : ℕ} (h : MoveRoom moves n) where
  -- one more
  pub move_put : (m : Move) {from on to : ℕ} → move_row m ≡ from ∷ on ∷ to ∷ [] → set (set (set moves (3 * n) from) (3 * n + 1) on) (3 * n + 2) to ≡ move_table (h.rows ++ m ∷ [])
  unfolding move_table
  move_put m {from} {on} {to} q =
      let ms = h.rows in
      rw (h.held, flat_snoc move_row ms m, q) (row_three 0 12288 (3 * n) (flat move_row ms) (omega (arith, move_rows ms)) from on to (omega arith))

-- CHOICES
module _ {choices : List ℕ} {n : ℕ} (h : ChoiceRoom choices n) where
  -- one more
  pub choice_put : (c : Choice) {machine bits : ℕ} → c.machine ≡ machine → c.bits ≡ bits → set choices n (machine * 256 + bits) ≡ choice_table (h.rows ++ c ∷ [])
  unfolding choice_table
  choice_put c p q =
      let cs = h.rows in
      let e : length (map choice_word cs) ≡ n = simp length-map h.count in
      rw (h.held, ← p, ← q, map-append choice_word cs (c ∷ [])) (row_one 0 4096 n (map choice_word cs) e (choice_word c) (omega arith))
