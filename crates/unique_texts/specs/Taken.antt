-- THE LINES OF EACH KIND, taken into the arrays of their kind. A contract speaks of all lines that the arrays were asked to hold, and of what the line says that is
-- taken: a line in the form's number always says something. What the arrays hold with it, or that they are as they were, fixes them.
use Rattle.std.specs.Prelude.{Option, None, Some, ℕ, ◌+◌, ◌-◌, ◌≤◌, ◌<◌, ◌≡◌, refl, Bool, true, false, ◌&&◌, List, [], ◌∷◌, ◌++◌, eqb, length, take}
use Rattle.std.proofs.Common.{ap, sym, ◌∙◌, ⊎_elim, arith, ext_get_or}
use Rattle.lists.specs.Lists.{All, There}
use Rattle.rows.specs.Pad.{below?}
use Rattle.values.specs.declared.Ty.{Ty}
use Rattle.programs.specs.Sizes.{EVENTS, KINDS, EXPRS, STMTS, ACTIONS, STATES}
use Rattle.programs.specs.declared.Expr.{Expr}
use Rattle.programs.specs.Program.{Variable, Stmt, Action, State}
use Rattle.machines.specs.Config.{Choice}
use Rattle.texts.specs.Forms.{event_line, machine_line, var_line, expr_line, stmt_line, action_line, state_line, start_line, choice_line}
use Rattle.texts.specs.Reading.{next, room}
use Rattle.tables.specs.declared.Kind.{Kind}
use Rattle.tables.specs.Decode.{no_variable}
use Rattle.tabled.specs.Tabled.{byte_of, event_table, expr_table, move_table, choice_table}
use Rattle.spoken.specs.Spoken.{line_at}
use Rattle.spoken.specs.Took.{Took}
use Rattle.putting.specs.Asked.{VariableTables, ActionTables, MoveRoom}
use Rattle.taking.specs.Lines.{move_at}
use Rattle.taking.specs.Held.{EventHeld, ActionHeld, ChoiceHeld, choosable}
use Rattle.taking.specs.Variables.{FirstAbsent, VariablesHeld, Variables, Kept}
use Rattle.taking.specs.More.{every_at}
use Rattle.taking_exprs.specs.Held.{ExprHeld}
use Rattle.taking_stmts.specs.Held.{StmtTables, StmtHeld}
use Rattle.taking_states.specs.Held.{FlaggedTables, StateHeld}
use Rattle.taking_lines.specs.Rows.{event_row, machine_row, variable_row, expr_row, stmt_row, action_row, state_row, start_row, choice_row}
use Rattle.unique.specs.Forms.{one_result}

-- A LINE TAKEN, where what is held with it and what is held without it are each one
pub took_one : {A : Type 0} {test : Bool} (P Q : A → Type 0) → ((x y : A) → P x → P y → x ≡ y) → ((x y : A) → Q x → Q y → x ≡ y) → (r t : Bool) (x y : A)
    → Took r test (P x) (Q x) → Took t test (P y) (Q y) → (r ≡ t) × (x ≡ y)
took_one P Q p q r t x y h k = let e = h.told ∙ sym k.told in (e, go r refl e)
  where
    go : (b : Bool) → r ≡ b → r ≡ t → x ≡ y
    go true f e = p x y (h.done f) (k.done (sym e ∙ f))
    go false f e = q x y (h.left f) (k.left (sym e ∙ f))

-- TWO LISTS that are each known
two_one : {A B : Type 0} {a : A} {b : B} (x y : A × B) → (x.0 ≡ a) × (x.1 ≡ b) → (y.0 ≡ a) × (y.1 ≡ b) → x ≡ y
two_one x y h k = λ i. ((h.0 ∙ sym k.0) i, (h.1 ∙ sym k.1) i)

-- THE TABLES of some lines
-- of variables
pub variable_tables_one : (vs : List Variable) (x y : List ℕ × List ℕ) → VariableTables vs x.0 x.1 → VariableTables vs y.0 y.1 → x ≡ y
variable_tables_one vs x y h k = two_one x y (h.of, h.type) (k.of, k.type)

-- of actions
pub action_tables_one : (acs : List Action) (x y : List ℕ × List ℕ) → ActionTables acs x.0 x.1 → ActionTables acs y.0 y.1 → x ≡ y
action_tables_one acs x y h k = two_one x y (h.of, h.body) (k.of, k.body)

-- of statements, with how many pairs they have
pub stmt_tables_one : (ss : List Stmt) (x y : List ℕ × List ℕ × ℕ) → StmtTables ss x.0 x.1 x.2 → StmtTables ss y.0 y.1 y.2 → x ≡ y
stmt_tables_one ss x y h k = λ i. ((h.table ∙ sym k.table) i, (h.pool ∙ sym k.pool) i, (h.count ∙ sym k.count) i)

-- of states, with their flags
pub state_tables_one : (ns : List State) (x y : List ℕ × List ℕ × List ℕ × List ℕ) → FlaggedTables ns x.0 x.1 x.2 x.3 → FlaggedTables ns y.0 y.1 y.2 y.3 → x ≡ y
state_tables_one ns x y h k = λ i.
    ((h.states.of ∙ sym k.states.of) i, (h.states.entry ∙ sym k.states.entry) i, (h.states.exit ∙ sym k.states.exit) i, (h.defers ∙ sym k.defers) i)

-- WHAT IS HELD OF THE VARIABLES: their tables, how many there are of each kind, how many lines, and the first whose kind is not there
module _ (vs : List Variable) (ms : ℕ) where
  -- of two that are the first, neither is before the other,
  first_low : (a b : ℕ) → FirstAbsent vs ms a → FirstAbsent vs ms b → a < b → ⊥
  first_low a b h k l = h.absent (k.lower a h.here.0 l)

  -- and there is none where every kind is there
  first_none : (a : ℕ) → All (λ v. There ms v.of) vs → FirstAbsent vs ms a → ⊥
  first_none a h k = k.absent (every_at (λ v. There ms v.of) no_variable vs a k.here.0 k.here.1 h)

  -- which one it is
  absent_one : (a b : Option ℕ) → (a ≡ None → All (λ v. There ms v.of) vs) → ((i : ℕ) → a ≡ Some i → FirstAbsent vs ms i) → (b ≡ None → All (λ v. There ms v.of) vs)
      → ((i : ℕ) → b ≡ Some i → FirstAbsent vs ms i) → a ≡ b
  absent_one None None f g h k = refl
  absent_one None (Some j) f g h k = absurd (first_none j (f refl) (k j refl))
  absent_one (Some i) None f g h k = absurd (first_none i (h refl) (g i refl))
  absent_one (Some i) (Some j) f g h k = ap (λ (n : ℕ). Some n) (⊎_elim
      (λ (l : i < j). absurd (first_low i j (g i refl) (k j refl) l))
      (λ (l : j ≤ i). ⊎_elim (λ (m : j < i). absurd (first_low j i (k j refl) (g i refl) m)) (λ (m : i ≤ j). omega arith) (below? j i))
      (below? i j))

  -- all of it
  pub variables_one : (x y : List ℕ × List ℕ × List ℕ × ℕ × Option ℕ) → VariablesHeld vs ms x.0 x.1 x.2 x.3 x.4 → VariablesHeld vs ms y.0 y.1 y.2 y.3 y.4 → x ≡ y
  variables_one x y h k = λ i. ((tables i).0, (tables i).1, rooms i, (h.count ∙ sym k.count) i, absent i)
    where
      absent : x.4 ≡ y.4
      absent = absent_one x.4 y.4 h.there h.first k.there k.first

      rooms : x.2 ≡ y.2
      rooms = ext_get_or 0 x.2 y.2 (h.size ∙ sym k.size) (λ j l. let b : j ≤ KINDS = omega (arith, h.size) in h.counts j b ∙ sym (k.counts j b))

      tables : ◌≡◌ {A = List ℕ × List ℕ} (x.0, x.1) (y.0, y.1)
      tables = go x.4 refl
        where
          go : (a : Option ℕ) → x.4 ≡ a → ◌≡◌ {A = List ℕ × List ℕ} (x.0, x.1) (y.0, y.1)
          go None z = variable_tables_one vs (x.0, x.1) (y.0, y.1) (h.tables z) (k.tables (sym absent ∙ z))
          go (Some i) z = variable_tables_one (take (i - 1) vs) (x.0, x.1) (y.0, y.1) (h.front i z) (k.front i (sym absent ∙ z))

-- EACH KIND OF LINE, in form number row and at its places of the text s
module _ (s places : List ℕ) where
  -- what `taking::take_event` ensures
  abbrev EventTaken : ℕ → List ℕ → Bool → List ℕ → Type 0
  EventTaken row types r x = (h : EventHeld types) (i : ℕ) (t : Ty) → line_at s places row ≡ event_line i t
      → Took r (next EVENTS (length h.rows) i) (x ≡ event_table (h.rows ++ t ∷ [])) (x ≡ types)

  pub event_one : (row : ℕ) → row ≤ 4 → (types : List ℕ) → EventHeld types → (r t : Bool) (x y : List ℕ) → EventTaken row types r x → EventTaken row types t y → (r ≡ t) × (x ≡ y)
  event_one row low types held r t x y h k =
      let l = event_row s places row (omega arith) in
      took_one (λ z. z ≡ event_table (held.rows ++ l.1 ∷ [])) (λ z. z ≡ types) (one_result (event_table (held.rows ++ l.1 ∷ []))) (one_result types) r t x y
      (h held l.0 l.1 l.2) (k held l.0 l.1 l.2)

  -- what `taking::take_machine` ensures
  abbrev MachineTaken : ℕ → Bool → ℕ → Type 0
  MachineTaken kinds r x = (i : ℕ) → line_at s places 5 ≡ machine_line i → Took r (next KINDS kinds i) (x ≡ kinds + 1) (x ≡ kinds)

  pub machine_one : (kinds : ℕ) (r t : Bool) (x y : ℕ) → MachineTaken kinds r x → MachineTaken kinds t y → (r ≡ t) × (x ≡ y)
  machine_one kinds r t x y h k =
      let l = machine_row s places 5 (omega arith) (omega arith) in
      took_one (λ z. z ≡ kinds + 1) (λ z. z ≡ kinds) (one_result (kinds + 1)) (one_result kinds) r t x y (h l.0 l.1) (k l.0 l.1)

  -- what `taking::take_variable` ensures, of the owners, the types, the counts, how many there are and the first whose kind is not there
  abbrev VariableTaken : ℕ → ℕ → List ℕ × List ℕ × List ℕ × ℕ × Option ℕ → Bool → List ℕ × List ℕ × List ℕ × ℕ × Option ℕ → Type 0
  VariableTaken row kinds e r x = (h : Variables kinds e.0 e.1 e.2 e.3 e.4) (i : ℕ) (v : Variable) → line_at s places row ≡ var_line i v
      → Took r (eqb i (length h.rows + 1) && room kinds v.of h.rows)
      (VariablesHeld (h.rows ++ v ∷ []) kinds x.0 x.1 x.2 x.3 x.4)
      (Kept e.0 e.1 e.2 e.3 e.4 x.0 x.1 x.2 x.3 x.4)

  pub variable_one : (row : ℕ) → (6 ≤ row) × (row ≤ 9) → (kinds : ℕ) (e : List ℕ × List ℕ × List ℕ × ℕ × Option ℕ) → Variables kinds e.0 e.1 e.2 e.3 e.4 → (r t : Bool)
      (x y : List ℕ × List ℕ × List ℕ × ℕ × Option ℕ) → VariableTaken row kinds e r x → VariableTaken row kinds e t y → (r ≡ t) × (x ≡ y)
  variable_one row b kinds e held r t x y h k =
      let l = variable_row s places row b.0 (omega (arith, b.1)) in
      took_one (λ z. VariablesHeld (held.rows ++ l.1 ∷ []) kinds z.0 z.1 z.2 z.3 z.4) (λ z. Kept e.0 e.1 e.2 e.3 e.4 z.0 z.1 z.2 z.3 z.4)
      (variables_one (held.rows ++ l.1 ∷ []) kinds) kept_one r t x y (h held l.0 l.1 l.2) (k held l.0 l.1 l.2)
    where
      kept_one : (x y : List ℕ × List ℕ × List ℕ × ℕ × Option ℕ) → Kept e.0 e.1 e.2 e.3 e.4 x.0 x.1 x.2 x.3 x.4
          → Kept e.0 e.1 e.2 e.3 e.4 y.0 y.1 y.2 y.3 y.4 → x ≡ y
      kept_one x y h k = λ i.
          ((h.owners ∙ sym k.owners) i, (h.holds ∙ sym k.holds) i, (h.rooms ∙ sym k.rooms) i, (h.variables ∙ sym k.variables) i, (h.absent ∙ sym k.absent) i)

  -- what `taking::take_action` ensures
  abbrev ActionTaken : List ℕ × List ℕ → Bool → List ℕ × List ℕ → Type 0
  ActionTaken e r x = (h : ActionHeld e.0 e.1) (i : ℕ) (a : Action) → line_at s places 36 ≡ action_line i a
      → Took r (next ACTIONS (length h.rows) i) (ActionTables (h.rows ++ a ∷ []) x.0 x.1) ((x.0 ≡ e.0) × (x.1 ≡ e.1))

  pub action_one : (e : List ℕ × List ℕ) → ActionHeld e.0 e.1 → (r t : Bool) (x y : List ℕ × List ℕ) → ActionTaken e r x → ActionTaken e t y → (r ≡ t) × (x ≡ y)
  action_one e held r t x y h k =
      let l = action_row s places 36 (omega arith) (omega arith) in
      took_one (λ z. ActionTables (held.rows ++ l.1 ∷ []) z.0 z.1) (λ z. (z.0 ≡ e.0) × (z.1 ≡ e.1)) (action_tables_one (held.rows ++ l.1 ∷ [])) two_one r t x y
      (h held l.0 l.1 l.2) (k held l.0 l.1 l.2)

  -- what `taking::take_move` ensures of the moves; the count beside it is said outright
  abbrev MoveTaken : List ℕ → ℕ → List ℕ → Type 0
  MoveTaken moves n x = (h : MoveRoom moves n) → x ≡ move_table (h.rows ++ move_at s places ∷ [])

  pub move_one : (moves : List ℕ) (n : ℕ) → MoveRoom moves n → (x y : List ℕ) → MoveTaken moves n x → MoveTaken moves n y → x ≡ y
  move_one moves n held x y h k = h held ∙ sym (k held)

  -- what `taking::take_start` ensures
  abbrev StartTaken : Option Kind → Type 0
  StartTaken x = (k : ℕ) → line_at s places 41 ≡ start_line k → x ≡ Some (record { 0 = byte_of k })

  pub start_one : (x y : Option Kind) → StartTaken x → StartTaken y → x ≡ y
  start_one x y h k = let l = start_row s places 41 (omega arith) (omega arith) in h l.0 l.1 ∙ sym (k l.0 l.1)

  -- what `taking::take_choice` ensures, of the choices and how many there are
  abbrev ChoiceTaken : ℕ → List ℕ × ℕ → Bool → List ℕ × ℕ → Type 0
  ChoiceTaken row e r x = (h : ChoiceHeld e.0 e.1) (c : Choice) → line_at s places row ≡ choice_line c
      → Took r (choosable (length h.rows) c.machine c.bits) ((x.0 ≡ choice_table (h.rows ++ c ∷ [])) × (x.1 ≡ e.1 + 1)) ((x.0 ≡ e.0) × (x.1 ≡ e.1))

  pub choice_one : (row : ℕ) → (42 ≤ row) × (row ≤ 43) → (e : List ℕ × ℕ) → ChoiceHeld e.0 e.1 → (r t : Bool) (x y : List ℕ × ℕ) → ChoiceTaken row e r x → ChoiceTaken row e t y
      → (r ≡ t) × (x ≡ y)
  choice_one row b e held r t x y h k =
      let l = choice_row s places row b.0 (omega (arith, b.1)) in
      took_one (λ z. (z.0 ≡ choice_table (held.rows ++ l.0 ∷ [])) × (z.1 ≡ e.1 + 1)) (λ z. (z.0 ≡ e.0) × (z.1 ≡ e.1)) two_one two_one r t x y
      (h held l.0 l.1) (k held l.0 l.1)

  -- what `taking_exprs::take_expr` ensures
  abbrev ExprTaken : ℕ → List ℕ → Bool → List ℕ → Type 0
  ExprTaken row exprs r x = (h : ExprHeld exprs) (i : ℕ) (b : Bool) (e : Expr) → line_at s places row ≡ expr_line i b e
      → Took r (next EXPRS (length h.rows) i && b) (x ≡ expr_table (h.rows ++ e ∷ [])) (x ≡ exprs)

  pub expr_one : (row : ℕ) → (10 ≤ row) × (row ≤ 23) → (exprs : List ℕ) → ExprHeld exprs → (r t : Bool) (x y : List ℕ) → ExprTaken row exprs r x → ExprTaken row exprs t y → (r ≡ t) × (x ≡ y)
  expr_one row b exprs held r t x y h k =
      let l = expr_row s places row b.0 (omega (arith, b.1)) in
      took_one (λ z. z ≡ expr_table (held.rows ++ l.2 ∷ [])) (λ z. z ≡ exprs) (one_result (expr_table (held.rows ++ l.2 ∷ []))) (one_result exprs) r t x y
      (h held l.0 l.1 l.2 l.3) (k held l.0 l.1 l.2 l.3)

  -- what `taking_stmts::take_stmt` ensures, of the statements, the pairs and how many of these there are
  abbrev StmtTaken : ℕ → List ℕ × List ℕ × ℕ → Bool → List ℕ × List ℕ × ℕ → Type 0
  StmtTaken row e r x = (h : StmtHeld e.0 e.1 e.2) (i : ℕ) (t : Stmt) → line_at s places row ≡ stmt_line i t
      → Took r (next STMTS (length h.rows) i) (StmtTables (h.rows ++ t ∷ []) x.0 x.1 x.2) ((x.0 ≡ e.0) × (x.1 ≡ e.1) × (x.2 ≡ e.2))

  pub stmt_one : (row : ℕ) → (24 ≤ row) × (row ≤ 35) → (e : List ℕ × List ℕ × ℕ) → StmtHeld e.0 e.1 e.2 → (r t : Bool) (x y : List ℕ × List ℕ × ℕ)
      → StmtTaken row e r x → StmtTaken row e t y → (r ≡ t) × (x ≡ y)
  stmt_one row b e held r t x y h k =
      let l = stmt_row s places row b.0 (omega (arith, b.1)) in
      took_one (λ z. StmtTables (held.rows ++ l.1 ∷ []) z.0 z.1 z.2) (λ z. (z.0 ≡ e.0) × (z.1 ≡ e.1) × (z.2 ≡ e.2)) (stmt_tables_one (held.rows ++ l.1 ∷ []))
      (λ x y p q. λ i. ((p.0 ∙ sym q.0) i, (p.1 ∙ sym q.1) i, (p.2 ∙ sym q.2) i)) r t x y
      (h held l.0 l.1 l.2) (k held l.0 l.1 l.2)

  -- what `taking_states::take_state` ensures, of the kinds, the statements at entry and at exit, and the flags
  abbrev StateTaken : List ℕ × List ℕ × List ℕ × List ℕ → Bool → List ℕ × List ℕ × List ℕ × List ℕ → Type 0
  StateTaken e r x = (h : StateHeld e.0 e.1 e.2 e.3) (i : ℕ) (t : State) → line_at s places 37 ≡ state_line i t
      → Took r (next STATES (length h.rows) i) (FlaggedTables (h.rows ++ t ∷ []) x.0 x.1 x.2 x.3) ((x.0 ≡ e.0) × (x.1 ≡ e.1) × (x.2 ≡ e.2) × (x.3 ≡ e.3))

  pub state_one : (e : List ℕ × List ℕ × List ℕ × List ℕ) → StateHeld e.0 e.1 e.2 e.3 → (r t : Bool) (x y : List ℕ × List ℕ × List ℕ × List ℕ) → StateTaken e r x → StateTaken e t y
      → (r ≡ t) × (x ≡ y)
  state_one e held r t x y h k =
      let l = state_row s places 37 (omega arith) (omega arith) in
      took_one (λ z. FlaggedTables (held.rows ++ l.1 ∷ []) z.0 z.1 z.2 z.3) (λ z. (z.0 ≡ e.0) × (z.1 ≡ e.1) × (z.2 ≡ e.2) × (z.3 ≡ e.3)) (state_tables_one (held.rows ++ l.1 ∷ []))
      (λ x y p q. λ i. ((p.0 ∙ sym q.0) i, (p.1 ∙ sym q.1) i, (p.2 ∙ sym q.2) i, (p.3 ∙ sym q.3) i)) r t x y
      (h held l.0 l.1 l.2) (k held l.0 l.1 l.2)
