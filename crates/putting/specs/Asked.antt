-- What is asked of the arrays that a row is put into: they are the tables of some lines, and there is a place for one more.
use Rattle.std.specs.Prelude.{ℕ, ◌*◌, ◌<◌, ◌≡◌, List, length}
use Rattle.values.specs.declared.Ty.{Ty}
use Rattle.programs.specs.Sizes.{KINDS, EVENTS, VARIABLES, EXPRS, STMTS, ACTIONS, STATES, CHOICES}
use Rattle.programs.specs.declared.Expr.{Expr}
use Rattle.programs.specs.Program.{Variable, Stmt, Action, State, Move}
use Rattle.machines.specs.Config.{Choice}
use Rattle.tables.specs.Decode.{MOVES}
use Rattle.tabled.specs.Tabled.{event_table, variable_kinds, variable_types, expr_table, stmt_table, action_kinds, action_bodies, state_kinds, state_entries, state_exits, move_table, choice_table}

-- room for one more event
pub record EventRoom (types : List ℕ) : Type 0 where
  pub rows : List Ty
  pub held : types ≡ event_table rows
  pub room : length rows < EVENTS

-- the tables of the variables
pub record VariableTables (vs : List Variable) (kinds types : List ℕ) : Type 0 where
  pub of : kinds ≡ variable_kinds vs
  pub type : types ≡ variable_types vs

-- room for one more variable
pub record VariableRoom (kinds types : List ℕ) : Type 0 where
  pub rows : List Variable
  pub held : VariableTables rows kinds types
  pub room : length rows < KINDS * VARIABLES

-- room for one more expression
pub record ExprRoom (exprs : List ℕ) : Type 0 where
  pub rows : List Expr
  pub held : exprs ≡ expr_table rows
  pub room : length rows < EXPRS

-- room for one more statement
pub record StmtRoom (stmts : List ℕ) : Type 0 where
  pub rows : List Stmt
  pub held : stmts ≡ stmt_table rows
  pub room : length rows < STMTS

-- the tables of the actions
pub record ActionTables (acs : List Action) (kinds bodies : List ℕ) : Type 0 where
  pub of : kinds ≡ action_kinds acs
  pub body : bodies ≡ action_bodies acs

-- room for one more action
pub record ActionRoom (kinds bodies : List ℕ) : Type 0 where
  pub rows : List Action
  pub held : ActionTables rows kinds bodies
  pub room : length rows < ACTIONS

-- the tables of the states, without their flags
pub record StateTables (ns : List State) (kinds entries exits : List ℕ) : Type 0 where
  pub of : kinds ≡ state_kinds ns
  pub entry : entries ≡ state_entries ns
  pub exit : exits ≡ state_exits ns

-- room for one more state
pub record StateRoom (kinds entries exits : List ℕ) : Type 0 where
  pub rows : List State
  pub held : StateTables rows kinds entries exits
  pub room : length rows < STATES

-- room for one more move behind n
pub record MoveRoom (moves : List ℕ) (n : ℕ) : Type 0 where
  pub rows : List Move
  pub held : moves ≡ move_table rows
  pub count : length rows ≡ n
  pub room : n < MOVES

-- room for one more choice behind n
pub record ChoiceRoom (choices : List ℕ) (n : ℕ) : Type 0 where
  pub rows : List Choice
  pub held : choices ≡ choice_table rows
  pub count : length rows ≡ n
  pub room : n < CHOICES
