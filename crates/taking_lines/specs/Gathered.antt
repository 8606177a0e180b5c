-- WHAT THE LOADER'S ARRAYS HOLD when the lines a are read, and that each line taken leaves them so.
use Rattle.std.specs.Prelude.{ℕ, ◌≤◌, ◌≡◌, List, [], ◌∷◌, ◌++◌, length, Option, None, Some}
use Rattle.values.specs.declared.Ty.{Ty}
use Rattle.tables.specs.declared.Kind.{Kind}
use Rattle.programs.specs.Sizes.{EVENTS, KINDS, EXPRS, STMTS, ACTIONS, STATES, CHOICES}
use Rattle.programs.specs.declared.Expr.{Expr}
use Rattle.programs.specs.Program.{Stmt, Action, State, Move}
use Rattle.machines.specs.Config.{Choice}
use Rattle.texts.specs.Reading.{Tables, starts_of}
use Rattle.tabled.specs.Tabled.{byte_of, event_table, expr_table, move_table, choice_table}
use Rattle.putting.specs.Asked.{ActionTables}
use Rattle.taking.specs.Variables.{VariablesHeld}
use Rattle.taking_stmts.specs.Held.{StmtTables}
use Rattle.taking_states.specs.Held.{FlaggedTables}
use Rattle.gathering.specs.Gathered.{event_lines, machine_lines, variable_lines, expr_lines, stmt_lines, action_lines, state_lines, step_lines, call_lines, act_lines, choice_lines}
use Rattle.gathering.specs.declared.Lines.{Lines}

-- the kind that `start` names
abbrev pub word_of_start : List ℕ → Option Kind
word_of_start [] = None
word_of_start (k ∷ ks) = Some (record { 0 = byte_of k })

-- the events
pub record EventsAre (es : List Ty) (types : List ℕ) : Type 0 where
  pub held : types ≡ event_table es
  pub size : length es ≤ EVENTS

-- the kinds
pub record MachinesAre (ms kinds : ℕ) : Type 0 where
  pub held : kinds ≡ ms
  pub size : ms ≤ KINDS

-- the expressions
pub record ExprsAre (xs : List Expr) (exprs : List ℕ) : Type 0 where
  pub held : exprs ≡ expr_table xs
  pub size : length xs ≤ EXPRS

-- the statements, with how many pairs they have
pub record StmtsAre (ss : List Stmt) (stmts inits : List ℕ) (pairs : ℕ) : Type 0 where
  pub held : StmtTables ss stmts inits pairs
  pub size : length ss ≤ STMTS

-- the actions
pub record ActionsAre (acs : List Action) (actors bodies : List ℕ) : Type 0 where
  pub held : ActionTables acs actors bodies
  pub size : length acs ≤ ACTIONS

-- the states
pub record StatesAre (ns : List State) (homes entries exits flags : List ℕ) : Type 0 where
  pub held : FlaggedTables ns homes entries exits flags
  pub size : length ns ≤ STATES

-- the moves, how many of each kind
pub record MovesAre (ts cs ds : List Move) (moves : List ℕ) (steps calls acts : ℕ) : Type 0 where
  pub held : moves ≡ move_table (ts ++ (cs ++ ds))
  pub step : steps ≡ length ts
  pub call : calls ≡ length cs
  pub act : acts ≡ length ds

-- the choices
pub record ChoicesAre (hs : List Choice) (choices : List ℕ) (count : ℕ) : Type 0 where
  pub held : choices ≡ choice_table hs
  pub many : count ≡ length hs
  pub size : length hs ≤ CHOICES

-- THE ARRAYS OF THE LINES BEFORE THE STATEMENTS, with how many kinds and variables there are, and the first variable whose kind is not there
pub record Front (a : Tables) (types owners holds rooms exprs : List ℕ) (kinds variables : ℕ) (absent : Option ℕ) : Type 0 where
  pub events : EventsAre (event_lines a) types
  pub machines : MachinesAre (machine_lines a) kinds
  pub vars : VariablesHeld (variable_lines a) (machine_lines a) owners holds rooms variables absent
  pub expressions : ExprsAre (expr_lines a) exprs

-- AND OF THOSE FROM THE STATEMENTS ON, with how many pairs, steps, calls and acts there are, the start and how many choices
pub record Back (a : Tables) (stmts inits actors bodies homes entries exits flags moves choices : List ℕ) (pairs steps calls acts : ℕ) (start : Option Kind) (count : ℕ) : Type 0 where
  pub statements : StmtsAre (stmt_lines a) stmts inits pairs
  pub actions : ActionsAre (action_lines a) actors bodies
  pub states : StatesAre (state_lines a) homes entries exits flags
  pub moved : MovesAre (step_lines a) (call_lines a) (act_lines a) moves steps calls acts
  pub started : start ≡ word_of_start (starts_of a)
  pub chosen : ChoicesAre (choice_lines a) choices count

-- THE LINES a ARE HELD, those before the statements
abbrev pub FrontIn : Tables → Lines → Type 0
FrontIn a x = Front a x.program.event_types x.program.variable_of x.program.variable_type x.rooms x.program.exprs x.kinds x.variables x.absent

-- and those from the statements on
abbrev pub BackIn : Tables → Lines → Type 0
BackIn a x = Back a x.program.stmts x.program.inits x.program.action_of x.program.action_body x.program.state_of x.program.state_entry x.program.state_exit x.program.defers x.program.moves x.choices
    x.pairs x.program.steps x.program.calls x.program.acts x.start x.count

-- how many kinds there are and the start are not written into the tables yet
abbrev pub Unwritten : Lines → Type 0
Unwritten x = (x.program.kinds ≡ 0) × (x.program.start ≡ record { 0 = 0 })
