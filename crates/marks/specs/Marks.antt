-- Two tables that are worked out of a program: the height of each statement, and for each kind the statements that serve it.
use Rattle.std.specs.Prelude.{ℕ, ◌≤◌, ◌≡◌, refl, List, length, get_or}
use Rattle.programs.specs.Program.{Program}
use Rattle.programs.specs.Statements.{height, serves}
use Rattle.tables.specs.declared.Program.{Program as Tables}
use Rattle.tables.specs.Decode.{stmts_of, actions_of, states_of, program_of}
use Rattle.marks.specs.Sheet.{Marking}

-- `heights` holds the height of each statement; 0 and what is absent have height 1
pub record Heights (p : Program) (heights : List ℕ) : Type 0 where
  pub size : length heights ≡ 1025
  pub height_of : (s : ℕ) → s ≤ 1024 → get_or heights s 0 ≡ height p s

-- `served` has at k * 1025 + s a 1 where statement s serves kind k, and everywhere else 0
abbrev pub Served : Program → List ℕ → Type 0
Served p served = Marking (length p.stmts) (serves p) served

-- p is a program with these statements
pub record Stated (stmts : List ℕ) (p : Program) : Type 0 where
  pub inits : List ℕ
  pub same : p.stmts ≡ stmts_of stmts inits

-- p is a program with these statements, actions and states
pub record Peopled (stmts kinds bodies state_kinds entries exits : List ℕ) (p : Program) : Type 0 where
  pub stated : Stated stmts p
  pub flags : List ℕ
  pub same_actions : p.actions ≡ actions_of kinds bodies
  pub same_states : p.states ≡ states_of state_kinds entries exits flags

-- so, by the code's tables
abbrev pub Peoples : Tables → Program → Type 0
Peoples q p = Peopled q.stmts q.action_of q.action_body q.state_of q.state_entry q.state_exit p

-- LAWS FOR CALLERS: so is the program that the tables are
pub stated_program : (q : Tables) → Stated q.stmts (program_of q)
stated_program q = record { inits = q.inits; same = refl }

-- with its actions and states
pub peopled_program : (q : Tables) → Peoples q (program_of q)
peopled_program q = record { stated = stated_program q; flags = q.defers; same_actions = refl; same_states = refl }
