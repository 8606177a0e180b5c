-- The lines of a text so far, the first first, and the arrays and numbers that hold them while the loader reads on.
use Rattle.std.specs.Prelude.{ℕ, List, ◌++◌, reverse, replicate, None}
use Rattle.values.specs.declared.Ty.{Ty}
use Rattle.programs.specs.declared.Expr.{Expr}
use Rattle.programs.specs.Program.{Variable, Stmt, Action, State, Move}
use Rattle.machines.specs.Config.{Choice}
use Rattle.texts.specs.Reading.{Tables, tables}
use Rattle.tables.specs.declared.Program.{Program}
use Rattle.gathering.specs.declared.Lines.{Lines}

-- THE LINES SO FAR
abbrev pub event_lines : Tables → List Ty
event_lines (tables es ms vs xs ss acs ns ts cs ds ks hs) = reverse es

-- how many kinds
abbrev pub machine_lines : Tables → ℕ
machine_lines (tables es ms vs xs ss acs ns ts cs ds ks hs) = ms

abbrev pub variable_lines : Tables → List Variable
variable_lines (tables es ms vs xs ss acs ns ts cs ds ks hs) = reverse vs

abbrev pub expr_lines : Tables → List Expr
expr_lines (tables es ms vs xs ss acs ns ts cs ds ks hs) = reverse xs

abbrev pub stmt_lines : Tables → List Stmt
stmt_lines (tables es ms vs xs ss acs ns ts cs ds ks hs) = reverse ss

abbrev pub action_lines : Tables → List Action
action_lines (tables es ms vs xs ss acs ns ts cs ds ks hs) = reverse acs

abbrev pub state_lines : Tables → List State
state_lines (tables es ms vs xs ss acs ns ts cs ds ks hs) = reverse ns

abbrev pub step_lines : Tables → List Move
step_lines (tables es ms vs xs ss acs ns ts cs ds ks hs) = reverse ts

abbrev pub call_lines : Tables → List Move
call_lines (tables es ms vs xs ss acs ns ts cs ds ks hs) = reverse cs

abbrev pub act_lines : Tables → List Move
act_lines (tables es ms vs xs ss acs ns ts cs ds ks hs) = reverse ds

abbrev pub choice_lines : Tables → List Choice
choice_lines (tables es ms vs xs ss acs ns ts cs ds ks hs) = reverse hs

-- the moves, in their table's order
abbrev pub move_lines : Tables → List Move
move_lines a = step_lines a ++ (call_lines a ++ act_lines a)

-- BEFORE THE FIRST LINE
-- n zeros
abbrev pub zeros : ℕ → List ℕ
zeros n = replicate n 0

-- the program's tables
abbrev pub no_tables : Program
no_tables = record {
  event_types = zeros 65;
  kinds = 0;
  variable_of = zeros 257;
  variable_type = zeros 257;
  exprs = zeros 3075;
  stmts = zeros 5125;
  inits = zeros 30000;
  action_of = zeros 65;
  action_body = zeros 65;
  state_of = zeros 65;
  state_entry = zeros 65;
  state_exit = zeros 65;
  defers = zeros 4225;
  moves = zeros 12288;
  steps = 0;
  calls = 0;
  acts = 0;
  start = record { 0 = 0 };
}

-- all that is held
abbrev pub no_lines : Lines
no_lines = record {
  program = no_tables;
  kinds = 0;
  variables = 0;
  rooms = zeros 17;
  absent = None;
  pairs = 0;
  start = None;
  choices = zeros 4096;
  count = 0;
}
