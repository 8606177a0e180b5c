-- What is asked where a line is taken: the arrays hold the lines so far, and nothing of a later kind is among them.
use Rattle.std.specs.Prelude.{ℕ, ◌+◌, ◌≤◌, ◌<◌, true, ◌≡◌, List, [], ◌∷◌, ◌++◌, length}
use Rattle.std.proofs.Common.{arith}
use Rattle.lists.specs.Lists.{is_some}
use Rattle.programs.specs.Sizes.{TEXT}
use Rattle.texts.specs.Numbers.{numbers}
use Rattle.texts.specs.Reading.{Tables, starts_of}
use Rattle.tables.specs.Decode.{MOVES}
use Rattle.programs.specs.Program.{Move}
use Rattle.tabled.specs.Tabled.{move_table}
use Rattle.putting.specs.Asked.{MoveRoom}
use Rattle.spoken.specs.Spoken.{value_at}
use Rattle.taking_stmts.specs.Held.{PoolRoom}
use Rattle.gathering.specs.Gathered.{variable_lines, call_lines, act_lines, move_lines}
use Rattle.gathering.specs.declared.Lines.{Lines}
use Rattle.taking_lines.specs.Gathered.{FrontIn, BackIn, Unwritten}

-- of a line before the statements, in form number row
pub record FrontAsked (row : ℕ) (x : Lines) : Type 0 where
  pub lines : Tables
  pub front : FrontIn lines x
  pub row_low : row < 24
  pub no_variable : row ≡ 5 → variable_lines lines ≡ []
  pub few : x.variables < TEXT

-- of a line from the statements on, at its places
pub record BackAsked (s : List ℕ) (row : ℕ) (places : List ℕ) (x : Lines) : Type 0 where
  pub lines : Tables
  pub back : BackIn lines x
  pub row_high : 24 ≤ row
  pub row_low : row < 44
  pub pool : row ≡ 29 → PoolRoom s places x.pairs
  pub listed : row ≡ 37 → is_some (numbers (value_at s places 2)) ≡ true
  pub few : 38 ≤ row → row ≤ 40 → length (move_lines lines) < MOVES
  pub no_call : row ≤ 38 → call_lines lines ≡ []
  pub no_act : row ≤ 39 → act_lines lines ≡ []
  pub no_start : row ≤ 41 → starts_of lines ≡ []

-- of a step, a call or an act
pub record MovedAsked (row : ℕ) (moves : List ℕ) (steps calls acts : ℕ) : Type 0 where
  pub room : MoveRoom moves (steps + (calls + acts))
  pub row_high : 38 ≤ row
  pub row_low : row ≤ 40

-- what it leaves: one more move, and one more of its kind
pub record Moved (row : ℕ) (rows : List Move) (m : Move) (steps calls acts : ℕ) (moves' : List ℕ) (steps' calls' acts' : ℕ) : Type 0 where
  pub table : moves' ≡ move_table (rows ++ m ∷ [])
  pub step : row ≡ 38 → (steps' ≡ steps + 1) × (calls' ≡ calls) × (acts' ≡ acts)
  pub call : row ≡ 39 → (steps' ≡ steps) × (calls' ≡ calls + 1) × (acts' ≡ acts)
  pub act : row ≡ 40 → (steps' ≡ steps) × (calls' ≡ calls) × (acts' ≡ acts + 1)

-- THE LINES a ARE HELD
pub record Gathered (a : Tables) (x : Lines) : Type 0 where
  pub front : FrontIn a x
  pub back : BackIn a x
  pub unwritten : Unwritten x

-- what is asked of any line, in form number row and at its places
pub record LineAsked (s : List ℕ) (row : ℕ) (places : List ℕ) (x : Lines) : Type 0 where
  pub lines : Tables
  pub gathered : Gathered lines x
  pub row_low : row < 44
  pub few_variables : x.variables < TEXT
  pub pool : row ≡ 29 → PoolRoom s places x.pairs
  pub listed : row ≡ 37 → is_some (numbers (value_at s places 2)) ≡ true
  pub few : 38 ≤ row → row ≤ 40 → length (move_lines lines) < MOVES
  pub no_variable : row ≤ 5 → variable_lines lines ≡ []
  pub no_call : row ≤ 38 → call_lines lines ≡ []
  pub no_act : row ≤ 39 → act_lines lines ≡ []
  pub no_start : row ≤ 41 → starts_of lines ≡ []

-- so of a line before the statements, and of one from them on
module _ {s : List ℕ} {row : ℕ} {places : List ℕ} {x : Lines} (h : LineAsked s row places x) where
  abbrev pub front_asked : row < 24 → FrontAsked row x
  front_asked l = record { lines = h.lines; front = h.gathered.front; row_low = l; no_variable = λ e. h.no_variable (omega arith); few = h.few_variables }

  abbrev pub back_asked : 24 ≤ row → BackAsked s row places x
  back_asked l = record {
    lines = h.lines;
    back = h.gathered.back;
    row_high = l;
    row_low = h.row_low;
    pool = h.pool;
    listed = h.listed;
    few = h.few;
    no_call = h.no_call;
    no_act = h.no_act;
    no_start = h.no_start;
  }
