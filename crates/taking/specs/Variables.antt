-- What the loader has of the variables while it reads: their tables, how many lines there are, how many of each kind, and the first whose kind is not there. A
-- variable of a kind that is not there is in range whatever their number, so there may be more of them than the tables have rows; the program is refused then.
use Rattle.std.specs.Prelude.{ℕ, ◌+◌, ◌-◌, ◌≤◌, ◌<◌, ◌≡◌, List, length, take, get_or, Option, None, Some}
use Rattle.lists.specs.Lists.{All, There, keep, at}
use Rattle.programs.specs.Sizes.{KINDS, VARIABLES}
use Rattle.programs.specs.Program.{Variable, is_of}
use Rattle.tables.specs.Decode.{no_variable}
use Rattle.putting.specs.Asked.{VariableTables}

-- variable i is the first whose kind is not there
pub record FirstAbsent (vs : List Variable) (ms i : ℕ) : Type 0 where
  pub here : There (length vs) i
  pub lower : (j : ℕ) → 1 ≤ j → j < i → There ms (at no_variable vs j).of
  pub absent : There ms (at no_variable vs i).of → ⊥

-- what the arrays hold of the variables vs, where there are ms kinds; absent is none where every variable's kind is there. The tables are then all variables', and else
-- those of the variables in front of the first whose kind is not
pub record VariablesHeld (vs : List Variable) (ms : ℕ) (owners holds rooms : List ℕ) (variables : ℕ) (absent : Option ℕ) : Type 0 where
  pub count : variables ≡ length vs
  pub size : length rooms ≡ KINDS + 1
  pub counts : (k : ℕ) → k ≤ KINDS → get_or rooms k 0 ≡ length (keep (is_of k) vs)
  pub few : (k : ℕ) → There ms k → length (keep (is_of k) vs) ≤ VARIABLES
  pub tables : absent ≡ None → VariableTables vs owners holds
  pub there : absent ≡ None → All (λ v. There ms v.of) vs
  pub first : (i : ℕ) → absent ≡ Some i → FirstAbsent vs ms i
  pub front : (i : ℕ) → absent ≡ Some i → VariableTables (take (i - 1) vs) owners holds

-- the same of some variables
pub record Variables (ms : ℕ) (owners holds rooms : List ℕ) (variables : ℕ) (absent : Option ℕ) : Type 0 where
  pub rows : List Variable
  pub held : VariablesHeld rows ms owners holds rooms variables absent

-- nothing is changed: the arrays o, d and r, the number n and the first absent a are what they were
pub record Kept (o d r : List ℕ) (n : ℕ) (a : Option ℕ) (o' d' r' : List ℕ) (n' : ℕ) (a' : Option ℕ) : Type 0 where
  pub owners : o' ≡ o
  pub holds : d' ≡ d
  pub rooms : r' ≡ r
  pub variables : n' ≡ n
  pub absent : a' ≡ a
