-- What `eval` of src/lib.rt gives: the value that the definition (crates/machines/specs/Eval.antt) has for an expression, in the store that the arrays
-- hold, with the bits of the choice that the expression's stars leave.
use Rattle.std.specs.Prelude.{ℕ, ◌+◌, ◌*◌, ◌/◌, ◌^◌, ◌≤◌, ◌<◌, ◌≡◌, refl, List, [], length, get_or}
use Rattle.lists.specs.Lists.{All}
use Rattle.codes.specs.Codes.{code_of, value_of, Canonical}
use Rattle.programs.specs.declared.Expr.{Expr}
use Rattle.programs.specs.Program.{Program}
use Rattle.programs.specs.Trees.{Tree, tree, stars}
use Rattle.machines.specs.Eval.{Store, value}
use Rattle.tables.specs.Decode.{exprs_of}

-- The store that the arrays hold for the machine whose values start at place `at`: a place for each of 16 variables, then this, msg and arg. The place
-- of variable x among the 16 is number x of `places`.
abbrev pub store_in : List ℕ → List ℕ → ℕ → Store
store_in places values at = record {
  variable = λ x. value_of (get_or values (at + get_or places x 0) 0);
  this = value_of (get_or values (at + 16) 0);
  msg = value_of (get_or values (at + 17) 0);
  arg = value_of (get_or values (at + 18) 0);
}

-- a program with these expressions and nothing else
abbrev pub just_exprs : List Expr → Program
just_exprs l = record {
  events = [];
  machines = 0;
  variables = [];
  exprs = l;
  stmts = [];
  actions = [];
  states = [];
  steps = [];
  calls = [];
  acts = [];
  start = 0;
}

-- the tree of an expression is one of the expressions alone
pub tree_exprs : (p : Program) (e : ℕ) → tree p e ≡ tree (just_exprs p.exprs) e
unfolding tree
tree_exprs p e = refl

-- where the bits begin in a number that holds a value's number and bits: 2 ^ 40, above every value's number
abbrev pub REST : ℕ
REST = 1099511627776

-- the number of a tree's value, and the bits that its stars leave, in one number
unfoldable pub packed : Store → ℕ → Tree → ℕ
packed σ w t = code_of (value σ w 0 t) + (w / 2 ^ stars t) * REST

-- WHAT `eval` GIVES of expression e under the bits w
abbrev pub evaluated : List ℕ → List ℕ → List ℕ → ℕ → ℕ → ℕ → ℕ
evaluated exprs places values at e w = packed (store_in places values at) w (tree (just_exprs (exprs_of exprs)) e)

-- what it asks of the arrays: they have their lengths, every place is one of 16, and the machine's 19 numbers are there, each some value's
pub record Readable (places values : List ℕ) (at : ℕ) : Type 0 where
  pub places_length : length places ≡ 257
  pub places_small : All (λ n. n < 16) places
  pub values_length : length values ≡ 608
  pub room : at + 19 ≤ 608
  pub canonical : (j : ℕ) → j < 19 → Canonical (get_or values (at + j) 0)
