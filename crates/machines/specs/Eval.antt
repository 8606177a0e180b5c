-- Document 01, "The rules": the value of an expression, worked out from its tree.
use Rattle.std.specs.Prelude.{ℕ, ◌+◌, ◌/◌, ◌%◌, ◌^◌, Bool, eqb, get_or}
use Rattle.values.specs.declared.Value.{Value}
use Rattle.values.specs.declared.Value.TheVariants.{Undefined as undefined, Bool as vbool}
use Rattle.values.specs.Values.{id_of, checked, apply1, apply2}
use Rattle.programs.specs.declared.Leaf.{Leaf}
use Rattle.programs.specs.declared.Leaf.TheVariants.{Bot as bot, Int as int_val, Bool as bool_val, Var as var, This as this, Msg as msg, Arg as arg, Star as star}
use Rattle.programs.specs.Program.{Program, place}
use Rattle.programs.specs.Trees.{Tree, tip, one, two, tree, stars}
use Rattle.machines.specs.Config.{Local}

-- "`star` number k of a statement, counted from 0 left to right, is bit k of the choice (bit 0 the lowest)."
abbrev pub bit : ℕ → ℕ → Bool
bit w k = eqb ((w / 2 ^ k) % 2) 1

-- 002: "σ is a map from variables declared in machine Name(id) to their values; this map contains an entry for the local variables this, msg and arg."
pub record Store : Type 0 where
  pub variable : ℕ → Value  -- by its number
  pub this : Value
  pub msg : Value
  pub arg : Value

-- of machine i, whose local part is l
abbrev pub store_of : Program → ℕ → Local → Store
store_of p i l = record { variable = λ x. get_or l.variables (place p l.kind x) undefined; this = id_of i; msg = l.msg; arg = l.arg }

-- σ(r) ↓ v, under the choice's bits w
module _ (σ : Store) (w : ℕ) where
  -- the value of a leaf, where the next star is number k. (A sound program has no int out of range, so `checked` changes none.)
  abbrev pub leaf_value : ℕ → Leaf → Value
  leaf_value k (int_val z) = checked z
  leaf_value k (bool_val b) = vbool b
  leaf_value k (var x) = σ.variable x
  leaf_value k this = σ.this
  leaf_value k msg = σ.msg
  leaf_value k arg = σ.arg
  leaf_value k bot = undefined
  leaf_value k star = vbool (bit w k)

  -- the value of a tree: "both sides" of an operator are worked out, left before right
  unfoldable pub value : ℕ → Tree → Value
  value k (tip x) = leaf_value k x
  value k (one o t) = apply1 o (value k t)
  value k (two o s t) = apply2 o (value k s) (value (k + stars s) t)

-- the value of expression e in machine i, whose local part is l; 0 is the undefined value
abbrev pub eval : Program → ℕ → Local → ℕ → ℕ → ℕ → Value
eval p i l w k e = value (store_of p i l) w k (tree p e)
