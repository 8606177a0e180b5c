-- How long the rows of the lines are.
use Rattle.std.specs.Prelude.{ℕ, ◌≡◌, refl, length}
use Rattle.rows.specs.Seek.{table_length}
use Rattle.values.specs.declared.Unary.TheVariants.{Not as not', Neg as neg}
use Rattle.values.specs.declared.Binary.TheVariants.{Add as add, Sub as sub, And as and, Or as or}
use Rattle.programs.specs.declared.Leaf.{Leaf}
use Rattle.programs.specs.declared.Leaf.TheVariants.{Bot as bot, Int as int_val, Bool as bool_val, Var as var, This as this, Msg as msg, Arg as arg, Star as star}
use Rattle.programs.specs.declared.Expr.{Expr}
use Rattle.programs.specs.declared.Expr.TheVariants.{Leaf as leaf, Unary as unary, Binary as binary}
use Rattle.programs.specs.Program.{Stmt, State, skip, assign, new, delete, send, raise, leave, return, assert, seq, if, while}
use Rattle.tabled.specs.Tabled.{leaf_row, expr_row, stmt_row, flag_row}

-- a leaf's row has three numbers
leaf_three : (l : Leaf) → length (leaf_row l) ≡ 3
leaf_three bot = refl
leaf_three (int_val z) = refl
leaf_three (bool_val b) = refl
leaf_three (var x) = refl
leaf_three this = refl
leaf_three msg = refl
leaf_three arg = refl
leaf_three star = refl

-- so has every expression's
pub expr_three : (e : Expr) → length (expr_row e) ≡ 3
expr_three (leaf l) = leaf_three l
expr_three (unary not' a) = refl
expr_three (unary neg a) = refl
expr_three (binary add a b) = refl
expr_three (binary sub a b) = refl
expr_three (binary and a b) = refl
expr_three (binary or a b) = refl

-- a statement's has five
pub stmt_five : (i : ℕ) (s : Stmt) → length (stmt_row i s) ≡ 5
stmt_five i skip = refl
stmt_five i (assign x e) = refl
stmt_five i (new x k l) = refl
stmt_five i delete = refl
stmt_five i (send t e a) = refl
stmt_five i (raise e a) = refl
stmt_five i leave = refl
stmt_five i return = refl
stmt_five i (assert e) = refl
stmt_five i (seq a b) = refl
stmt_five i (if e a b) = refl
stmt_five i (while e a) = refl

-- a state has 65 flags
pub flag_length : (s : State) → length (flag_row s) ≡ 65
flag_length s = table_length _ 0 65
