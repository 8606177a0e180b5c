-- WHAT A LINE SAYS, by the number of its form and the places in the text of its values: each value is the part of the text that it occupies. The forms stand
-- in crates/texts in the same order.
use Rattle.std.specs.Prelude.{ℕ, true, List, [], ◌∷◌, ℤ, pos, drop, get_or}
use Rattle.lists.specs.Lists.{on_opt}
use Rattle.values.specs.declared.Ty.TheVariants.{Void as void, Bool as bool, Int as int, Event as event, Id as id}
use Rattle.values.specs.declared.Unary.TheVariants.{Not as not', Neg as neg}
use Rattle.values.specs.declared.Binary.TheVariants.{Add as add, Sub as sub, And as and, Or as or}
use Rattle.values.specs.Values.{in_range}
use Rattle.programs.specs.Program.{skip, assign, new, delete, send, raise, leave, return, assert, seq, if, while}
use Rattle.programs.specs.declared.Leaf.TheVariants.{Int as int_val, Bool as bool_val, Var as var, This as this, Msg as msg, Arg as arg, Bot as bot, Star as star}
use Rattle.programs.specs.declared.Expr.TheVariants.{Leaf as leaf, Unary as unary, Binary as binary}
use Rattle.texts.specs.Numbers.{decimal, signed, numbers, pairs}
use Rattle.texts.specs.Forms.{Said, event_line, machine_line, var_line, expr_line, stmt_line, action_line, state_line, step_line, call_line, act_line, start_line, choice_line, is_one, zero_or_one}
use Rattle.readers.specs.Words.{word}

module _ (s places : List ℕ) where
  -- value i, counted from 0: the part of the text that it occupies
  abbrev pub value_at : ℕ → List ℕ
  value_at i = word (drop (get_or places i 0) s)

  -- as a number,
  abbrev pub number_at : ℕ → ℕ
  number_at i = on_opt (decimal (value_at i)) 0 (λ n. n)

  -- as one that may have a minus,
  abbrev pub integer_at : ℕ → ℤ
  integer_at i = on_opt (signed (value_at i)) (pos 0) (λ z. z)

  -- as a list of numbers,
  abbrev pub list_at : ℕ → List ℕ
  list_at i = on_opt (numbers (value_at i)) [] (λ l. l)

  -- and as pairs
  abbrev pub pairs_at : ℕ → List (ℕ × ℕ)
  pairs_at i = on_opt (pairs (value_at i)) [] (λ l. l)

  -- what a line in each form says
  abbrev pub sayings : List Said
  sayings =
      event_line (number_at 0) void ∷
      event_line (number_at 0) bool ∷
      event_line (number_at 0) int ∷
      event_line (number_at 0) event ∷
      event_line (number_at 0) id ∷
      machine_line (number_at 0) ∷
      var_line (number_at 0) (record { of = number_at 1; type = bool }) ∷
      var_line (number_at 0) (record { of = number_at 1; type = int }) ∷
      var_line (number_at 0) (record { of = number_at 1; type = event }) ∷
      var_line (number_at 0) (record { of = number_at 1; type = id }) ∷
      expr_line (number_at 0) true (binary add (number_at 1) (number_at 2)) ∷
      expr_line (number_at 0) true (binary sub (number_at 1) (number_at 2)) ∷
      expr_line (number_at 0) true (binary and (number_at 1) (number_at 2)) ∷
      expr_line (number_at 0) true (binary or (number_at 1) (number_at 2)) ∷
      expr_line (number_at 0) true (unary not' (number_at 1)) ∷
      expr_line (number_at 0) true (unary neg (number_at 1)) ∷
      expr_line (number_at 0) (in_range (integer_at 1)) (leaf (int_val (integer_at 1))) ∷
      expr_line (number_at 0) (zero_or_one (integer_at 1)) (leaf (bool_val (is_one (integer_at 1)))) ∷
      expr_line (number_at 0) true (leaf (var (number_at 1))) ∷
      expr_line (number_at 0) true (leaf this) ∷
      expr_line (number_at 0) true (leaf msg) ∷
      expr_line (number_at 0) true (leaf arg) ∷
      expr_line (number_at 0) true (leaf bot) ∷
      expr_line (number_at 0) true (leaf star) ∷
      stmt_line (number_at 0) (assign (number_at 1) (number_at 2)) ∷
      stmt_line (number_at 0) skip ∷
      stmt_line (number_at 0) delete ∷
      stmt_line (number_at 0) leave ∷
      stmt_line (number_at 0) return ∷
      stmt_line (number_at 0) (new (number_at 1) (number_at 2) (pairs_at 3)) ∷
      stmt_line (number_at 0) (send (number_at 1) (number_at 2) (number_at 3)) ∷
      stmt_line (number_at 0) (raise (number_at 1) (number_at 2)) ∷
      stmt_line (number_at 0) (assert (number_at 1)) ∷
      stmt_line (number_at 0) (seq (number_at 1) (number_at 2)) ∷
      stmt_line (number_at 0) (if (number_at 1) (number_at 2) (number_at 3)) ∷
      stmt_line (number_at 0) (while (number_at 1) (number_at 2)) ∷
      action_line (number_at 0) (record { of = number_at 1; body = number_at 2 }) ∷
      state_line (number_at 0) (record { of = number_at 1; defer = list_at 2; entry = number_at 3; exit = number_at 4 }) ∷
      step_line (record { from = number_at 0; on = number_at 1; to = number_at 2 }) ∷
      call_line (record { from = number_at 0; on = number_at 1; to = number_at 2 }) ∷
      act_line (record { from = number_at 0; on = number_at 1; to = number_at 2 }) ∷
      start_line (number_at 0) ∷
      choice_line (record { machine = number_at 0; bits = number_at 1 }) ∷
      choice_line (record { machine = number_at 0; bits = 0 }) ∷
      []

  -- THE LINE in form number row
  unfoldable pub line_at : ℕ → Said
  line_at row = get_or sayings row (start_line 0)
