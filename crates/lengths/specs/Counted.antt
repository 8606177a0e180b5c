-- How many moves and how many pairs a line says.
use Rattle.std.specs.Prelude.{ℕ, length}
use Rattle.texts.specs.Forms.{Said, event_line, machine_line, var_line, expr_line, stmt_line, action_line, state_line, step_line, call_line, act_line, start_line, choice_line}
use Rattle.soundness.specs.Asked.{init_of}

-- a move
abbrev pub moves_in : Said → ℕ
moves_in (event_line i t) = 0
moves_in (machine_line i) = 0
moves_in (var_line i v) = 0
moves_in (expr_line i b e) = 0
moves_in (stmt_line i s) = 0
moves_in (action_line i c) = 0
moves_in (state_line i n) = 0
moves_in (step_line m) = 1
moves_in (call_line m) = 1
moves_in (act_line m) = 1
moves_in (start_line k) = 0
moves_in (choice_line c) = 0

-- the pairs of a statement
abbrev pub pairs_in : Said → ℕ
pairs_in (event_line i t) = 0
pairs_in (machine_line i) = 0
pairs_in (var_line i v) = 0
pairs_in (expr_line i b e) = 0
pairs_in (stmt_line i s) = length (init_of s)
pairs_in (action_line i c) = 0
pairs_in (state_line i n) = 0
pairs_in (step_line m) = 0
pairs_in (call_line m) = 0
pairs_in (act_line m) = 0
pairs_in (start_line k) = 0
pairs_in (choice_line c) = 0
