-- The tables of no lines are zeros: what the arrays begin with.
use Rattle.std.specs.Prelude.{◌≡◌, [], replicate}
use Rattle.std.proofs.Common.{ap, ◌∙◌, append-nil, arith}
use Rattle.rows.specs.Pad.{pad}
use Rattle.tabled.specs.Tabled.{event_table, variable_kinds, variable_types, expr_table, stmt_table, init_pool}
use Rattle.tabled.specs.Tabled.{action_kinds, action_bodies, state_kinds, state_entries, state_exits, defer_table, move_table, choice_table}
use Rattle.rows.specs.Runs.{zeros_pad}

-- events
pub no_events : event_table [] ≡ replicate 65 0
unfolding event_table
no_events = zeros_pad 0 65 1 (omega arith)

-- the variables' kinds
pub no_variable_kinds : variable_kinds [] ≡ replicate 257 0
unfolding variable_kinds
no_variable_kinds = zeros_pad 0 257 1 (omega arith)

-- and types
pub no_variable_types : variable_types [] ≡ replicate 257 0
unfolding variable_types
no_variable_types = zeros_pad 0 257 1 (omega arith)

-- expressions
pub no_exprs : expr_table [] ≡ replicate 3075 0
unfolding expr_table
no_exprs = zeros_pad 0 3075 3 (omega arith)

-- statements
pub no_stmts : stmt_table [] ≡ replicate 5125 0
unfolding stmt_table
no_stmts = zeros_pad 0 5125 5 (omega arith)

-- pairs
pub no_pairs : init_pool [] ≡ replicate 30000 0
unfolding init_pool
no_pairs = zeros_pad 0 30000 0 (omega arith)

-- the actions' kinds
pub no_action_kinds : action_kinds [] ≡ replicate 65 0
unfolding action_kinds
no_action_kinds = zeros_pad 0 65 1 (omega arith)

-- and statements
pub no_action_bodies : action_bodies [] ≡ replicate 65 0
unfolding action_bodies
no_action_bodies = zeros_pad 0 65 1 (omega arith)

-- the states' kinds,
pub no_state_kinds : state_kinds [] ≡ replicate 65 0
unfolding state_kinds
no_state_kinds = zeros_pad 0 65 1 (omega arith)

-- their statements at entry
pub no_state_entries : state_entries [] ≡ replicate 65 0
unfolding state_entries
no_state_entries = zeros_pad 0 65 1 (omega arith)

-- and at exit,
pub no_state_exits : state_exits [] ≡ replicate 65 0
unfolding state_exits
no_state_exits = zeros_pad 0 65 1 (omega arith)

-- and their flags
pub no_flags : defer_table [] ≡ replicate 4225 0
unfolding defer_table
no_flags = ap (pad 0 4225) (append-nil (replicate 65 0)) ∙ zeros_pad 0 4225 65 (omega arith)

-- moves
pub no_moves : move_table [] ≡ replicate 12288 0
unfolding move_table
no_moves = zeros_pad 0 12288 0 (omega arith)

-- choices
pub no_choices : choice_table [] ≡ replicate 4096 0
unfolding choice_table
no_choices = zeros_pad 0 4096 0 (omega arith)
