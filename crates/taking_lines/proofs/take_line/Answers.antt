-- `taking_lines::take_line` meets its contract: each kind of line by its own function. Assumes nothing.
use Prim.Native.Nat.{ℕ, ◌≤◌}
use mathlib.Core.Path.{ap, sym, ◌∙◌}
use native.Mathlib.Omega.{arith}
use Rattle.spoken.specs.Spoken.{line_at}
use Rattle.gathering.specs.Gathered.{event_lines, expr_lines, stmt_lines, action_lines, state_lines, choice_lines}
use Rattle.taking_lines.specs.Gathered.{word_of_start}
use Rattle.taking_lines.specs.Rows.{event_row, machine_row, variable_row, expr_row, stmt_row, action_row, state_row, start_row, choice_row, kind_front, kind_back}
use Rattle.taking_lines.specs.FrontTook.{took_event, took_machine, variables_there, took_variable, took_expr}
use Rattle.taking_lines.specs.BackTook.{took_stmt, took_action, took_state, moves_there, took_moved, took_start, took_choice}
use Rattle.taking_lines.specs.LineTook.{took_front, took_back}
use Rattle.taking_lines.proofs.take_line.Goals as goal

pub take_event-requires : goal.take_event-requires
take_event-requires c =
    let h = c.requires in
    record { event_held = record { rows = event_lines h.lines; held = h.gathered.front.events.held; few = h.gathered.front.events.size }; row_bound = omega arith }

pub returns-in-0-to-4 : goal.returns-in-0-to-4
returns-in-0-to-4 c =
    let a = c.args in
    λ h.
    let f = h.gathered.front in
    let x = event_row a.s.now a.places a.row (omega arith) in
    took_front h.lines _ _ _ (kind_front a.s.now a.places a.row (omega arith)) h.gathered.back h.gathered.unwritten
    (took_event h.lines f _ _ x.0 x.1 x.2 (c.take_event.ensures (record { rows = event_lines h.lines; held = f.events.held; few = f.events.size }) x.0 x.1 x.2))

pub returns-in-5 : goal.returns-in-5
returns-in-5 c =
    let a = c.args in
    λ h.
    let f = h.gathered.front in
    let x = machine_row a.s.now a.places 5 (omega arith) (omega arith) in
    took_front h.lines _ _ _ (kind_front a.s.now a.places a.row (omega (arith, c.in-5.is))) h.gathered.back h.gathered.unwritten
    (took_machine h.lines f _ _ x.0 (ap (λ (n : ℕ). line_at a.s.now a.places n) c.in-5.is ∙ x.1) (h.no_variable (omega (arith, c.in-5.is))) (c.take_machine.ensures x.0 x.1))

pub take_variable-requires : goal.take_variable-requires
take_variable-requires c =
    let h = c.requires in
    let f = h.gathered.front in
    record {
      variables = variables_there h.lines f;
      le_row = (omega arith, omega arith);
      kinds_bound = omega (arith, f.machines.held, f.machines.size);
      variables_bound = h.few_variables;
    }

pub returns-in-6-to-9 : goal.returns-in-6-to-9
returns-in-6-to-9 c =
    let a = c.args in
    λ h.
    let f = h.gathered.front in
    let x = variable_row a.s.now a.places a.row (omega arith) (omega arith) in
    took_front h.lines _ _ _ (kind_front a.s.now a.places a.row (omega arith)) h.gathered.back h.gathered.unwritten
    (took_variable h.lines f _ _ x.0 x.1 x.2 (c.take_variable.ensures (variables_there h.lines f) x.0 x.1 x.2))

pub take_expr-requires : goal.take_expr-requires
take_expr-requires c =
    let h = c.requires in
    record {
      expr_held = record { rows = expr_lines h.lines; held = h.gathered.front.expressions.held; few = h.gathered.front.expressions.size };
      le_row = (omega arith, omega arith);
    }

pub returns-in-10-to-23 : goal.returns-in-10-to-23
returns-in-10-to-23 c =
    let a = c.args in
    λ h.
    let f = h.gathered.front in
    let x = expr_row a.s.now a.places a.row (omega arith) (omega arith) in
    took_front h.lines _ _ _ (kind_front a.s.now a.places a.row (omega arith)) h.gathered.back h.gathered.unwritten
    (took_expr h.lines f _ _ x.0 x.1 x.2 x.3 (c.take_expr.ensures (record { rows = expr_lines h.lines; held = f.expressions.held; few = f.expressions.size }) x.0 x.1 x.2 x.3))

pub take_stmt-requires : goal.take_stmt-requires
take_stmt-requires c =
    let h = c.requires in
    record {
      stmt_held = record { rows = stmt_lines h.lines; held = h.gathered.back.statements.held; few = h.gathered.back.statements.size };
      le_row = (omega arith, omega arith);
      pool_room = h.pool;
    }

pub returns-in-24-to-35 : goal.returns-in-24-to-35
returns-in-24-to-35 c =
    let a = c.args in
    λ h.
    let b = h.gathered.back in
    let x = stmt_row a.s.now a.places a.row (omega arith) (omega arith) in
    took_back h.lines _ _ _ (kind_back a.s.now a.places a.row (omega arith) h.row_low) h.gathered.front h.gathered.unwritten
    (took_stmt h.lines b _ _ x.0 x.1 x.2 (c.take_stmt.ensures (record { rows = stmt_lines h.lines; held = b.statements.held; few = b.statements.size }) x.0 x.1 x.2))

pub take_action-requires : goal.take_action-requires
take_action-requires c =
    let h = c.requires in
    record { rows = action_lines h.lines; held = h.gathered.back.actions.held; few = h.gathered.back.actions.size }

pub returns-in-36 : goal.returns-in-36
returns-in-36 c =
    let a = c.args in
    λ h.
    let b = h.gathered.back in
    let x = action_row a.s.now a.places 36 (omega arith) (omega arith) in
    took_back h.lines _ _ _ (kind_back a.s.now a.places a.row (omega (arith, c.in-36.is)) h.row_low) h.gathered.front h.gathered.unwritten
    (took_action h.lines b _ _ x.0 x.1 (ap (λ (n : ℕ). line_at a.s.now a.places n) c.in-36.is ∙ x.2)
    (c.take_action.ensures (record { rows = action_lines h.lines; held = b.actions.held; few = b.actions.size }) x.0 x.1 x.2))

pub take_state-requires : goal.take_state-requires
take_state-requires c =
    let h = c.requires in
    record {
      state_held = record { rows = state_lines h.lines; held = h.gathered.back.states.held; few = h.gathered.back.states.size };
      places_value = h.listed c.in-37.is;
    }

pub returns-in-37 : goal.returns-in-37
returns-in-37 c =
    let a = c.args in
    λ h.
    let b = h.gathered.back in
    let x = state_row a.s.now a.places 37 (omega arith) (omega arith) in
    took_back h.lines _ _ _ (kind_back a.s.now a.places a.row (omega (arith, c.in-37.is)) h.row_low) h.gathered.front h.gathered.unwritten
    (took_state h.lines b _ _ x.0 x.1 (ap (λ (n : ℕ). line_at a.s.now a.places n) c.in-37.is ∙ x.2)
    (c.take_state.ensures (record { rows = state_lines h.lines; held = b.states.held; few = b.states.size }) x.0 x.1 x.2))

pub take_moved-requires : goal.take_moved-requires
take_moved-requires c =
    let h = c.requires in
    record { room = moves_there h.lines h.gathered.back (h.few (omega arith) (omega arith)); row_high = omega arith; row_low = omega arith }

pub returns-in-38-to-40 : goal.returns-in-38-to-40
returns-in-38-to-40 c =
    let a = c.args in
    λ h.
    let b = h.gathered.back in
    let high : 38 ≤ a.row = omega arith in
    let low : a.row ≤ 40 = omega arith in
    took_back h.lines _ _ _ (kind_back a.s.now a.places a.row (omega arith) h.row_low) h.gathered.front h.gathered.unwritten
    (took_moved h.lines b a.s.now a.places a.row high low h.no_call h.no_act (c.take_moved.ensures (moves_there h.lines b (h.few high low))))

pub take_start-requires : goal.take_start-requires
take_start-requires c =
    let h = c.requires in
    h.gathered.back.started ∙ ap word_of_start (h.no_start (omega (arith, c.in-41.is)))

pub returns-in-41 : goal.returns-in-41
returns-in-41 c =
    let a = c.args in
    λ h.
    let x = start_row a.s.now a.places 41 (omega arith) (omega arith) in
    took_back h.lines _ _ _ (kind_back a.s.now a.places a.row (omega (arith, c.in-41.is)) h.row_low) h.gathered.front h.gathered.unwritten
    (took_start h.lines h.gathered.back _ x.0 (ap (λ (n : ℕ). line_at a.s.now a.places n) c.in-41.is ∙ x.1) (c.take_start.ensures x.0 x.1))

pub take_choice-requires : goal.take_choice-requires
take_choice-requires c =
    let h = c.requires in
    record {
      choice_held = record { rows = choice_lines h.lines; held = h.gathered.back.chosen.held; count = sym h.gathered.back.chosen.many };
      le_row = (omega arith, omega (arith, h.row_low));
    }

pub returns-in_default : goal.returns-in_default
returns-in_default c =
    let a = c.args in
    λ h.
    let b = h.gathered.back in
    let x = choice_row a.s.now a.places a.row (omega arith) h.row_low in
    took_back h.lines _ _ _ (kind_back a.s.now a.places a.row (omega arith) h.row_low) h.gathered.front h.gathered.unwritten
    (took_choice h.lines b _ _ x.0 x.1 (c.take_choice.ensures (record { rows = choice_lines h.lines; held = b.chosen.held; count = sym b.chosen.many }) x.0 x.1))
