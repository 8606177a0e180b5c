-- THE LOADER'S ARRAYS AND NUMBERS, all of them: the lines that they hold fix them.
use Rattle.std.specs.Prelude.{Option, ℕ, ◌≡◌, refl, Bool, List, ◌++◌, length}
use Rattle.std.proofs.Common.{ap, sym, ◌∙◌}
use Rattle.texts.specs.Reading.{Tables, put, ranged, starts_of}
use Rattle.tabled.specs.Tabled.{event_table, expr_table, move_table, choice_table}
use Rattle.gathering.specs.Gathered.{event_lines, machine_lines, variable_lines, expr_lines, stmt_lines, action_lines, state_lines, step_lines, call_lines, act_lines, choice_lines}
use Rattle.spoken.specs.Spoken.{line_at}
use Rattle.spoken.specs.Took.{Took}
use Rattle.gathering.specs.declared.Lines.{Lines}
use Rattle.taking_lines.specs.Gathered.{word_of_start, FrontIn, BackIn}
use Rattle.taking_lines.specs.Asked.{Gathered, LineAsked}
use Rattle.unique_texts.specs.Taken.{took_one, variables_one, action_tables_one, stmt_tables_one, state_tables_one}

-- THE LINES a AND b ARE ALIKE in all that the arrays hold of them
pub record Alike (a b : Tables) : Type 0 where
  pub events : event_lines a ≡ event_lines b
  pub machines : machine_lines a ≡ machine_lines b
  pub vars : variable_lines a ≡ variable_lines b
  pub expressions : expr_lines a ≡ expr_lines b
  pub statements : stmt_lines a ≡ stmt_lines b
  pub actions : action_lines a ≡ action_lines b
  pub states : state_lines a ≡ state_lines b
  pub stepped : step_lines a ≡ step_lines b
  pub called : call_lines a ≡ call_lines b
  pub acted : act_lines a ≡ act_lines b
  pub started : word_of_start (starts_of a) ≡ word_of_start (starts_of b)
  pub chosen : choice_lines a ≡ choice_lines b

-- as the same lines are
pub alike : (a : Tables) → Alike a a
alike a = record { events = refl; machines = refl; vars = refl; expressions = refl; statements = refl; actions = refl; states = refl; stepped = refl; called = refl; acted = refl; started = refl; chosen = refl }

-- WHAT IS HELD, by the lines
pub gathered_one : (a b : Tables) → Alike a b → (x y : Lines) → Gathered a x → Gathered b y → x ≡ y
gathered_one a b e x y g h = λ i. record {
  program = record {
    event_types = (f.events.held ∙ ap event_table e.events ∙ sym k.events.held) i;
    kinds = (g.unwritten.0 ∙ sym h.unwritten.0) i;
    variable_of = (vars i).0;
    variable_type = (vars i).1;
    exprs = (f.expressions.held ∙ ap expr_table e.expressions ∙ sym k.expressions.held) i;
    stmts = (stmts i).0;
    inits = (stmts i).1;
    action_of = (actions i).0;
    action_body = (actions i).1;
    state_of = (states i).0;
    state_entry = (states i).1;
    state_exit = (states i).2;
    defers = (states i).3;
    moves = (c.moved.held ∙ moves ∙ sym d.moved.held) i;
    steps = (c.moved.step ∙ ap length e.stepped ∙ sym d.moved.step) i;
    calls = (c.moved.call ∙ ap length e.called ∙ sym d.moved.call) i;
    acts = (c.moved.act ∙ ap length e.acted ∙ sym d.moved.act) i;
    start = (g.unwritten.1 ∙ sym h.unwritten.1) i;
  };
  kinds = (f.machines.held ∙ e.machines ∙ sym k.machines.held) i;
  variables = (vars i).3;
  rooms = (vars i).2;
  absent = (vars i).4;
  pairs = (stmts i).2;
  start = (c.started ∙ e.started ∙ sym d.started) i;
  choices = (c.chosen.held ∙ ap choice_table e.chosen ∙ sym d.chosen.held) i;
  count = (c.chosen.many ∙ ap length e.chosen ∙ sym d.chosen.many) i;
}
  where
    f : FrontIn a x
    f = g.front

    k : FrontIn b y
    k = h.front

    c : BackIn a x
    c = g.back

    d : BackIn b y
    d = h.back

    vars : ◌≡◌ {A = List ℕ × List ℕ × List ℕ × ℕ × Option ℕ} (x.program.variable_of, x.program.variable_type, x.rooms, x.variables, x.absent) (y.program.variable_of, y.program.variable_type, y.rooms, y.variables, y.absent)
    vars = variables_one (variable_lines a) (machine_lines a) (x.program.variable_of, x.program.variable_type, x.rooms, x.variables, x.absent) (y.program.variable_of, y.program.variable_type, y.rooms, y.variables, y.absent) f.vars
        (rw (e.vars, e.machines) k.vars)

    stmts : ◌≡◌ {A = List ℕ × List ℕ × ℕ} (x.program.stmts, x.program.inits, x.pairs) (y.program.stmts, y.program.inits, y.pairs)
    stmts = stmt_tables_one (stmt_lines a) (x.program.stmts, x.program.inits, x.pairs) (y.program.stmts, y.program.inits, y.pairs) c.statements.held (rw e.statements d.statements.held)

    actions : ◌≡◌ {A = List ℕ × List ℕ} (x.program.action_of, x.program.action_body) (y.program.action_of, y.program.action_body)
    actions = action_tables_one (action_lines a) (x.program.action_of, x.program.action_body) (y.program.action_of, y.program.action_body) c.actions.held (rw e.actions d.actions.held)

    states : ◌≡◌ {A = List ℕ × List ℕ × List ℕ × List ℕ} (x.program.state_of, x.program.state_entry, x.program.state_exit, x.program.defers) (y.program.state_of, y.program.state_entry, y.program.state_exit, y.program.defers)
    states = state_tables_one (state_lines a) (x.program.state_of, x.program.state_entry, x.program.state_exit, x.program.defers) (y.program.state_of, y.program.state_entry, y.program.state_exit, y.program.defers) c.states.held (rw e.states d.states.held)

    moves : move_table (step_lines a ++ (call_lines a ++ act_lines a)) ≡ move_table (step_lines b ++ (call_lines b ++ act_lines b))
    moves = rw (e.stepped, e.called, e.acted)

-- A LINE TAKEN: what `taking_lines::take_line` ensures, of the line in form number row, at its places of the text s
abbrev LineTaken : List ℕ → List ℕ → ℕ → Lines → Bool → Lines → Type 0
LineTaken s places row e r x =
    (h : LineAsked s row places e)
    → Took r (ranged h.lines (line_at s places row)) (Gathered (put (line_at s places row) h.lines) x) (Gathered h.lines x)

pub line_one : (s places : List ℕ) (row : ℕ) (e : Lines)
    → LineAsked s row places e
    → (r t : Bool) (x y : Lines) → LineTaken s places row e r x → LineTaken s places row e t y → (r ≡ t) × (x ≡ y)
line_one s places row e asked r t x y h k =
    let a = put (line_at s places row) asked.lines in
    took_one (Gathered a) (Gathered asked.lines) (gathered_one a a (alike a)) (gathered_one asked.lines asked.lines (alike asked.lines)) r t x y
    (h asked) (k asked)
