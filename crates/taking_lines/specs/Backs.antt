-- ONE LINE MORE FROM THE STATEMENTS ON: what it leaves in its arrays, and all else as it was, is what the arrays hold of the lines with it. An earlier line leaves them.
use Rattle.std.specs.Prelude.{ℕ, ◌+◌, ◌≤◌, ◌<◌, ◌≡◌, length, Option, Some}
use Rattle.std.proofs.Common.{ap, sym, ◌∙◌, arith}
use mathlib.Core.List.{List, [], ◌∷◌, ◌++◌, reverse, reverse-cons, append_assoc, append-nil}
use Rattle.tables.specs.declared.Kind.{Kind}
use Rattle.programs.specs.Sizes.{STMTS, ACTIONS, STATES, CHOICES}
use Rattle.programs.specs.Program.{Stmt, Action, State, Move}
use Rattle.machines.specs.Config.{Choice}
use Rattle.texts.specs.Forms.{Said, event_line, machine_line, var_line, expr_line, stmt_line, action_line, state_line, step_line, call_line, act_line, start_line, choice_line}
use Rattle.texts.specs.Reading.{Tables, tables, put, kind}
use Rattle.tabled.specs.Tabled.{byte_of, move_table, choice_table}
use Rattle.putting.specs.Asked.{ActionTables}
use Rattle.gathering.specs.Gathered.{stmt_lines, action_lines, state_lines, call_lines, act_lines, choice_lines, move_lines}
use Rattle.taking_stmts.specs.Held.{StmtTables}
use Rattle.taking_states.specs.Held.{FlaggedTables}
use Rattle.taking_lines.specs.Gathered.{Back}
use Rattle.taking_lines.specs.Fronts.{more_length}

-- one more move at the end of the table: a step where there is no call and no act,
step_last : (ts : List Move) (m : Move) (cs ds : List Move) → cs ≡ [] → ds ≡ [] → (ts ++ (cs ++ ds)) ++ m ∷ [] ≡ (ts ++ m ∷ []) ++ (cs ++ ds)
step_last ts m cs ds e f = rw (e, f, append-nil ts, append-nil (ts ++ m ∷ []))

-- a call where there is no act,
call_last : (ts : List Move) (m : Move) (cs ds : List Move) → ds ≡ [] → (ts ++ (cs ++ ds)) ++ m ∷ [] ≡ ts ++ ((cs ++ m ∷ []) ++ ds)
call_last ts m cs ds f = rw (f, append-nil cs, append-nil (cs ++ m ∷ []), append_assoc ts cs (m ∷ []))

-- or an act
act_last : (ts : List Move) (m : Move) (cs ds : List Move) → (ts ++ (cs ++ ds)) ++ m ∷ [] ≡ ts ++ (cs ++ (ds ++ m ∷ []))
act_last ts m cs ds = rw (append_assoc ts (cs ++ ds) (m ∷ []), append_assoc cs ds (m ∷ []))

module _ {stmts inits actors bodies homes entries exits flags moves choices : List ℕ} {pairs steps calls acts : ℕ} {start : Option Kind} {count : ℕ} where
  -- a statement
  pub back_stmt : (a : Tables) (i : ℕ) (s : Stmt) {stmts' : List ℕ} {inits' : List ℕ} {pairs' : ℕ} → Back a stmts inits actors bodies homes entries exits flags moves choices pairs steps calls acts start count
      → StmtTables (stmt_lines a ++ s ∷ []) stmts' inits' pairs'
      → length (stmt_lines a) < STMTS
      → Back (put (stmt_line i s) a) stmts' inits' actors bodies homes entries exits flags moves choices pairs' steps calls acts start count
  back_stmt (tables es ms vs xs ss acs ns ts cs ds ks hs) i s h p0 p1 = record {
    statements = record { held = rw (reverse-cons s ss) p0; size = omega (arith, more_length s ss) };
    actions = h.actions;
    states = h.states;
    moved = h.moved;
    started = h.started;
    chosen = h.chosen;
  }

  -- an action
  pub back_action : (a : Tables) (i : ℕ) (c : Action) {actors' : List ℕ} {bodies' : List ℕ} → Back a stmts inits actors bodies homes entries exits flags moves choices pairs steps calls acts start count
      → ActionTables (action_lines a ++ c ∷ []) actors' bodies'
      → length (action_lines a) < ACTIONS
      → Back (put (action_line i c) a) stmts inits actors' bodies' homes entries exits flags moves choices pairs steps calls acts start count
  back_action (tables es ms vs xs ss acs ns ts cs ds ks hs) i c h p0 p1 = record {
    statements = h.statements;
    actions = record { held = rw (reverse-cons c acs) p0; size = omega (arith, more_length c acs) };
    states = h.states;
    moved = h.moved;
    started = h.started;
    chosen = h.chosen;
  }

  -- a state
  pub back_state : (a : Tables) (i : ℕ) (n : State) {homes' entries' exits' flags' : List ℕ} → Back a stmts inits actors bodies homes entries exits flags moves choices pairs steps calls acts start count
      → FlaggedTables (state_lines a ++ n ∷ []) homes' entries' exits' flags'
      → length (state_lines a) < STATES
      → Back (put (state_line i n) a) stmts inits actors bodies homes' entries' exits' flags' moves choices pairs steps calls acts start count
  back_state (tables es ms vs xs ss acs ns ts cs ds ks hs) i n h p0 p1 = record {
    statements = h.statements;
    actions = h.actions;
    states = record { held = rw (reverse-cons n ns) p0; size = omega (arith, more_length n ns) };
    moved = h.moved;
    started = h.started;
    chosen = h.chosen;
  }

  -- a step, before any call and any act
  pub back_step : (a : Tables) (m : Move) {moves' : List ℕ} {steps' : ℕ} → Back a stmts inits actors bodies homes entries exits flags moves choices pairs steps calls acts start count
      → moves' ≡ move_table (move_lines a ++ m ∷ [])
      → steps' ≡ steps + 1
      → call_lines a ≡ []
      → act_lines a ≡ []
      → Back (put (step_line m) a) stmts inits actors bodies homes entries exits flags moves' choices pairs steps' calls acts start count
  back_step (tables es ms vs xs ss acs ns ts cs ds ks hs) m h p0 p1 p2 p3 = record {
    statements = h.statements;
    actions = h.actions;
    states = h.states;
    moved = record {
      held = p0 ∙ ap move_table (step_last (reverse ts) m (reverse cs) (reverse ds) p2 p3 ∙ ap (λ (l : List Move). l ++ (reverse cs ++ reverse ds)) (sym (reverse-cons m ts)));
      step = omega (arith, p1, h.moved.step, more_length m ts);
      call = h.moved.call;
      act = h.moved.act;
    };
    started = h.started;
    chosen = h.chosen;
  }

  -- a call, before any act
  pub back_call : (a : Tables) (m : Move) {moves' : List ℕ} {calls' : ℕ} → Back a stmts inits actors bodies homes entries exits flags moves choices pairs steps calls acts start count
      → moves' ≡ move_table (move_lines a ++ m ∷ [])
      → calls' ≡ calls + 1
      → act_lines a ≡ []
      → Back (put (call_line m) a) stmts inits actors bodies homes entries exits flags moves' choices pairs steps calls' acts start count
  back_call (tables es ms vs xs ss acs ns ts cs ds ks hs) m h p0 p1 p2 = record {
    statements = h.statements;
    actions = h.actions;
    states = h.states;
    moved = record {
      held = p0 ∙ ap move_table (call_last (reverse ts) m (reverse cs) (reverse ds) p2 ∙ ap (λ (l : List Move). reverse ts ++ (l ++ reverse ds)) (sym (reverse-cons m cs)));
      step = h.moved.step;
      call = omega (arith, p1, h.moved.call, more_length m cs);
      act = h.moved.act;
    };
    started = h.started;
    chosen = h.chosen;
  }

  -- an act
  pub back_act : (a : Tables) (m : Move) {moves' : List ℕ} {acts' : ℕ} → Back a stmts inits actors bodies homes entries exits flags moves choices pairs steps calls acts start count
      → moves' ≡ move_table (move_lines a ++ m ∷ [])
      → acts' ≡ acts + 1
      → Back (put (act_line m) a) stmts inits actors bodies homes entries exits flags moves' choices pairs steps calls acts' start count
  back_act (tables es ms vs xs ss acs ns ts cs ds ks hs) m h p0 p1 = record {
    statements = h.statements;
    actions = h.actions;
    states = h.states;
    moved = record {
      held = p0 ∙ ap move_table (act_last (reverse ts) m (reverse cs) (reverse ds) ∙ ap (λ (l : List Move). reverse ts ++ (reverse cs ++ l)) (sym (reverse-cons m ds)));
      step = h.moved.step;
      call = h.moved.call;
      act = omega (arith, p1, h.moved.act, more_length m ds);
    };
    started = h.started;
    chosen = h.chosen;
  }

  -- the start
  pub back_start : (a : Tables) (k : ℕ) {start' : Option Kind} → Back a stmts inits actors bodies homes entries exits flags moves choices pairs steps calls acts start count
      → start' ≡ Some (record { 0 = byte_of k })
      → Back (put (start_line k) a) stmts inits actors bodies homes entries exits flags moves choices pairs steps calls acts start' count
  back_start (tables es ms vs xs ss acs ns ts cs ds ks hs) k h p0 = record {
    statements = h.statements;
    actions = h.actions;
    states = h.states;
    moved = h.moved;
    started = p0;
    chosen = h.chosen;
  }

  -- a choice
  pub back_choice : (a : Tables) (c : Choice) {choices' : List ℕ} {count' : ℕ} → Back a stmts inits actors bodies homes entries exits flags moves choices pairs steps calls acts start count
      → choices' ≡ choice_table (choice_lines a ++ c ∷ [])
      → count' ≡ count + 1
      → length (choice_lines a) < CHOICES
      → Back (put (choice_line c) a) stmts inits actors bodies homes entries exits flags moves choices' pairs steps calls acts start count'
  back_choice (tables es ms vs xs ss acs ns ts cs ds ks hs) c h p0 p1 p2 = record {
    statements = h.statements;
    actions = h.actions;
    states = h.states;
    moved = h.moved;
    started = h.started;
    chosen = record { held = p0 ∙ ap choice_table (sym (reverse-cons c hs)); many = omega (arith, p1, h.chosen.many, more_length c hs); size = omega (arith, more_length c hs) };
  }

  -- a line before the statements
  pub back_kept : (a : Tables) (x : Said) → kind x ≤ 4 → Back a stmts inits actors bodies homes entries exits flags moves choices pairs steps calls acts start count → Back (put x a) stmts inits actors bodies homes entries exits flags moves choices pairs steps calls acts start count
  back_kept (tables es ms vs xs ss acs ns ts cs ds ks hs) (event_line i t) l h = record { statements = h.statements; actions = h.actions; states = h.states; moved = h.moved; started = h.started; chosen = h.chosen }
  back_kept (tables es ms vs xs ss acs ns ts cs ds ks hs) (machine_line i) l h = record { statements = h.statements; actions = h.actions; states = h.states; moved = h.moved; started = h.started; chosen = h.chosen }
  back_kept (tables es ms vs xs ss acs ns ts cs ds ks hs) (var_line i v) l h = record { statements = h.statements; actions = h.actions; states = h.states; moved = h.moved; started = h.started; chosen = h.chosen }
  back_kept (tables es ms vs xs ss acs ns ts cs ds ks hs) (expr_line i b e) l h = record { statements = h.statements; actions = h.actions; states = h.states; moved = h.moved; started = h.started; chosen = h.chosen }
  back_kept a (stmt_line i s) l h = absurd (omega arith)
  back_kept a (action_line i c) l h = absurd (omega arith)
  back_kept a (state_line i n) l h = absurd (omega arith)
  back_kept a (step_line m) l h = absurd (omega arith)
  back_kept a (call_line m) l h = absurd (omega arith)
  back_kept a (act_line m) l h = absurd (omega arith)
  back_kept a (start_line k) l h = absurd (omega arith)
  back_kept a (choice_line c) l h = absurd (omega arith)
