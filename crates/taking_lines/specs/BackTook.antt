-- A LINE FROM THE STATEMENTS ON TAKEN: what its function tells and leaves is what is asked of the line, and what the arrays hold with it.
use Rattle.std.specs.Prelude.{ℕ, ◌+◌, ◌≤◌, ◌<◌, ◌≡◌, refl, Bool, true, ◌&&◌, List, [], ◌∷◌, ◌++◌, leb, ltb, length, Option, Some}
use Rattle.std.proofs.Common.{ap, sym, ◌∙◌, arith, ltb-true, length-append}
use Rattle.std.proofs.Math.Logic.{dite}
use Rattle.std.proofs.Math.Decide.{ℕ_discrete}
use Rattle.std.proofs.lemmas.List.{length-reverse}
use Rattle.lists.specs.Facts.{and_parts}
use Rattle.tables.specs.declared.Kind.{Kind}
use Rattle.programs.specs.Sizes.{STMTS, ACTIONS, STATES, CHOICES, SPENT, BITS}
use Rattle.programs.specs.Program.{Stmt, Action, State, Move}
use Rattle.machines.specs.Config.{Choice}
use Rattle.tables.specs.Decode.{MOVES}
use Rattle.texts.specs.Forms.{Said, stmt_line, action_line, state_line, step_line, call_line, act_line, start_line, choice_line}
use Rattle.texts.specs.Reading.{Tables, tables, put, next, ranged}
use Rattle.tabled.specs.Tabled.{byte_of, move_table, choice_table}
use Rattle.putting.specs.Asked.{ActionTables, MoveRoom}
use Rattle.spoken.specs.Spoken.{line_at}
use Rattle.taking.specs.Lines.{move_at, step_says, call_says, act_says}
use Rattle.spoken.specs.Took.{Took, took}
use Rattle.taking.specs.Held.{choosable}
use Rattle.spoken.specs.Counted.{next_room}
use Rattle.taking_stmts.specs.Held.{StmtTables}
use Rattle.taking_states.specs.Held.{FlaggedTables}
use Rattle.gathering.specs.Gathered.{stmt_lines, action_lines, state_lines, step_lines, call_lines, act_lines, choice_lines, move_lines}
use Rattle.taking_lines.specs.Gathered.{Back}
use Rattle.taking_lines.specs.Asked.{Moved}
use Rattle.taking_lines.specs.Backs.{back_stmt, back_action, back_state, back_step, back_call, back_act, back_start, back_choice}

-- what is asked of each line, by the lines so far
ranged_stmt : (a : Tables) (i : ℕ) (s : Stmt) → next STMTS (length (stmt_lines a)) i ≡ ranged a (stmt_line i s)
ranged_stmt (tables es ms vs xs ss acs ns ts cs ds ks hs) i s = ap (λ (n : ℕ). next STMTS n i) (length-reverse ss)

ranged_action : (a : Tables) (i : ℕ) (c : Action) → next ACTIONS (length (action_lines a)) i ≡ ranged a (action_line i c)
ranged_action (tables es ms vs xs ss acs ns ts cs ds ks hs) i c = ap (λ (n : ℕ). next ACTIONS n i) (length-reverse acs)

ranged_state : (a : Tables) (i : ℕ) (n : State) → next STATES (length (state_lines a)) i ≡ ranged a (state_line i n)
ranged_state (tables es ms vs xs ss acs ns ts cs ds ks hs) i n = ap (λ (m : ℕ). next STATES m i) (length-reverse ns)

ranged_choice : (a : Tables) (c : Choice) → choosable (length (choice_lines a)) c.machine c.bits ≡ ranged a (choice_line c)
ranged_choice (tables es ms vs xs ss acs ns ts cs ds ks hs) c = ap (λ (m : ℕ). choosable m c.machine c.bits) (length-reverse hs)

-- a move and the start are always in range
ranged_step : (a : Tables) (m : Move) → true ≡ ranged a (step_line m)
ranged_step (tables es ms vs xs ss acs ns ts cs ds ks hs) m = refl

ranged_call : (a : Tables) (m : Move) → true ≡ ranged a (call_line m)
ranged_call (tables es ms vs xs ss acs ns ts cs ds ks hs) m = refl

ranged_act : (a : Tables) (m : Move) → true ≡ ranged a (act_line m)
ranged_act (tables es ms vs xs ss acs ns ts cs ds ks hs) m = refl

ranged_start : (a : Tables) (k : ℕ) → true ≡ ranged a (start_line k)
ranged_start (tables es ms vs xs ss acs ns ts cs ds ks hs) k = refl

-- a choice in range has a place
choice_room : (n machine bits : ℕ) → choosable n machine bits ≡ true → n < CHOICES
choice_room n machine bits e = ltb-true n CHOICES (and_parts (ltb n CHOICES) (ltb 0 machine) (and_parts (ltb n CHOICES && ltb 0 machine) (ltb machine SPENT) (and_parts (ltb n CHOICES && ltb 0 machine && ltb machine SPENT) (leb bits BITS) e).0).0).0

module _ {stmts inits actors bodies homes entries exits flags moves choices : List ℕ} {pairs steps calls acts : ℕ} {start : Option Kind} {count : ℕ} (a : Tables)
    (b : Back a stmts inits actors bodies homes entries exits flags moves choices pairs steps calls acts start count) where
  -- a statement
  pub took_stmt : (x : Said) (r : Bool) {stmts' inits' : List ℕ} {pairs' : ℕ} (i : ℕ) (s : Stmt) → x ≡ stmt_line i s
      → Took r (next STMTS (length (stmt_lines a)) i) (StmtTables (stmt_lines a ++ s ∷ []) stmts' inits' pairs') ((stmts' ≡ stmts) × (inits' ≡ inits) × (pairs' ≡ pairs))
      → Took r (ranged a x) (Back (put x a) stmts' inits' actors bodies homes entries exits flags moves choices pairs' steps calls acts start count)
      (Back a stmts' inits' actors bodies homes entries exits flags moves choices pairs' steps calls acts start count)
  took_stmt x r i s e h = rw e (record {
    told = h.told ∙ ranged_stmt a i s;
    done = λ q. back_stmt a i s b (h.done q) (next_room STMTS (length (stmt_lines a)) i (sym h.told ∙ q));
    left = λ q. let k = h.left q in rw (k.0, k.1, k.2) b;
  })

  -- an action
  pub took_action : (x : Said) (r : Bool) {actors' bodies' : List ℕ} (i : ℕ) (c : Action) → x ≡ action_line i c
      → Took r (next ACTIONS (length (action_lines a)) i) (ActionTables (action_lines a ++ c ∷ []) actors' bodies') ((actors' ≡ actors) × (bodies' ≡ bodies))
      → Took r (ranged a x) (Back (put x a) stmts inits actors' bodies' homes entries exits flags moves choices pairs steps calls acts start count)
      (Back a stmts inits actors' bodies' homes entries exits flags moves choices pairs steps calls acts start count)
  took_action x r i c e h = rw e (record {
    told = h.told ∙ ranged_action a i c;
    done = λ q. back_action a i c b (h.done q) (next_room ACTIONS (length (action_lines a)) i (sym h.told ∙ q));
    left = λ q. let k = h.left q in rw (k.0, k.1) b;
  })

  -- a state
  pub took_state : (x : Said) (r : Bool) {homes' entries' exits' flags' : List ℕ} (i : ℕ) (n : State) → x ≡ state_line i n
      → Took r (next STATES (length (state_lines a)) i) (FlaggedTables (state_lines a ++ n ∷ []) homes' entries' exits' flags') ((homes' ≡ homes) × (entries' ≡ entries) × (exits' ≡ exits) × (flags' ≡ flags))
      → Took r (ranged a x) (Back (put x a) stmts inits actors bodies homes' entries' exits' flags' moves choices pairs steps calls acts start count)
      (Back a stmts inits actors bodies homes' entries' exits' flags' moves choices pairs steps calls acts start count)
  took_state x r i n e h = rw e (record {
    told = h.told ∙ ranged_state a i n;
    done = λ q. back_state a i n b (h.done q) (next_room STATES (length (state_lines a)) i (sym h.told ∙ q));
    left = λ q. let k = h.left q in rw (k.0, k.1, k.2, k.3) b;
  })

  -- room for one more move
  abbrev pub moves_there : length (move_lines a) < MOVES → MoveRoom moves (steps + (calls + acts))
  moves_there l = record {
    rows = move_lines a;
    held = b.moved.held;
    count = length-append (step_lines a) (call_lines a ++ act_lines a) ∙ omega (arith, length-append (call_lines a) (act_lines a), b.moved.step, b.moved.call, b.moved.act);
    room = omega (arith, l, length-append (step_lines a) (call_lines a ++ act_lines a), length-append (call_lines a) (act_lines a), b.moved.step, b.moved.call, b.moved.act);
  }

  -- a step
  pub took_step : (x : Said) {moves' : List ℕ} {steps' : ℕ} (m : Move) → x ≡ step_line m → call_lines a ≡ [] → act_lines a ≡ [] → moves' ≡ move_table (move_lines a ++ m ∷ []) → steps' ≡ steps + 1
      → Took true (ranged a x) (Back (put x a) stmts inits actors bodies homes entries exits flags moves' choices pairs steps' calls acts start count)
      (Back a stmts inits actors bodies homes entries exits flags moves' choices pairs steps' calls acts start count)
  took_step x m e k l h n = rw e (took (sym (ranged_step a m)) (back_step a m b h n k l))

  -- a call
  pub took_call : (x : Said) {moves' : List ℕ} {calls' : ℕ} (m : Move) → x ≡ call_line m → act_lines a ≡ [] → moves' ≡ move_table (move_lines a ++ m ∷ []) → calls' ≡ calls + 1
      → Took true (ranged a x) (Back (put x a) stmts inits actors bodies homes entries exits flags moves' choices pairs steps calls' acts start count)
      (Back a stmts inits actors bodies homes entries exits flags moves' choices pairs steps calls' acts start count)
  took_call x m e l h n = rw e (took (sym (ranged_call a m)) (back_call a m b h n l))

  -- an act
  pub took_act : (x : Said) {moves' : List ℕ} {acts' : ℕ} (m : Move) → x ≡ act_line m → moves' ≡ move_table (move_lines a ++ m ∷ []) → acts' ≡ acts + 1
      → Took true (ranged a x) (Back (put x a) stmts inits actors bodies homes entries exits flags moves' choices pairs steps calls acts' start count)
      (Back a stmts inits actors bodies homes entries exits flags moves' choices pairs steps calls acts' start count)
  took_act x m e h n = rw e (took (sym (ranged_act a m)) (back_act a m b h n))

  -- a step, a call or an act
  pub took_moved : (s places : List ℕ) (row : ℕ) {moves' : List ℕ} {steps' calls' acts' : ℕ} → 38 ≤ row → row ≤ 40 → (row ≤ 38 → call_lines a ≡ []) → (row ≤ 39 → act_lines a ≡ [])
      → Moved row (move_lines a) (move_at s places) steps calls acts moves' steps' calls' acts'
      → Took true (ranged a (line_at s places row)) (Back (put (line_at s places row) a) stmts inits actors bodies homes entries exits flags moves' choices pairs steps' calls' acts' start count)
      (Back a stmts inits actors bodies homes entries exits flags moves' choices pairs steps' calls' acts' start count)
  took_moved s places row l h no_call no_act w = dite (ℕ_discrete row 38)
      (λ e. let k = w.step e in rw (k.1, k.2) (took_step (line_at s places row) (move_at s places) (ap (line_at s places) e ∙ step_says s places) (no_call (omega arith)) (no_act (omega arith)) w.table k.0))
      (λ n. dite (ℕ_discrete row 39)
      (λ e. let k = w.call e in rw (k.0, k.2) (took_call (line_at s places row) (move_at s places) (ap (line_at s places) e ∙ call_says s places) (no_act (omega arith)) w.table k.1))
      (λ o. let e : row ≡ 40 = omega (arith, n, o) in let k = w.act e in rw (k.0, k.1) (took_act (line_at s places row) (move_at s places) (ap (line_at s places) e ∙ act_says s places) w.table k.2)))

  -- the start
  pub took_start : (x : Said) {start' : Option Kind} (k : ℕ) → x ≡ start_line k → start' ≡ Some (record { 0 = byte_of k })
      → Took true (ranged a x) (Back (put x a) stmts inits actors bodies homes entries exits flags moves choices pairs steps calls acts start' count)
      (Back a stmts inits actors bodies homes entries exits flags moves choices pairs steps calls acts start' count)
  took_start x k e h = rw e (took (sym (ranged_start a k)) (back_start a k b h))

  -- a choice
  pub took_choice : (x : Said) (r : Bool) {choices' : List ℕ} {count' : ℕ} (c : Choice) → x ≡ choice_line c
      → Took r (choosable (length (choice_lines a)) c.machine c.bits) ((choices' ≡ choice_table (choice_lines a ++ c ∷ [])) × (count' ≡ count + 1)) ((choices' ≡ choices) × (count' ≡ count))
      → Took r (ranged a x) (Back (put x a) stmts inits actors bodies homes entries exits flags moves choices' pairs steps calls acts start count')
      (Back a stmts inits actors bodies homes entries exits flags moves choices' pairs steps calls acts start count')
  took_choice x r c e h = rw e (record {
    told = h.told ∙ ranged_choice a c;
    done = λ q. let k = h.done q in back_choice a c b k.0 k.1 (choice_room (length (choice_lines a)) c.machine c.bits (sym h.told ∙ q));
    left = λ q. let k = h.left q in rw (k.0, k.1) b;
  })
