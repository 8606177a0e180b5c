-- The program that lent arrays read as, where a pass is lent them one by one: each table of the program is what its arrays say. And how many rows its
-- tables have.
use Prim.Native.Nat.{ℕ, suc, ◌+◌, ◌-◌, ◌*◌, ◌≤◌, ◌<◌, min}
use Rattle.std.specs.Prelude.{◌≡◌, List, length}
use Rattle.std.proofs.Math.Path.{ap}
use Rattle.std.proofs.Common.{sym, ◌∙◌}
use native.Mathlib.Omega.{arith}
use Rattle.std.proofs.Math.ListN.{get_or}
use Rattle.lists.specs.Lists.{at}
use Rattle.rows.specs.Seek.{table, table_length, table_get}
use Rattle.programs.specs.Sizes.{KINDS, EVENTS, VARIABLES, EXPRS, STMTS, ACTIONS, STATES}
use Rattle.programs.specs.Program.{Program, Move}
use Rattle.tables.specs.Decode.{count, events_of, variables_of, exprs_of, stmts_of, actions_of, states_of, MOVES, move_in, moves_of}
use Rattle.tables.specs.Tables.{events_length, variables_length, exprs_length, stmts_length, actions_length, states_length}
use Rattle.tables.specs.declared.Program.{Program as Tables}
use Rattle.soundness.specs.Asked.{Asked}
use Rattle.soundness.specs.Sound.{lines, first_fault}
use Rattle.faults.specs.declared.Counts.{Counts}
use Rattle.faults.specs.Faults.{onward, joined, line_fault, row_fault, moves_fault, states_fault, tables_fault, lines_fault}

-- ROWS
-- c has how many rows these tables have
pub record Counting (types : List ℕ) (kinds : ℕ) (owners trees steps actors places : List ℕ) (c : Counts) : Type 0 where
  pub events : c.events ≡ count EVENTS types
  pub machines : c.kinds ≡ kinds
  pub variables : c.variables ≡ count (KINDS * VARIABLES) owners
  pub exprs : c.exprs ≡ count EXPRS trees
  pub stmts : c.stmts ≡ count STMTS steps
  pub actions : c.actions ≡ count ACTIONS actors
  pub states : c.states ≡ count STATES places

-- c has how many rows the program's tables have
pub record Counted (p : Program) (c : Counts) : Type 0 where
  pub events : length p.events ≡ c.events
  pub machines : p.machines ≡ c.kinds
  pub variables : length p.variables ≡ c.variables
  pub exprs : length p.exprs ≡ c.exprs
  pub stmts : length p.stmts ≡ c.stmts
  pub actions : length p.actions ≡ c.actions
  pub states : length p.states ≡ c.states

-- and how many those of the code's tables have
abbrev pub Rows : Tables → Counts → Type 0
Rows q c = Counting q.event_types q.kinds q.variable_of q.exprs q.stmts q.action_of q.state_of c

-- none of them is large
pub record Small (c : Counts) : Type 0 where
  pub events : c.events ≤ 1024
  pub machines : c.kinds ≤ 1024
  pub variables : c.variables ≤ 1024
  pub exprs : c.exprs ≤ 1024
  pub stmts : c.stmts ≤ 1024
  pub actions : c.actions ≤ 1024
  pub states : c.states ≤ 1024

-- no table that is counted is
pub counting_small : {types : List ℕ} {kinds : ℕ} {owners exprs stmts actors states : List ℕ} {c : Counts} → kinds ≤ 255 → Counting types kinds owners exprs stmts actors states c → Small c
counting_small h n = record {
  events = omega (arith, n.events);
  machines = omega (arith, n.machines);
  variables = omega (arith, n.variables);
  exprs = omega (arith, n.exprs);
  stmts = omega (arith, n.stmts);
  actions = omega (arith, n.actions);
  states = omega (arith, n.states);
}

-- THE PROGRAM
-- the moves read as the program's: first the steps, then the calls, then the acts
pub record Moving (p : Program) (moves : List ℕ) (steps calls acts : ℕ) : Type 0 where
  pub step : p.steps ≡ moves_of moves 0 steps
  pub call : p.calls ≡ moves_of moves steps calls
  pub act : p.acts ≡ moves_of moves (steps + calls) acts

-- every table but the moves is what its arrays say
pub record Tabled (p : Program) (types : List ℕ) (kinds : ℕ) (owners holds exprs stmts inits actors bodies states entries exits flags : List ℕ) : Type 0 where
  pub event : p.events ≡ events_of types
  pub machine : p.machines ≡ kinds
  pub variable : p.variables ≡ variables_of owners holds
  pub expr : p.exprs ≡ exprs_of exprs
  pub stmt : p.stmts ≡ stmts_of stmts inits
  pub action : p.actions ≡ actions_of actors bodies
  pub state : p.states ≡ states_of states entries exits flags

-- p has these tables of the code's: all but the moves,
abbrev pub Holds : Program → Tables → Type 0
Holds p q = Tabled p q.event_types q.kinds q.variable_of q.variable_type q.exprs q.stmts q.inits q.action_of q.action_body q.state_of q.state_entry q.state_exit q.defers

-- and the moves
abbrev pub Moves : Program → Tables → Type 0
Moves p q = Moving p q.moves q.steps q.calls q.acts

-- what was counted are the program's rows
pub counted : {p : Program} {types : List ℕ} {kinds : ℕ} {owners holds exprs stmts inits actors bodies states entries exits flags : List ℕ} {c : Counts}
    → Tabled p types kinds owners holds exprs stmts inits actors bodies states entries exits flags → Counting types kinds owners exprs stmts actors states c → Counted p c
counted {p} {types} {kinds} {owners} {holds} {exprs} {stmts} {inits} {actors} {bodies} {states} {entries} {exits} {flags} t n = record {
  events = ap length t.event ∙ events_length types ∙ sym n.events;
  machines = t.machine ∙ sym n.machines;
  variables = ap length t.variable ∙ variables_length owners holds ∙ sym n.variables;
  exprs = ap length t.expr ∙ exprs_length exprs ∙ sym n.exprs;
  stmts = ap length t.stmt ∙ stmts_length stmts inits ∙ sym n.stmts;
  actions = ap length t.action ∙ actions_length actors bodies ∙ sym n.actions;
  states = ap length t.state ∙ states_length states entries exits flags ∙ sym n.states;
}

-- THE LINE of a program's first fault, by what the passes over its tables answer
module _ (p : Program) (t : Asked) {c : Counts} (n : Counted p c) where
  -- of the actions and what is behind them
  pub states_fault_is : {a q m r : ℕ} → a ≡ row_fault t.action p.actions → q ≡ row_fault t.state p.states → m ≡ moves_fault p t
      → r ≡ joined a c.actions (joined q c.states m) → r ≡ states_fault p t
  unfolding states_fault
  states_fault_is ha hq hm hr = hr ∙ rw (ha, hq, hm, ← n.actions, ← n.states)

  -- of all
  pub fault_is : {v e s b r : ℕ} → v ≡ row_fault t.variable p.variables → e ≡ row_fault t.expr p.exprs → s ≡ row_fault t.stmt p.stmts → b ≡ states_fault p t
      → r ≡ onward (c.events + c.kinds) (joined v c.variables (joined e c.exprs (joined s c.stmts b))) → r ≡ first_fault 1 (lines p t)
  unfolding tables_fault
  fault_is hv he hs hb hr = hr ∙ rw (hv, he, hs, hb, ← n.variables, ← n.exprs, ← n.stmts, ← n.events, ← n.machines) (sym (lines_fault p t))

-- MOVES
-- for what is absent
abbrev pub no_move : Move
no_move = record { from = 0; on = 0; to = 0 }

module _ (moves : List ℕ) (a n : ℕ) where
  -- how many moves there are of n from row a on
  pub moves_length : length (moves_of moves a n) ≡ min n (MOVES - a)
  unfolding moves_of
  moves_length = table_length (move_in moves) a (min n (MOVES - a))

  -- number i + 1 of them stands in row a + i
  pub moves_at : (i : ℕ) → i < min n (MOVES - a) → at no_move (moves_of moves a n) (i + 1) ≡ move_in moves (a + i)
  unfolding moves_of
  moves_at i h = rows_at i ∙ table_get (move_in moves) no_move a (min n (MOVES - a)) i h
    where
      rows_at : (i : ℕ) → at no_move (table (move_in moves) a (min n (MOVES - a))) (i + 1) ≡ get_or (table (move_in moves) a (min n (MOVES - a))) i no_move
      rows_at i = let e : i + 1 ≡ suc i = omega arith in ap (λ (k : ℕ). at no_move (table (move_in moves) a (min n (MOVES - a))) k) e

-- of the moves and the line `start`
pub moves_fault_is : (p : Program) (t : Asked) {moves : List ℕ} {steps calls acts a b d m r : ℕ} → Moving p moves steps calls acts
    → a ≡ row_fault t.step (moves_of moves 0 steps) → b ≡ row_fault t.call (moves_of moves steps calls) → d ≡ row_fault t.act (moves_of moves (steps + calls) acts)
    → m ≡ line_fault (t.start p.start)
    → r ≡ joined a (min steps (MOVES - 0)) (joined b (min calls (MOVES - steps)) (joined d (min acts (MOVES - (steps + calls))) m)) → r ≡ moves_fault p t
unfolding moves_fault
moves_fault_is p t {moves} {steps} {calls} {acts} g ha hb hd hm hr =
    hr ∙ rw (ha, hb, hd, hm, ← moves_length moves 0 steps, ← moves_length moves steps calls, ← moves_length moves (steps + calls) acts, ← g.step, ← g.call, ← g.act)
