-- What is asked of a program, what a turn over a row adds to the names of the rows before it, and the line of a fault.
use Rattle.std.specs.Prelude.{ℕ, ◌+◌, ◌*◌, ◌<◌, ◌≡◌, Bool, true, false, not, ◌&&◌, ◌||◌, List, [], ◌∷◌, ◌++◌, map, length, take}
use Rattle.std.proofs.Math.Path.{refl}
use Rattle.std.proofs.Common.{ap, sym, ◌∙◌}
use Rattle.std.proofs.lemmas.List.{map-append}
use Rattle.lists.specs.Lists.{at, flat}
use Rattle.lists.specs.Keep.{flat_snoc}
use Rattle.programs.specs.Sizes.{KINDS, EVENTS, VARIABLES}
use Rattle.programs.specs.Program.{Program}
use Rattle.soundness.specs.Asked.{lower}
use Rattle.soundness.specs.Sound.{lines, first_fault}
use Rattle.tables.specs.declared.Program.{Program as Tables}
use Rattle.tables.specs.Decode.{count, exprs_of, stmts_of, actions_of, states_of, program_of}
use Rattle.tables.specs.Tables.{events_length, variables_length, exprs_length, stmts_length, actions_length, states_length}
use Rattle.faults.specs.declared.Counts.{Counts}
use Rattle.faults.specs.Faults.{onward, joined, joined_none, joined_last, onward_onward, row_fault, fault_nothing, taken_more, moves_free, states_fault, tables_fault, lines_fault}
use Rattle.faults.specs.Read.{Counted, Rows}

-- WHAT IS ASKED of a program, beside how many rows it has: the expressions, statements, actions and states of the code's tables, whatever a state defers
pub record HasParts (p : Program) (q : Tables) : Type 0 where
  pub same_exprs : p.exprs ≡ exprs_of q.exprs
  pub same_stmts : p.stmts ≡ stmts_of q.stmts q.inits
  pub same_actions : p.actions ≡ actions_of q.action_of q.action_body
  pub flags : List ℕ
  pub same_states : p.states ≡ states_of q.state_of q.state_entry q.state_exit flags

-- WHAT A CALLER KNOWS of one: that it has these, and as many events, kinds and variables as the tables, whatever they are
pub record TellsParts (p : Program) (q : Tables) : Type 0 where
  pub events : length p.events ≡ count EVENTS q.event_types
  pub machines : p.machines ≡ q.kinds
  pub variables : length p.variables ≡ count (KINDS * VARIABLES) q.variable_of
  pub same_exprs : p.exprs ≡ exprs_of q.exprs
  pub same_stmts : p.stmts ≡ stmts_of q.stmts q.inits
  pub same_actions : p.actions ≡ actions_of q.action_of q.action_body
  pub flags : List ℕ
  pub same_states : p.states ≡ states_of q.state_of q.state_entry q.state_exit flags

-- LAWS FOR CALLERS, who hand in what `faults::count_rows` counts: these are the rows of such a program,
pub counted_parts : {p : Program} {q : Tables} {c : Counts} → TellsParts p q → Rows q c → Counted p c
counted_parts {p} {q} {c} t n = record {
  events = t.events ∙ sym n.events;
  machines = t.machines ∙ sym n.machines;
  variables = t.variables ∙ sym n.variables;
  exprs = ap length t.same_exprs ∙ exprs_length q.exprs ∙ sym n.exprs;
  stmts = ap length t.same_stmts ∙ stmts_length q.stmts q.inits ∙ sym n.stmts;
  actions = ap length t.same_actions ∙ actions_length q.action_of q.action_body ∙ sym n.actions;
  states = ap length t.same_states ∙ states_length q.state_of q.state_entry q.state_exit t.flags ∙ sym n.states;
}

-- it has the parts;
pub has_parts : {p : Program} {q : Tables} → TellsParts p q → HasParts p q
has_parts t = record { same_exprs = t.same_exprs; same_stmts = t.same_stmts; same_actions = t.same_actions; flags = t.flags; same_states = t.same_states }

-- and the program that the tables are is such a one,
pub tells_parts_program : (q : Tables) → TellsParts (program_of q) q
tells_parts_program q = record {
  events = events_length q.event_types;
  machines = refl;
  variables = variables_length q.variable_of q.variable_type;
  same_exprs = refl;
  same_stmts = refl;
  same_actions = refl;
  flags = q.defers;
  same_states = refl;
}

-- and has the parts
pub has_parts_program : (q : Tables) → HasParts (program_of q) q
has_parts_program q = has_parts (tells_parts_program q)

-- NAMES
module _ {A : Type 0} (d : A) (l : List A) (i : ℕ) (h : i < length l) where
  -- what it names behind what they name
  pub flat_more : (f : A → List ℕ) → flat f (take (i + 1) l) ≡ flat f (take i l) ++ f (at d l (i + 1))
  flat_more f = ap (flat f) (taken_more d l i h) ∙ flat_snoc f (take i l) (at d l (i + 1))

  -- where each names one
  pub map_more : (f : A → ℕ) → map f (take (i + 1) l) ≡ map f (take i l) ++ f (at d l (i + 1)) ∷ []
  map_more f = ap (map f) (taken_more d l i h) ∙ map-append f (take i l) (at d l (i + 1) ∷ [])

-- neither of two
pub not_either : (a b : Bool) → not (a || b) ≡ not a && not b
not_either true b = refl
not_either false b = refl

-- THE LINE of a fault: behind the variables, with nothing asked of the moves
module _ (p : Program) {c : Counts} (n : Counted p c) where
  -- the line, by what the passes over the tables answer
  pub lower_line : {e s a q r : ℕ} → e ≡ row_fault (lower p).expr p.exprs → s ≡ row_fault (lower p).stmt p.stmts → a ≡ row_fault (lower p).action p.actions
      → q ≡ row_fault (lower p).state p.states → r ≡ onward (c.events + c.kinds + c.variables) (joined e c.exprs (joined s c.stmts (joined a c.actions q)))
      → r ≡ first_fault 1 (lines p (lower p))
  unfolding states_fault tables_fault
  lower_line he hs ha hq hr =
      hr ∙ rw (he, hs, ha, hq, ← n.exprs, ← n.stmts, ← n.actions, ← n.variables, ← n.events, ← n.machines)
      (sym (lines_fault p (lower p)
      ∙ rw (fault_nothing 1 1 p.variables, moves_free p (lower p) (fault_nothing 1 1 p.steps) (fault_nothing 1 1 p.calls) (fault_nothing 1 1 p.acts) refl, joined_last (row_fault (lower p).state p.states) (length p.states), joined_none (length p.variables) _)
      (onward_onward (length p.events + p.machines) (length p.variables) _)))
