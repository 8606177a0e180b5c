-- The first fault of a program's lines, where only some of its tables are asked anything: expressions and statements, or states; and the program that lent
-- arrays read as, where only some of them are lent.
use Rattle.std.specs.Prelude.{ℕ, ◌+◌, ◌*◌, ◌≡◌, refl, List, length}
use Rattle.std.proofs.Common.{ap, ◌∙◌, arith}
use Rattle.lists.specs.Check.{Check, free}
use Rattle.programs.specs.declared.Expr.{Expr}
use Rattle.programs.specs.Sizes.{KINDS, EVENTS, VARIABLES, EXPRS, STMTS}
use Rattle.programs.specs.Program.{Program, Stmt, State}
use Rattle.tables.specs.declared.Program.{Program as Tables}
use Rattle.tables.specs.Decode.{count, events_of, variables_of, exprs_of, stmts_of, program_of}
use Rattle.tables.specs.Tables.{events_length, variables_length, exprs_length, stmts_length}
use Rattle.soundness.specs.Asked.{Asked, nothing}
use Rattle.soundness.specs.Sound.{lines, first_fault}
use Rattle.faults.specs.Faults.{onward, joined, row_fault, states_fault, tables_fault, moves_free, joined_none, joined_last, onward_onward, fault_nothing, lines_fault}

-- asked of expressions and statements alone
abbrev pub of_terms : (ℕ → Expr → Check) → (ℕ → Stmt → Check) → Asked
of_terms e s = record {
  variable = nothing;
  expr = e;
  stmt = s;
  action = nothing;
  state = nothing;
  step = nothing;
  call = nothing;
  act = nothing;
  start = λ k. free;
}

-- asked of states alone
abbrev pub of_states : (ℕ → State → Check) → Asked
of_states q = record {
  variable = nothing;
  expr = nothing;
  stmt = nothing;
  action = nothing;
  state = q;
  step = nothing;
  call = nothing;
  act = nothing;
  start = λ k. free;
}

-- as many lines stand in front of the expressions
abbrev pub front_of : Program → ℕ
front_of p = length p.events + p.machines + length p.variables

-- p is a program with these events, kinds and variables
pub record Fronted (types : List ℕ) (kinds : ℕ) (variable_of : List ℕ) (p : Program) : Type 0 where
  pub variable_types : List ℕ
  pub same_events : p.events ≡ events_of types
  pub same_kinds : p.machines ≡ kinds
  pub same_variables : p.variables ≡ variables_of variable_of variable_types

-- p is a program with these events, kinds, variables, expressions and statements
pub record Told (types : List ℕ) (kinds : ℕ) (variable_of exprs stmts inits : List ℕ) (p : Program) : Type 0 where
  pub fronted : Fronted types kinds variable_of p
  pub same_exprs : p.exprs ≡ exprs_of exprs
  pub same_stmts : p.stmts ≡ stmts_of stmts inits

-- so, by the code's tables
abbrev pub Tells : Program → Tables → Type 0
Tells p q = Told q.event_types q.kinds q.variable_of q.exprs q.stmts q.inits p

-- LAWS FOR CALLERS: so is the program that the tables are
pub fronted_program : (q : Tables) → Fronted q.event_types q.kinds q.variable_of (program_of q)
fronted_program q = record { variable_types = q.variable_type; same_events = refl; same_kinds = refl; same_variables = refl }

-- with its expressions and statements
pub told_program : (q : Tables) → Tells (program_of q) q
told_program q = record { fronted = fronted_program q; same_exprs = refl; same_stmts = refl }

-- so many lines are in front of a program's expressions
pub front_is : (types : List ℕ) (kinds : ℕ) (variable_of : List ℕ) (p : Program) → Fronted types kinds variable_of p
    → front_of p ≡ count EVENTS types + kinds + count (KINDS * VARIABLES) variable_of
front_is types kinds variable_of p h =
    rw (h.same_events, h.same_kinds, h.same_variables, events_length types, variables_length variable_of h.variable_types)

module _ {types : List ℕ} {kinds : ℕ} {variable_of exprs stmts inits : List ℕ} {p : Program} (told : Told types kinds variable_of exprs stmts inits p) where
  -- it has as many expressions as their table says
  pub told_exprs : length p.exprs ≡ count EXPRS exprs
  told_exprs = ap length told.same_exprs ∙ exprs_length exprs

  -- and statements
  pub told_stmts : length p.stmts ≡ count STMTS stmts
  told_stmts = ap length told.same_stmts ∙ stmts_length stmts inits

-- THE FIRST FAULT of expressions and statements
pub terms_fault : (p : Program) (e : ℕ → Expr → Check) (s : ℕ → Stmt → Check)
    → first_fault 1 (lines p (of_terms e s)) ≡ onward (front_of p) (joined (row_fault e p.exprs) (length p.exprs) (row_fault s p.stmts))
unfolding states_fault tables_fault
terms_fault p e s =
    lines_fault p (of_terms e s)
    ∙ rw (
      fault_nothing 1 1 p.variables,
      fault_nothing 1 1 p.actions,
      fault_nothing 1 1 p.states,
      moves_free p (of_terms e s) (fault_nothing 1 1 p.steps) (fault_nothing 1 1 p.calls) (fault_nothing 1 1 p.acts) refl,
      joined_last 0 (length p.states),
      joined_last 0 (length p.actions),
      joined_last (row_fault s p.stmts) (length p.stmts),
      joined_none (length p.variables) _,
    ) (onward_onward (length p.events + p.machines) (length p.variables) _)

-- and of states
pub states_fault_lem : (p : Program) (q : ℕ → State → Check)
    → first_fault 1 (lines p (of_states q)) ≡ onward (front_of p + length p.exprs + length p.stmts + length p.actions) (row_fault q p.states)
unfolding states_fault tables_fault
states_fault_lem p q =
    let k : length p.events + p.machines + (length p.variables + (length p.exprs + (length p.stmts + length p.actions)))
    ≡ front_of p + length p.exprs + length p.stmts + length p.actions = omega arith in
    lines_fault p (of_states q)
    ∙ rw (
      fault_nothing 1 1 p.variables,
      fault_nothing 1 1 p.exprs,
      fault_nothing 1 1 p.stmts,
      fault_nothing 1 1 p.actions,
      moves_free p (of_states q) (fault_nothing 1 1 p.steps) (fault_nothing 1 1 p.calls) (fault_nothing 1 1 p.acts) refl,
      joined_last (row_fault q p.states) (length p.states),
    ) (simp (joined_none, onward_onward) (ap (λ (n : ℕ). onward n (row_fault q p.states)) k))
