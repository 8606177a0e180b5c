-- THE TABLES OF A PROGRAM READ AS THE PROGRAM STOOD. And a program that was read from a text fits them, where its variables, moves and pairs are not too many.
use Rattle.std.specs.Prelude.{ℕ, ◌+◌, ◌*◌, ◌≤◌, ◌≡◌, true, List, [], ◌++◌, map, length}
use Rattle.std.proofs.Common.{ap, sym, ◌∙◌, append_assoc, append-nil, arith, length-append}
use Rattle.lists.specs.Lists.{flat}
use Rattle.lists.specs.Check.{each_all}
use Rattle.programs.specs.Sizes.{KINDS, VARIABLES}
use Rattle.programs.specs.Program.{Program, Move}
use Rattle.machines.specs.Config.{Choice}
use Rattle.soundness.specs.Asked.{ascending, orderly, init_of}
use Rattle.soundness.specs.Sound.{expr_ranged}
use Rattle.soundness.specs.Lines.{tables, numbered_all}
use Rattle.loaded.specs.Fitting.{Prepared}
use Rattle.tables.specs.Decode.{MOVES, PAIRS, moves_of, program_of}
use Rattle.tabled.specs.Tabled.{move_table, tabled}
use Rattle.standing.specs.Stood.{move_stood, stood, Fitting}
use Rattle.standing.specs.Plain.{events_read, variables_read, exprs_read, actions_read, moves_read}
use Rattle.standing.specs.Statements.{stmts_read}
use Rattle.standing.specs.States.{states_read}

-- WHAT A TEXT IS READ TO fits
pub prepared_fits : (p : Program) (c : List Choice) → Prepared p c → length p.variables ≤ KINDS * VARIABLES
    → length p.steps + (length p.calls + length p.acts) ≤ MOVES → length (flat init_of p.stmts) ≤ PAIRS → Fitting p
prepared_fits p c h variables moves pairs = record {
  events = h.is_sized.1.0;
  machines = h.is_sized.0;
  variables = variables;
  exprs = h.is_sized.1.1.1.0;
  stmts = h.is_sized.1.1.1.1.0;
  actions = h.is_sized.1.1.1.1.1.0;
  states = h.is_sized.1.1.1.1.1.1.0;
  moves = moves;
  pairs = pairs;
  ranged = each_all (expr_ranged p) p.exprs h.is_sized.1.1.1.1.1.1.1;
  deferring = numbered_all orderly.state (λ n. ascending n.defer ≡ true) p.states (λ n q k. k) (tables p orderly h.is_orderly).states;
}

-- the acts of a program, the last of its moves
acts_read : (ts cs ds : List Move) → length ts + (length cs + length ds) ≤ MOVES
    → moves_of (move_table (ts ++ (cs ++ ds))) (length ts + length cs) (length ds) ≡ map move_stood ds
acts_read ts cs ds h =
    let n : length (ts ++ cs) ≡ length ts + length cs = length-append ts cs in
    let e : ts ++ (cs ++ ds) ≡ (ts ++ cs) ++ (ds ++ []) = sym (append_assoc ts cs ds) ∙ ap (λ (l : List Move). (ts ++ cs) ++ l) (sym (append-nil ds)) in
    ap (λ (l : List Move). moves_of (move_table l) (length ts + length cs) (length ds)) e
    ∙ ap (λ (k : ℕ). moves_of (move_table ((ts ++ cs) ++ (ds ++ []))) k (length ds)) (sym n) ∙ moves_read (ts ++ cs) ds [] (omega arith)

-- THE law: what is written of a program that fits is read as the program stood.
pub tabled_reads : (p : Program) → Fitting p → program_of (tabled p) ≡ stood p
tabled_reads p h = λ i. record {
  events = events_read p.events h.events i;
  machines = p.machines;
  variables = variables_read p.variables h.variables i;
  exprs = exprs_read p p.exprs h.exprs h.ranged i;
  stmts = stmts_read p.stmts h.stmts h.pairs i;
  actions = actions_read p.actions h.actions i;
  states = states_read p.states h.states h.deferring i;
  steps = moves_read [] p.steps (p.calls ++ p.acts) (omega (arith, h.moves)) i;
  calls = moves_read p.steps p.calls p.acts (omega (arith, h.moves)) i;
  acts = acts_read p.steps p.calls p.acts h.moves i;
  start = (stood p).start;
}
