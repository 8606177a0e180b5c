-- BEFORE THE FIRST LINE: arrays of zeros hold no line, and are what is handed out on a refusal.
use Rattle.std.specs.Prelude.{ℕ, ◌≤◌, ◌≡◌, refl, List, length}
use Rattle.std.proofs.Common.{sym, arith}
use Rattle.std.proofs.lemmas.List.{length-replicate}
use Rattle.rows.specs.Pad.{zeros_get}
use Rattle.answers.specs.declared.Answer.{Answer}
use Rattle.programs.specs.Sizes.{TEXT}
use Rattle.texts.specs.Reading.{nothing, refused}
use Rattle.tabled.specs.Tabled.{Loaded, tabled, no_program, loaded_as}
use Rattle.gathering.specs.Gathered.{zeros, no_tables, no_lines}
use Rattle.putting.specs.NoLines.{no_events, no_variable_kinds, no_variable_types, no_exprs, no_stmts, no_pairs, no_action_kinds, no_action_bodies, no_state_kinds, no_state_entries, no_state_exits, no_flags, no_moves, no_choices}
use Rattle.taking_lines.specs.Asked.{Gathered}
use Rattle.reading.specs.Whole.{Begun}

-- they hold no line
pub holds_nothing : Gathered nothing no_lines
holds_nothing = record {
  front = record {
    events = record { held = sym no_events; size = omega arith };
    machines = record { held = refl; size = omega arith };
    vars = record {
      count = refl;
      size = length-replicate {A = ℕ} 17 0;
      counts = λ k h. zeros_get 0 17 k;
      few = λ k h. omega arith;
      tables = λ z. record { of = sym no_variable_kinds; type = sym no_variable_types };
      there = λ z. tt;
      first = λ i z. absurd (cc);
      front = λ i z. absurd (cc);
    };
    expressions = record { held = sym no_exprs; size = omega arith };
  };
  back = record {
    statements = record { held = record { table = sym no_stmts; pool = sym no_pairs; count = refl }; size = omega arith };
    actions = record { held = record { of = sym no_action_kinds; body = sym no_action_bodies }; size = omega arith };
    states = record { held = record { states = record { of = sym no_state_kinds; entry = sym no_state_entries; exit = sym no_state_exits }; defers = sym no_flags }; size = omega arith };
    moved = record { held = sym no_moves; step = refl; call = refl; act = refl };
    started = refl;
    chosen = record { held = sym no_choices; many = refl; size = omega arith };
  };
  unwritten = (refl, refl);
}

-- so reading may begin
pub begun : (s : List ℕ) → length s ≤ TEXT → Begun s no_lines
begun s h = record { short = h; gathered = holds_nothing }

-- THE TABLES OF NO PROGRAM, which are handed out on a refusal
pub no_tables_are : no_tables ≡ tabled no_program
no_tables_are = λ i. record {
  event_types = sym no_events i;
  kinds = 0;
  variable_of = sym no_variable_kinds i;
  variable_type = sym no_variable_types i;
  exprs = sym no_exprs i;
  stmts = sym no_stmts i;
  inits = sym no_pairs i;
  action_of = sym no_action_kinds i;
  action_body = sym no_action_bodies i;
  state_of = sym no_state_kinds i;
  state_entry = sym no_state_entries i;
  state_exit = sym no_state_exits i;
  defers = sym no_flags i;
  moves = sym no_moves i;
  steps = 0;
  calls = 0;
  acts = 0;
  start = record { 0 = 0 };
}

-- WHAT IS HANDED OUT ON A REFUSAL
pub nothing_loaded : (b : Answer) (n : ℕ) → ◌≡◌ {A = Loaded} (record { answer = b; line = n; program = no_tables; choices = zeros 4096; count = 0 }) (loaded_as (refused b n))
nothing_loaded b n = λ i. record { answer = b; line = n; program = no_tables_are i; choices = sym no_choices i; count = 0 }
