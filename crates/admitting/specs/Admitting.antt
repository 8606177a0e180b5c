-- What a configuration that lies in the engine's arrays is asked of: a sound program, whose tables are lent to the test one by one.
use Rattle.std.specs.Prelude.{ℕ, refl, List}
use Rattle.soundness.specs.Sound.{Sound}
use Rattle.tables.specs.declared.Program.{Program as Tables}
use Rattle.tables.specs.Decode.{program_of}
use Rattle.marks.specs.Marks.{Heights, Served}
use Rattle.configs.specs.declared.Flat.{Flat}
use Rattle.configs.specs.Flat.{Sized}
use Rattle.accepting.specs.Asked.{Told}

-- the program is sound, and the arrays have the places of 32 rooms
pub record Laid (q : Tables) (f : Flat) : Type 0 where
  pub sound : Sound (program_of q)
  pub sized : Sized f

-- what the test is told of the program's tables
module _ (q : Tables) (s : Sound (program_of q)) where
  pub told_tables : {heights served : List ℕ} → Heights (program_of q) heights → Served (program_of q) served
      → Told q.event_types q.variable_of q.variable_type q.stmts q.action_of q.state_of heights served q.kinds (program_of q)
  told_tables h k = record {
    sound = s;
    events_are = refl;
    variables_are = refl;
    inits = q.inits;
    stmts_are = refl;
    bodies = q.action_body;
    actions_are = refl;
    entries = q.state_entry;
    exits = q.state_exit;
    flags = q.defers;
    states_are = refl;
    machines_are = refl;
    tall = h;
    serving = k;
  }
