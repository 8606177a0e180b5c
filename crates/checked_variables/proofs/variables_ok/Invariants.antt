-- `checked_variables::variables_ok` meets its contract: before variable x, of those that were passed j were of the kind, the rest is left to be asked. Assumes nothing.
use Prim.Native.Nat.{◌-◌, ◌*◌, ◌≤◌}
use mathlib.Core.Path.{◌≡◌}
use lib.ListN.{get_or}
use Rattle.rows.specs.Part.{part}
use Rattle.programs.specs.Program.{Program}
use Rattle.tables.specs.Decode.{events_of, variables_of}
use Rattle.checked_variables.specs.Going.{Counted, Going}
use Rattle.checked_variables.proofs.variables_ok.Given as goal

abbrev pub invariant-loop-x : goal.invariant-loop-x
invariant-loop-x l = (1 ≤ l.x) × (l.j ≤ 16) × Counted (get_or l.flat.kinds l.i 0) (variables_of l.program.variable_of l.program.variable_type) (l.x - 1) l.j
    × ((p : Program) → p.events ≡ events_of l.program.event_types
    → Going p l.flat.next (get_or l.flat.kinds l.i 0) (variables_of l.program.variable_of l.program.variable_type) (part (l.i * 19) 19 l.flat.values) (l.x - 1) l.j)
