-- `putting::put_variable` meets its contract: the row is stored behind those that are there, and counted. Assumes nothing.
use native.Mathlib.Omega.{arith}
use Rattle.putting.specs.More.{variable_room}
use Rattle.putting.proofs.put_variable.Goals as goal

pub overflow_add-x : goal.overflow_add-x
overflow_add-x c = omega (arith, variable_room c.requires)

pub bounds-kinds-from : goal.bounds-kinds-from
bounds-kinds-from c = omega (arith, variable_room c.requires)

pub bounds-types-from : goal.bounds-types-from
bounds-types-from c = omega (arith, variable_room c.requires)
