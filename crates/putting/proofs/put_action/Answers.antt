-- `putting::put_action` meets its contract: the row is stored behind those that are there, and counted. Assumes nothing.
use native.Mathlib.Omega.{arith}
use Rattle.putting.specs.More.{action_room}
use Rattle.putting.proofs.put_action.Goals as goal

pub overflow_add-a : goal.overflow_add-a
overflow_add-a c = omega (arith, action_room c.requires)

pub bounds-kinds-from : goal.bounds-kinds-from
bounds-kinds-from c = omega (arith, action_room c.requires)

pub bounds-bodies-from : goal.bounds-bodies-from
bounds-bodies-from c = omega (arith, action_room c.requires)
