-- `putting::put_state` meets its contract: the row is stored behind those that are there, and counted. Assumes nothing.
use native.Mathlib.Omega.{arith}
use Rattle.putting.specs.More.{state_room}
use Rattle.putting.proofs.put_state.Goals as goal

pub overflow_add-n : goal.overflow_add-n
overflow_add-n c = omega (arith, state_room c.requires)

pub bounds-kinds-from : goal.bounds-kinds-from
bounds-kinds-from c = omega (arith, state_room c.requires)

pub bounds-entries-from : goal.bounds-entries-from
bounds-entries-from c = omega (arith, state_room c.requires)

pub bounds-exits-from : goal.bounds-exits-from
bounds-exits-from c = omega (arith, state_room c.requires)
