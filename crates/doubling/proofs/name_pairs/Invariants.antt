-- `doubling::name_pairs` meets its contract: before a turn the first j expressions are named. Assumes nothing.
use Rattle.std.proofs.Common.{take, map}
use Rattle.tables.specs.Decode.{pairs_of}
use Rattle.doubling.specs.Doubling.{Named}
use Rattle.doubling.proofs.name_pairs.Given as goal

abbrev pub invariant-loop-j : goal.invariant-loop-j
invariant-loop-j l = Named l.initial.seen (take l.j (map (λ xe. xe.1) (pairs_of l.inits l.i l.n))) l.again l.seen
