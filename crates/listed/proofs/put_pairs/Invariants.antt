-- `listed::put_pairs` meets its contract: the loop that stores the pairs, of specs/Pool.antt. Assumes nothing.
use Rattle.listings.specs.Pieces.{pieces_left}
use Rattle.listed.specs.Pool.{PoolLeft}
use Rattle.listed.proofs.put_pairs.Given as goal

abbrev pub invariant-loop-part : goal.invariant-loop-part
invariant-loop-part l = record {
  can : goal.iterator-loop-part.can_next l.part-iterator;
  finite : goal.iterator-loop-part.is_finite l.part-iterator;
  pool : PoolLeft l.d l.initial.inits l.n (pieces_left l.part-iterator) l.k l.inits;
}
