-- `listed::set_flags` meets its contract: the loop that sets the flags, of specs/Flags.antt. Assumes nothing.
use Rattle.listings.specs.Pieces.{pieces_left}
use Rattle.listed.specs.Flags.{FlagsLeft}
use Rattle.listed.proofs.set_flags.Given as goal

abbrev pub invariant-loop-part : goal.invariant-loop-part
invariant-loop-part l = record {
  can : goal.iterator-loop-part.can_next l.part-iterator;
  finite : goal.iterator-loop-part.is_finite l.part-iterator;
  flags : FlagsLeft l.d l.initial.flags l.b (pieces_left l.part-iterator) l.flags;
}
