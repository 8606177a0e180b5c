-- `copies::copy` meets its contract: the loop that copies, of specs/Copies.antt. Assumes nothing.
use Rattle.copies.specs.Copies.{Copied}
use Rattle.copies.proofs.copy.Given as goal

abbrev pub invariant-loop-e : goal.invariant-loop-e
invariant-loop-e g l = Copied l.fn.to l.fn.b l.fn.from l.fn.a l.fn.n l.to l.e
