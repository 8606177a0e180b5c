-- `parts::settle` meets its contract: the loop that splits, of specs/Parts.antt; the head's number falls.
use Rattle.parts.specs.Parts.{Settling}
use Rattle.parts.proofs.settle.Given as goal

abbrev pub invariant-loop-first : goal.invariant-loop-first
invariant-loop-first l = Settling l.stmts l.b l.n l.initial.parts l.last l.s l.parts

abbrev pub decreases-loop-first : goal.decreases-loop-first
decreases-loop-first l = l.s
