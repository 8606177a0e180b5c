-- `beginnings::init_values` meets its contract: after j turns the values of the first j pairs are worked out. Assumes nothing.
use lib.ListN.{replicate}
use Rattle.beginnings.specs.Inits.{InitsAsked, Working}
use Rattle.beginnings.proofs.init_values.Given as goal

abbrev pub invariant-loop-j : goal.invariant-loop-j
invariant-loop-j l = (q : InitsAsked l.k l.z l.n l.w l.program.exprs l.places l.program.variable_of l.program.variable_type l.program.inits l.values (replicate 19 0)) → Working q l.j l.rest l.out
