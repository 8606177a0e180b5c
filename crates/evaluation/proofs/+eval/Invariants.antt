-- `evaluation::eval` ends: the number of the expression falls at each call.
use Rattle.evaluation.proofs.+eval.Given as goal

abbrev pub decreases-eval : goal.decreases-eval
decreases-eval l = l.e
