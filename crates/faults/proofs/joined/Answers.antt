-- `faults::joined` meets its contract: the fault in front, or else the one behind. Assumes nothing.
use Rattle.std.proofs.Common.{◌+◌, arith, ◌∙◌}
use Rattle.faults.specs.Lines.{number_of, joined_line, number_or}
use Rattle.faults.proofs.joined.Goals as goal

pub returns-clause-line : goal.returns-clause-line
returns-clause-line c = λ x y ea eb. c.or.ensures ∙ rw (ea, c.onward.ensures.line y eb) (joined_line x c.args.n y)

pub returns-clause-next : goal.returns-clause-next
returns-clause-next c = λ h. rw c.or.ensures (number_or c.args.a c.onward.result (c.args.n + number_of c.args.b) (omega arith) c.onward.ensures.bound)
