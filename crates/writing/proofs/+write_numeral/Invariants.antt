-- `writing::write_numeral` meets its contract, by the number, which falls at each call: a number below ten is one digit, any other has its last digit behind
-- those of its tenth. Assumes nothing.
use Rattle.writing.proofs.+write_numeral.Given as goal

abbrev pub decreases-write_numeral : goal.decreases-write_numeral
decreases-write_numeral l = l.n
