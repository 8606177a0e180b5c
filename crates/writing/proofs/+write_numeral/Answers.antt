-- `writing::write_numeral` meets its contract, by the number, which falls at each call: a number below ten is one digit, any other has its last digit behind
-- those of its tenth. Assumes nothing.
use Rattle.std.proofs.Common.{◌+◌, ◌/◌, ◌%◌, [], ◌∷◌, arith}
use Rattle.outputs.specs.Lines.{numeral}
use Rattle.outputs.specs.Numerals.{numeral_small, numeral_more}
use Rattle.writing.specs.Wrote.{room_first, room_second, wrote_both}
use Rattle.writing.proofs.+write_numeral.Goals as goal

pub write_byte-requires : goal.write_byte-requires
write_byte-requires t c = rw (numeral_small c.args.n c.if-n-lt10.true) at c.requires

pub returns-then-n-lt10 : goal.returns-then-n-lt10
returns-then-n-lt10 t c = rw (numeral_small c.args.n c.if-n-lt10.true) c.write_byte.ensures

pub write_numeral-last-requires : goal.write_numeral-last-requires
write_numeral-last-requires t c =
    let n = c.args.n in
    (omega arith, room_first (numeral (n / 10)) ((48 + n % 10) ∷ []) (rw (numeral_more n c.if-n-lt10.false) at c.requires))

pub write_byte-requires-2 : goal.write_byte-requires-2
write_byte-requires-2 t c =
    let n = c.args.n in
    room_second (numeral (n / 10)) ((48 + n % 10) ∷ []) (rw (numeral_more n c.if-n-lt10.false) at c.requires) c.write_numeral-last.ensures

pub returns : goal.returns
returns t c =
    let n = c.args.n in
    let room = rw (numeral_more n c.if-n-lt10.false) at c.requires in
    rw (numeral_more n c.if-n-lt10.false) (wrote_both (numeral (n / 10)) ((48 + n % 10) ∷ []) room c.write_numeral-last.ensures c.write_byte-2.ensures)
