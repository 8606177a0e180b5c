-- `output_lines::write_answer` meets its contract: one field, the last. Assumes nothing.
use Rattle.output_lines.proofs.write_answer.Goals as goal

pub write_last-requires : goal.write_last-requires
write_last-requires c =
    rw (c.from-number.ensures, c.number.ensures) c.requires

pub returns : goal.returns
returns c =
    rw (c.from-number.ensures, c.number.ensures) at c.write_last.ensures
