-- `admitting::admitted` meets its contract: the tables that it works out are those of the program. Assumes nothing.
use Rattle.tables.specs.Decode.{program_of}
use Rattle.marks.specs.Marks.{stated_program, peopled_program}
use Rattle.admitting.specs.Admitting.{told_tables}
use Rattle.admitting.proofs.admitted.Goals as goal

pub accepted_on-requires : goal.accepted_on-requires
accepted_on-requires c =
    record { sized = c.requires.sized; few = c.requires.sound.is_sized.0 }

pub returns : goal.returns
returns c =
    let q = c.args.program.now in
    c.accepted_on.ensures (program_of q)
    (told_tables q c.requires.sound (c.heights-heights.ensures (program_of q) (stated_program q)) (c.served-served.ensures (program_of q) (peopled_program q)))
