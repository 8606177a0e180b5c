-- `showing::look_in` meets its contract: the room's own numbers are what is shown of the machine. Assumes nothing.
use Rattle.std.proofs.Common.{◌∙◌, sym, arith, replicate}
use Rattle.rows.specs.Part.{part, part_length, put_over}
use Rattle.tables.specs.Decode.{program_of}
use Rattle.showing.specs.Looking.{row_long, stands_shown}
use Rattle.showing.proofs.look_in.Goals as goal

pub top-requires : goal.top-requires
top-requires c = c.requires.depth

pub returns : goal.returns
unfolding part
returns c =
    let q = c.args.program.now in
    let room = c.args.room.now in
    stands_shown (program_of q) room c.requires _ _ _ (c.top.ensures (program_of q) room.maps) (rw c.from.ensures at (c.variables_of.ensures q.variable_type)) (c.copy_from_slice.ensures.after ∙ sym (put_over (part 0 16 room.values) (replicate 16 0) (part_length 0 16 room.values (omega (arith, row_long (program_of q) room c.requires)))))
