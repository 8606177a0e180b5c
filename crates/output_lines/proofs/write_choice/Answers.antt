-- `output_lines::write_choice` meets its contract: the machine's field, then that of the bits. Assumes nothing.
use mathlib.Core.List.{[], ◌∷◌, ◌++◌}
use Rattle.texts.specs.Bytes.{LF}
use Rattle.outputs.specs.Lines.{field}
use Rattle.writing.specs.Wrote.{Room, room_first, room_second, wrote_both}
use Rattle.output_lines.proofs.write_choice.Goals as goal
use Rattle.output_lines.proofs.write_choice.Goals.{After-from-bits}

-- the room, with the numbers that were worked out
room : (c : After-from-bits) → Room (field "choice=" c.machine_of-machine.result.0 ++ (field " bits=" c.from-bits.result ++ LF ∷ [])) c.args.at c.args.out.now
room c = rw (c.machine_of-machine.ensures, c.from-bits.ensures, c.bits_of.ensures) c.requires

pub write_field-second-requires : goal.write_field-second-requires
write_field-second-requires c =
    room_first (field "choice=" c.machine_of-machine.result.0) (field " bits=" c.from-bits.result ++ LF ∷ []) (room (goal.at.write_field-second-requires c).After-from-bits)

pub write_last-requires : goal.write_last-requires
write_last-requires c =
    room_second (field "choice=" c.machine_of-machine.result.0) (field " bits=" c.from-bits.result ++ LF ∷ []) (room (goal.at.write_last-requires c).After-from-bits) c.write_field-second.ensures

pub returns : goal.returns
returns c =
    rw (c.machine_of-machine.ensures, c.from-bits.ensures, c.bits_of.ensures) at
    (wrote_both (field "choice=" c.machine_of-machine.result.0) (field " bits=" c.from-bits.result ++ LF ∷ []) (room (goal.at.returns c).After-from-bits) c.write_field-second.ensures c.write_last.ensures)
