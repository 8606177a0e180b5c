-- `output_lines::write_refusal` meets its contract: the answer's field, then the line's. Assumes nothing.
use mathlib.Core.List.{[], ◌∷◌, ◌++◌}
use Rattle.texts.specs.Bytes.{LF}
use Rattle.outputs.specs.Lines.{field}
use Rattle.writing.specs.Wrote.{Room, room_first, room_second, wrote_both}
use Rattle.output_lines.proofs.write_refusal.Goals as goal
use Rattle.output_lines.proofs.write_refusal.Goals.{After-from-number}

-- the room, with the number that was worked out
room : (c : After-from-number) → Room (field "end=" c.from-number.result ++ (field " line=" c.args.line ++ LF ∷ [])) c.args.at c.args.out.now
room c = rw (c.from-number.ensures, c.number.ensures) c.requires

pub write_field-second-requires : goal.write_field-second-requires
write_field-second-requires c =
    room_first (field "end=" c.from-number.result) (field " line=" c.args.line ++ LF ∷ []) (room (goal.at.write_field-second-requires c).After-from-number)

pub write_last-requires : goal.write_last-requires
write_last-requires c =
    room_second (field "end=" c.from-number.result) (field " line=" c.args.line ++ LF ∷ []) (room (goal.at.write_last-requires c).After-from-number) c.write_field-second.ensures

pub returns : goal.returns
returns c =
    rw (c.from-number.ensures, c.number.ensures) at
    (wrote_both (field "end=" c.from-number.result) (field " line=" c.args.line ++ LF ∷ []) (room (goal.at.returns c).After-from-number) c.write_field-second.ensures c.write_last.ensures)
