-- `writing::write_last` meets its contract: the field, then the end of the line behind it. Assumes nothing.
use Rattle.writing.specs.Wrote.{room_first, room_second, wrote_both}
use Rattle.writing.proofs.write_last.Goals as goal

pub write_field-last-requires : goal.write_field-last-requires
write_field-last-requires c = room_first _ _ c.requires

pub write_byte-requires : goal.write_byte-requires
write_byte-requires c =
    room_second _ _ c.requires c.write_field-last.ensures

pub returns : goal.returns
returns c =
    wrote_both _ _ c.requires c.write_field-last.ensures c.write_byte.ensures
