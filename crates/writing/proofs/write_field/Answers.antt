-- `writing::write_field` meets its contract: the key, then the number behind it. Assumes nothing.
use Rattle.writing.specs.Wrote.{room_first, room_second, wrote_both}
use Rattle.writing.proofs.write_field.Goals as goal

pub write_word-value-requires : goal.write_word-value-requires
write_word-value-requires c = room_first _ _ c.requires

pub write_numeral-requires : goal.write_numeral-requires
write_numeral-requires c =
    room_second _ _ c.requires c.write_word-value.ensures

pub returns : goal.returns
returns c =
    wrote_both _ _ c.requires c.write_word-value.ensures c.write_numeral.ensures
