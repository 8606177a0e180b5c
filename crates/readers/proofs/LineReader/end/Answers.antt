-- `LineReader::end` meets its contract: a word ends inside the text, or where it begins. Assumes nothing.
use Rattle.std.proofs.Common.{ap, arith, drop, length, length-drop}
use Rattle.readers.specs.Words.{word_short}
use Rattle.readers.proofs.LineReader.end.Goals as goal

pub overflow_add-result : goal.overflow_add-result
overflow_add-result c =
    let r = c.args.self in
    omega (arith, ap length c.value.ensures, word_short (drop r.at r.text.now), length-drop r.at r.text.now)
