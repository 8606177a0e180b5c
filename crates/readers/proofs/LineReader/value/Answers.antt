-- `LineReader::value` meets its contract: behind the end of the text there is no word. Assumes nothing.
use Rattle.std.proofs.Common.{sym, arith}
use Rattle.readers.specs.Words.{word_out}
use Rattle.readers.proofs.LineReader.value.Goals as goal

pub returns-in-None : goal.returns-in-None
returns-in-None c = sym (word_out c.args.self.text.now c.args.self.at (omega (arith, c.in-None.ensures.lookup)))
