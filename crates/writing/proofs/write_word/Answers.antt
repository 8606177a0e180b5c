-- `writing::write_word` meets its contract: the whole word is copied. Assumes nothing.
use Rattle.writing.specs.Wrote.{wrote_word}
use Rattle.std.proofs.Common.{refl}
use Rattle.writing.proofs.write_word.Goals as goal

pub returns : goal.returns
returns c = wrote_word c.args.word.now c.args.at c.args.out.now refl (rw c.copy_from_slice.ensures.after)
