-- `scans::take` meets its contract: a word ends inside the text, or where it begins. Assumes nothing.
use mathlib.Core.Path.{ap}
use native.Mathlib.Omega.{arith}
use lib.ListN.{length, drop, length-drop}
use Rattle.readers.specs.Words.{word_short}
use Rattle.scans.proofs.take.Goals as goal

pub overflow_add-end : goal.overflow_add-end
overflow_add-end c =
    let a = c.args in omega (arith, ap length c.field-d.ensures, word_short (drop a.at a.s.now), length-drop a.at a.s.now)
