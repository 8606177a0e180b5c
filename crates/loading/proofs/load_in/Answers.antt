-- `loading::load_in` meets its contract: 1, or what the lines say. Assumes nothing.
use mathlib.Core.Path.{ap}
use Rattle.tabled.specs.Tabled.{loads}
use Rattle.loading.specs.Beginning.{begun}
use Rattle.loading.specs.Loading.{too_long}
use Rattle.loading.proofs.load_in.Goals as goal

pub returns-then-text-gt-TEXT : goal.returns-then-text-gt-TEXT
returns-then-text-gt-TEXT c = record { refused = ap loads (too_long _ c.if-text-gt-TEXT.true); handed = λ e. cc }

pub read_whole-requires : goal.read_whole-requires
read_whole-requires c = record { short = c.if-text-gt-TEXT.false; begun = rw c.requires (begun c.args.text.now c.if-text-gt-TEXT.false) }
