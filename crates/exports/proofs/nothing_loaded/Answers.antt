-- `exports::nothing_loaded` meets its contract: tables of zeros are those of no program. Assumes nothing.
use Rattle.std.proofs.Common.{ap}
use Rattle.exports.specs.Exported.{load_numbers}
use Rattle.loading.specs.Beginning.{nothing_loaded}
use Rattle.exports.proofs.nothing_loaded.Goals as goal

pub returns : goal.returns
returns c = rw (c.no_tables.ensures, c.number.ensures) (ap load_numbers (nothing_loaded c.args.answer c.args.line))
