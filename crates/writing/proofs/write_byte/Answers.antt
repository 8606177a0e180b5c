-- `writing::write_byte` meets its contract: one store. Assumes nothing.
use native.Mathlib.Omega.{arith}
use Rattle.writing.specs.Wrote.{wrote_one}
use Rattle.writing.proofs.write_byte.Goals as goal

pub returns : goal.returns
returns c = wrote_one c.args.b c.args.at c.args.out.now (omega arith)
