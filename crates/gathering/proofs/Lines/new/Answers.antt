-- `gathering::Lines::new` meets its contract: the program's tables are those of no lines. Assumes nothing.
use Rattle.std.proofs.Common.{ap}
use Rattle.tables.specs.declared.Program.{Program}
use Rattle.gathering.specs.Gathered.{no_lines}
use Rattle.gathering.proofs.Lines.new.Goals as goal

pub returns : goal.returns
returns c = ap (λ (p : Program). record no_lines { program = p }) c.no_tables.ensures
