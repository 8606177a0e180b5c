-- What the pairs of an init list name is there, pair by pair.
use Rattle.std.specs.Prelude.{ℕ}
use Rattle.lists.specs.Check.{Check, ◌also◌}
use Rattle.programs.specs.Program.{Program}
use Rattle.soundness.specs.Asked.{variable_there, expr_there}

-- the variable and the expression of a pair are there
abbrev pub pair_refers : Program → ℕ × ℕ → Check
pair_refers p xe = variable_there p xe.0 also expr_there p xe.1
