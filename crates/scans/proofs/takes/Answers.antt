-- `scans::takes` meets its contract: the four holes, one by one. Assumes nothing.
use Rattle.std.proofs.Common.{rules}
use mathlib.Core.Path.{◌∙◌}
use Rattle.scans.specs.Holes.{at_list, at_pairs}
use Rattle.scans.proofs.takes.Goals as goal

pub returns-in-64 : goal.returns-in-64
returns-in-64 c = let a = c.args in c.numbers_ok.ensures ∙ at_list a.c a.d.now c.in-64.is

pub returns-in_default : goal.returns-in_default
returns-in_default c =
    let a = c.args in
    c.pairs_ok.ensures ∙ at_pairs a.c a.d.now c.requires (search rules) (search rules) (search rules)
