-- `zeros::all_are` meets its contract: it says of the elements so far whether each is x. Assumes nothing.
use Rattle.std.proofs.Common.{◌≡◌, take}
use Rattle.std.specs.List.{list_all}
use Rattle.zeros.proofs.all_are.Given as goal

abbrev pub invariant-loop-y : goal.invariant-loop-y
invariant-loop-y g l = l.same ≡ list_all (λ y. g.T.PartialEq.eq y l.x) (take l.y-index l.xs)
