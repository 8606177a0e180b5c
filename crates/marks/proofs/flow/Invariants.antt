-- `marks::flow` meets its contract: the turns that are left give what all turns give.
use mathlib.Core.Path.{◌≡◌}
use mathlib.Core.List.{List}
use Prim.Native.Nat.{ℕ}
use Rattle.marks.specs.declared.Inner.{Inner}
use Rattle.marks.specs.Inner.{listed}
use Rattle.marks.specs.Flow.{flowed}
use Rattle.marks.proofs.flow.Given as goal

abbrev pub invariant-loop-s : goal.invariant-loop-s
invariant-loop-s g l =
    (kids : ℕ → List ℕ) → ((m : ℕ) (i : Inner) → goal.F-post g l.inner m i → listed i ≡ kids m) → flowed kids l.b l.s l.marks ≡ flowed kids l.b l.n l.initial.marks
