-- Every value that the machine holds is `Holdable`. At a parameter v the fact asked for is v's part of `c.good`, at what a call of f gives it is
-- `c.f.ok`. Assumes nothing.
use mathlib.Core.List.{[], ◌∷◌}
use denote.Laws.{Is}
use denote.Enum.Declared.{row}
use denote.Enum.Laws.{val}
use Rattle.values.specs.declared.Value.{Value}
use Rattle.values.specs.declared.Value.TheVariants.{Undefined as undefined, Bool as vbool, Int as vint, Event as vevent, Id as vid}
use Rattle.values.specs.contracts.Value.{the_type}
use Rattle.values.proofs.Value.TheLaws.{the_laws}
use Rattle.values.proofs.Ints.{in_range_lem}
use Rattle.codes.specs.Codes.{Holdable}

-- what the machine knows of a value bounds what the value holds
pub holdable : (v : Value) → Is (row the_type) v (val the_type the_laws v ∷ []) → Holdable v
holdable undefined g = tt
holdable (vbool b) g = tt
holdable (vint z) g = in_range_lem z g.1.1.1.1.0.1
holdable (vevent e) g = g.1.1.1.1.0.1
holdable (vid i) g = g.1.1.1.1.0.1.1.0.1
