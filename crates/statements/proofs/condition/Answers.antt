-- `statements::condition` meets its contract: the value that evaluation gives, where it is a bool.
use Rattle.std.specs.Prelude.{◌≡◌, refl, Bool, None}
use Rattle.std.proofs.Common.{sym, ap, ◌∙◌}
use Rattle.values.specs.declared.Value.{Value}
use Rattle.values.specs.declared.Value.TheVariants.{Undefined as undefined, Bool as vbool, Int as vint, Event as vevent, Id as vid}
use Rattle.codes.specs.Codes.{value_of}
use Rattle.statements.specs.Conditions.{truth_of}
use Rattle.statements.proofs.condition.Goals as goal

-- any value but a bool
no_bool : (v : Value) → ((b : Bool) → v ≡ vbool b → ⊥) → None ≡ truth_of v
no_bool undefined h = refl
no_bool (vbool b) h = absurd (h b refl)
no_bool (vint z) h = refl
no_bool (vevent e) h = refl
no_bool (vid i) h = refl

pub returns-in-Bool : goal.returns-in-Bool
returns-in-Bool c = ap truth_of (sym c.in-Bool.is ∙ c.value_of.ensures ∙ ap value_of c.number.ensures)

pub returns-in_default : goal.returns-in_default
returns-in_default c = no_bool c.value_of.result c.in_default.not-Bool ∙ ap truth_of (c.value_of.ensures ∙ ap value_of c.number.ensures)
