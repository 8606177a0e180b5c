-- `taking_states::put_flags` meets its contract. Assumes nothing.
use Rattle.taking_states.specs.Held.{flaggable, flags_set, flags_unset}
use Rattle.taking_states.proofs.put_flags.Goals as goal

pub set_flags-requires : goal.set_flags-requires
set_flags-requires c = flaggable c.requires c.field.ensures c.if-can.true

pub returns-then-can : goal.returns-then-can
returns-then-can c h t q = flags_set h t q c.field.ensures c.if-can.true c.set_flags.ensures

pub returns-else-can : goal.returns-else-can
returns-else-can c h t q = flags_unset h t q c.if-can.false
