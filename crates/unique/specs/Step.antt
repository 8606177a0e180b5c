-- The two public steps: two results that meet the contract are equal, and so is what the lent configuration is at the end, on refusals too.
use Rattle.std.specs.Prelude.{ℕ, ◌≡◌}
use Rattle.std.proofs.Common.{sym, ◌∙◌}
use Rattle.values.specs.declared.Live.{Live}
use Rattle.tables.specs.declared.Program.{Program as Tables}
use Rattle.configs.specs.declared.Config.{Config as Held}
use Rattle.engine.specs.Outcome.{Outcome}
use Rattle.handed.specs.declared.Stepped.{Stepped}
use Rattle.handed.specs.Handed.{step_of}
use Rattle.unique.specs.Forms.{one_result}

-- `stepping::step`
pub step_one : (q : Tables) (c : Held) (i : Live) (w : ℕ) (r s : Stepped) → r ≡ step_of q c i w → s ≡ step_of q c i w → r ≡ s
step_one q c i w r s = one_result (step_of q c i w) r s

-- `lent::step_in`
pub step_in_one : (q : Tables) (c : Held) (i : Live) (w : ℕ) (r s : Outcome) (d e : Held) → (r ≡ (step_of q c i w).outcome) × (d ≡ (step_of q c i w).config)
    → (s ≡ (step_of q c i w).outcome) × (e ≡ (step_of q c i w).config) → (r ≡ s) × (d ≡ e)
step_in_one q c i w r s d e h k = (h.0 ∙ sym k.0, h.1 ∙ sym k.1)
