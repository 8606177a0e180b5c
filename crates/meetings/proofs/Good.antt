-- DEMAND 3 for the rules: from an accepted configuration, where every choice but perhaps the last takes a step, regrouping is as the user asks.
use Rattle.std.specs.Prelude.{◌≡◌, List}
use Rattle.std.proofs.Math.Option.{some}
use Rattle.lists.specs.Ends.{but_last}
use Rattle.programs.specs.Program.{Program}
use Rattle.machines.specs.Config.{Config, Choice}
use Rattle.runs.specs.Run.{Stepped}
use Rattle.rules.specs.Step.{step}
use Rattle.soundness.specs.Sound.{Sound}
use Rattle.acceptance.specs.Accepted.{Accepted}
use Rattle.kept.specs.Theorem.{step_keeps}
use Rattle.regrouping.specs.Demand.{Regrouping}
use Rattle.regrouping.proofs.Theorem as theorem
use Rattle.meetings.specs.Meetings.{meets, own, regroup}
use Rattle.meetings.proofs.Bridge.{commute}

module _ (p : Program) where
  -- the regrouped list is there, with the five facts: the same choices; each machine's in order; the same last one; changes of machine only after a
  -- meeting of the regrouped run or a machine's last choice; the same end, configuration and answer
  pub regroup_good : (c : Config) (l : List Choice) → Sound p → Accepted p c → Stepped (step p) c (but_last l) →
      (m : List Choice) × (regroup p c l ≡ some m) × Regrouping (step p) own meets c l m
  regroup_good c l sound accepted stepped = theorem.regroup_good (step p) own meets (λ c l. Accepted p c)
      (λ c d x l i e. step_keeps p sound c d x.0 x.1 i e)
      (λ c l m s i. i)
      (λ c c₁ c₂ x y l i d q e₁ e₂. commute p c c₁ c₂ x.0 y.0 x.1 y.1 i d q e₁ e₂)
      c l stepped (λ m e. accepted)
