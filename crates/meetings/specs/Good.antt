-- DEMAND 3 for the rules: when 22 is given. That what is given else is as the user asks stands in proofs/Good.antt.
use Rattle.std.specs.Prelude.{◌≡◌, List}
use Rattle.std.proofs.Math.Option.{none, some}
use Rattle.lists.specs.Ends.{but_last}
use Rattle.programs.specs.Program.{Program}
use Rattle.machines.specs.Config.{Config, Choice}
use Rattle.runs.specs.Run.{Stepped}
use Rattle.rules.specs.Step.{step}
use Rattle.regrouping.proofs.Theorem as theorem
use Rattle.meetings.specs.Meetings.{meets, own, regroup}

module _ (p : Program) where
  -- 22 is given exactly when a choice before the last takes no step
  pub no_list : (c : Config) (l : List Choice) → regroup p c l ≡ none → Stepped (step p) c (but_last l) → ⊥
  no_list c l e h = theorem.regroup_22 (step p) own meets c l e h

  -- and a list is given only when every such choice takes one
  pub a_list : (c : Config) (l m : List Choice) → regroup p c l ≡ some m → Stepped (step p) c (but_last l)
  a_list c l m e = theorem.regroup_0 (step p) own meets c l m e
