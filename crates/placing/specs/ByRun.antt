-- What the regrouping of a choice list is, by the run of the choices before the last: it is refused (22) where the run takes fewer steps than there are choices, and else it is the list that
-- is written.
use Rattle.std.specs.Prelude.{ℕ, ◌≡◌, length}
use Rattle.std.proofs.Math.Path.{refl, ap}
use Rattle.std.proofs.Common.{sym, ◌∙◌}
use Rattle.std.proofs.Math.Option.{none, some}
use mathlib.Core.List.{List, [], ◌∷◌, ◌++◌, map}
use Rattle.lists.specs.Ends.{init_of, last_of, but_last}
use Rattle.machines.specs.Config.{Choice}
use Rattle.runs.specs.Outcome.{Out}
use Rattle.runs.specs.Run.{run, ruled}
use Rattle.rules.specs.declared.Rule.{Rule}
use Rattle.choices.specs.Choices.{choice_word, choice_of, choices_of}
use Rattle.labels.specs.Labels.{rule_number}
use Rattle.meetings.specs.Meetings.{own, meets}
use Rattle.regrouping.specs.Regrouped.{regrouped}
use Rattle.regrouping.specs.Demand.{choices, own_e, meet_e, regroup}
use Rattle.regrouping.specs.Labelled.{paired, paired_choices, paired_rules, ruled_many, label_all, label_none}
use Rattle.placing.specs.Placed.{placed_list}
use Rattle.placing.specs.Regroups.{placed_regroup}

module _ {C : Type 0} (step : C → Choice → Out C Rule) where
  -- THE REGROUPED LIST is written, where the list of rules begins with the numbers of the rules that the run applies.
  pub regroup_placed : (c : C) (l : List ℕ) → (run step c (but_last (choices_of l))).steps ≡ length (but_last (choices_of l)) →
      (w : List Choice) × (regroup step own meets c (choices_of l) ≡ some w) × ((more : List ℕ) → placed_list l (map rule_number (ruled step c (but_last (choices_of l))) ++ more) ≡ map choice_word w)
  unfolding regroup placed_list
  regroup_placed c [] h = ([], refl, λ more. refl)
  regroup_placed c (x ∷ l) h = (
    choices (regrouped (own_e Rule own) (meet_e Choice meets) (own (last_of (choice_of x) (choices_of l))) (paired before rules)) ++ last_of (choice_of x) (choices_of l) ∷ [],
    rw (label_all step c before h),
    λ more. ap (λ r. placed_list (x ∷ l) (map rule_number r ++ more)) (sym (paired_rules before rules many)) ∙ placed_regroup x l (paired before rules) more (paired_choices before rules many),
  )
    where
      before : List Choice
      before = init_of (choice_of x) (choices_of l)

      rules : List Rule
      rules = ruled step c before

      many : length rules ≡ length before
      many = ruled_many step c before ∙ h

  -- 22
  pub regroup_none : (c : C) (l : List Choice) → ((run step c (but_last l)).steps ≡ length (but_last l) → ⊥) → regroup step own meets c l ≡ none
  unfolding regroup
  regroup_none c [] n = absurd (n refl)
  regroup_none c (x ∷ l) n = rw (label_none step c (init_of x l) n)
