-- The two public runs, the regrouper and the loop of a run: two results that meet the contract are equal, and so is what each lent thing holds at the end, on refusals too.
use Rattle.std.specs.Prelude.{ℕ, ◌≡◌, List, length, Result}
use Rattle.std.proofs.Common.{sym, ◌∙◌}
use Rattle.answers.specs.declared.Answer.{Answer}
use Rattle.programs.specs.Program.{Program}
use Rattle.machines.specs.Config.{Config}
use Rattle.tables.specs.declared.Program.{Program as Tables}
use Rattle.configs.specs.declared.Config.{Config as Held}
use Rattle.configs.specs.declared.Flat.{Flat}
use Rattle.handed_runs.specs.declared.Ending.{Ending}
use Rattle.handed_runs.specs.declared.Ran.{Ran}
use Rattle.handed_runs.specs.HandedRuns.{run_of, rules_of, fronted, regroup_of, numbers_of}
use Rattle.grouping.specs.Grouping.{refusal_of}
use Rattle.looping.specs.Looping.{RunLeft}
use Rattle.unique.specs.Arrays.{held_one}

module _ (q : Tables) (c : Held) (l row x y : List ℕ) where
  -- `running::run`, `running::run_from`, which leaves x or y in the row of rules
  pub run_one : (r s : Ran) → (r ≡ run_of q c l) × (x ≡ fronted (rules_of q c l) row) → (s ≡ run_of q c l) × (y ≡ fronted (rules_of q c l) row) → (r ≡ s) × (x ≡ y)
  run_one r s h k = (h.0 ∙ sym k.0, h.1 ∙ sym k.1)

  -- `lent_running::run_in`, which leaves d or e in the configuration
  pub run_in_one : (r s : Ending) (d e : Held) → (r ≡ (run_of q c l).end) × ((d ≡ (run_of q c l).config) × (x ≡ fronted (rules_of q c l) row))
      → (s ≡ (run_of q c l).end) × ((e ≡ (run_of q c l).config) × (y ≡ fronted (rules_of q c l) row)) → (r ≡ s) × ((d ≡ e) × (x ≡ y))
  run_in_one r s d e h k = (h.0 ∙ sym k.0, (h.1.0 ∙ sym k.1.0, h.1.1 ∙ sym k.1.1))

module _ (q : Tables) (c : Held) (l out x y : List ℕ) where
  -- the regrouper, which leaves x or y in the output buffer: by its answer,
  pub regroup_one : (r s : Answer) → (r ≡ (regroup_of q c l (length out)).answer) × (x ≡ fronted (numbers_of (regroup_of q c l (length out))) out)
      → (s ≡ (regroup_of q c l (length out)).answer) × (y ≡ fronted (numbers_of (regroup_of q c l (length out))) out) → (r ≡ s) × (x ≡ y)
  regroup_one r s h k = (h.0 ∙ sym k.0, h.1 ∙ sym k.1)

  -- and by its Result: `grouping::regroup`
  pub regroup_result_one : (r s : Result (Unit {0}) Answer) → (r ≡ refusal_of (regroup_of q c l (length out)).answer) × (x ≡ fronted (numbers_of (regroup_of q c l (length out))) out)
      → (s ≡ refusal_of (regroup_of q c l (length out)).answer) × (y ≡ fronted (numbers_of (regroup_of q c l (length out))) out) → (r ≡ s) × (x ≡ y)
  regroup_result_one r s h k = (h.0 ∙ sym k.0, h.1 ∙ sym k.1)

-- `looping::run_on` and `accepted_runs::run_accepted`, which leave f or g in the arrays and x or y in the row of rules
pub run_left_one : (p : Program) (c : Config) (l : List ℕ) (n : ℕ) (row : List ℕ) (r s : Ending) (f g : Flat) (x y : List ℕ)
    → RunLeft p c l n row r f x → RunLeft p c l n row s g y → (r ≡ s) × ((f ≡ g) × (x ≡ y))
run_left_one p c l n row r s f g x y h k =
    (h.ends ∙ sym k.ends, (held_one f g h.sized k.sized (h.holds ∙ sym k.holds), h.rules ∙ sym k.rules))
