-- DEMAND 3 of what is handed in: where every choice but perhaps the last takes a step, and the list is within the limits, what regroup writes has all five facts.
use Rattle.std.specs.Prelude.{ℕ, ◌≤◌, ◌<◌, ◌≡◌, refl, cond, List, [], ◌∷◌, map, length}
use Rattle.std.proofs.Common.{ap, sym, ◌∙◌, subst, arith}
use Rattle.std.proofs.lemmas.List.{length-map}
use Rattle.lists.specs.Lists.{All}
use Rattle.lists.specs.Ends.{but_last}
use Rattle.answers.specs.declared.Answer.TheVariants.{Done, NotAccepted}
use Rattle.programs.specs.Sizes.{CHOICES}
use Rattle.programs.specs.Program.{Program}
use Rattle.machines.specs.Config.{Config, Choice}
use Rattle.choices.specs.Choices.{choice_word, choice_of, choices_of, bits_small, choice_again}
use Rattle.runs.specs.Run.{Stepped}
use Rattle.rules.specs.Step.{step}
use Rattle.regrouping.specs.Demand.{Regrouping}
use Rattle.regrouping.specs.Same.{same_all, same_many}
use Rattle.meetings.specs.Meetings.{meets, own}
use Rattle.public.specs.Public.{ran, public_run}
use Rattle.public.specs.Exact.{run_fit, regroup_wrote}
use Rattle.tables.specs.declared.Program.{Program as Tables}
use Rattle.tables.specs.Decode.{program_of}
use Rattle.configs.specs.declared.Config.{Config as Held}
use Rattle.configs.specs.Decode.{config_of}
use Rattle.handed.specs.Handed.{Fit, fit, fit_is}
use Rattle.handed_runs.specs.HandedRuns.{ran_as, stopped_at, run_of, regroup_of, numbers_of}

pub regroup_five : (q : Tables) (c : Held) (l : List ℕ) (room : ℕ) → Fit q c → length l ≤ CHOICES → length l ≤ room
    → Stepped (step (program_of q)) (config_of (program_of q) c) (but_last (choices_of l))
    → (m : List Choice) × (regroup_of q c l room ≡ record { answer = Done; list = m }) × Regrouping (step (program_of q)) own meets (config_of (program_of q) c) (choices_of l) m
unfolding regroup_of
regroup_five q c l room h k r n = rw ((fit_is q c).test h)
    (regroup_wrote (program_of q) (config_of (program_of q) c) (choices_of l) room (h.0, h.1.0)
    (subst (λ (z : ℕ). z ≤ CHOICES) (sym (length-map l choice_of)) k) (subst (λ (z : ℕ). z ≤ room) (sym (length-map l choice_of)) r) n)

-- every choice that a number is has bits from 0 to 255
bits_all : (l : List ℕ) → All (λ (x : Choice). x.bits < 256) (choices_of l)
bits_all [] = tt
bits_all (n ∷ l) = (bits_small n, bits_all l)

-- and such choices are what their numbers are
choices_again : (m : List Choice) → All (λ (x : Choice). x.bits < 256) m → choices_of (map choice_word m) ≡ m
choices_again [] h = refl
choices_again (x ∷ m) h = rw (choice_again x h.0, choices_again m h.1)

-- "Run from the same configuration, it ends in the same configuration, and its last choice gets the same answer": the numbers that are written run as the list does
pub regroup_runs : (q : Tables) (c : Held) (l : List ℕ) (room : ℕ) → Fit q c → length l ≤ CHOICES → length l ≤ room
    → Stepped (step (program_of q)) (config_of (program_of q) c) (but_last (choices_of l)) → run_of q c (numbers_of (regroup_of q c l room)) ≡ run_of q c l
unfolding run_of
regroup_runs q c l room h k r n = go (regroup_five q c l room h k r n)
  where
    p : Program
    p = program_of q

    d : Config
    d = config_of (program_of q) c

    go : (m : List Choice) × (regroup_of q c l room ≡ record { answer = Done; list = m }) × Regrouping (step (program_of q)) own meets (config_of (program_of q) c) (choices_of l) m
        → cond (fit q c) (ran_as (public_run (program_of q) (config_of (program_of q) c) (choices_of (numbers_of (regroup_of q c l room))))) (stopped_at c NotAccepted)
        ≡ cond (fit q c) (ran_as (public_run (program_of q) (config_of (program_of q) c) (choices_of l))) (stopped_at c NotAccepted)
    go (m, e, five) =
        let again = choices_again m (same_all (λ (x : Choice). x.bits < 256) five.same_choices (bits_all l)) in
        let many : length m ≡ length l = same_many five.same_choices ∙ length-map l choice_of in
        let few : length m ≤ CHOICES = omega (arith, many, k) in
        let fits : length (choices_of l) ≤ CHOICES = omega (arith, length-map l choice_of, k) in
        let same : public_run p d m ≡ public_run p d (choices_of l)
        = run_fit p d m (h.0, h.1.0) few ∙ ap ran five.same_end ∙ sym (run_fit p d (choices_of l) (h.0, h.1.0) fits) in
        ap (λ (x : List Choice). cond (fit q c) (ran_as (public_run p d x)) (stopped_at c NotAccepted)) (ap (λ w. choices_of (numbers_of w)) e ∙ again)
        ∙ ap (λ x. cond (fit q c) (ran_as x) (stopped_at c NotAccepted)) same
