-- A run and its labels: where it takes as many steps as there are choices, each choice has the rule of its step; where it takes fewer there are no labels (22).
use Rattle.std.specs.Prelude.{ℕ, suc, ◌≡◌, refl, List, [], ◌∷◌, map, length}
use Rattle.std.proofs.Math.Option
use Rattle.std.proofs.Math.Option.{none, some}
use Rattle.std.proofs.Common.{arith}
use Rattle.runs.specs.Outcome.{Out, took, refused, on_out}
use Rattle.runs.specs.Run.{later, run, ruled}
use Rattle.regrouping.specs.Demand.{choices, label}

-- each choice with the rule beside it
abbrev pub paired : {X R : Type 0} → List X → List R → List (X × R)
paired [] rs = []
paired (x ∷ l) [] = []
paired (x ∷ l) (r ∷ rs) = (x, r) ∷ paired l rs

module _ {X R : Type 0} where
  -- where there are as many rules as choices, the pairs have those choices
  pub paired_choices : (l : List X) (rs : List R) → length rs ≡ length l → choices (paired l rs) ≡ l
  paired_choices [] rs e = refl
  paired_choices (x ∷ l) [] e = absurd (omega (arith, e))
  paired_choices (x ∷ l) (r ∷ rs) e = rw (paired_choices l rs (omega (arith, e)))

  -- and those rules
  pub paired_rules : (l : List X) (rs : List R) → length rs ≡ length l → map (λ e. e.1) (paired l rs) ≡ rs
  paired_rules [] [] e = refl
  paired_rules [] (r ∷ rs) e = absurd (omega (arith, e))
  paired_rules (x ∷ l) [] e = absurd (omega (arith, e))
  paired_rules (x ∷ l) (r ∷ rs) e = rw (paired_rules l rs (omega (arith, e)))

module _ {C X R : Type 0} (step : C → X → Out C R) where
  -- the steps of a first choice that had the outcome o, and of those behind it
  abbrev steps_of : Out C R → List X → C → ℕ
  steps_of o l c = (on_out o (λ r d. later 1 (run step d l)) (λ a. record { config = c; answer = a; steps = 0 })).steps

  -- a run has as many rules as steps
  pub ruled_many : (c : C) (l : List X) → length (ruled step c l) ≡ (run step c l).steps
  ruled_many c [] = refl
  ruled_many c (x ∷ l) = go (step c x) (λ d. ruled_many d l)
    where
      go : (o : Out C R) → ((d : C) → length (ruled step d l) ≡ (run step d l).steps) → length (on_out o (λ r d. r ∷ ruled step d l) (λ a. [])) ≡ steps_of o l c
      go (took r d) rest = omega (arith, rest d)
      go (refused a) rest = refl

  -- every choice took a step: its rule is its label
  pub label_all : (c : C) (l : List X) → (run step c l).steps ≡ length l → label step c l ≡ some (paired l (ruled step c l))
  label_all c [] e = refl
  label_all c (x ∷ l) e = go (step c x) e (λ d h. label_all d l h)
    where
      go : (o : Out C R) → steps_of o l c ≡ suc (length l) → ((d : C) → (run step d l).steps ≡ length l → label step d l ≡ some (paired l (ruled step d l)))
          → on_out o (λ r d. Option.map (λ m. (x, r) ∷ m) (label step d l)) (λ a. none) ≡ some (paired (x ∷ l) (on_out o (λ r d. r ∷ ruled step d l) (λ a. [])))
      go (took r d) h rest = rw (rest d (omega (arith, h)))
      go (refused a) h rest = absurd (omega (arith, h))

  -- a choice took no step: there are no labels
  pub label_none : (c : C) (l : List X) → ((run step c l).steps ≡ length l → ⊥) → label step c l ≡ none
  label_none c [] n = absurd (n refl)
  label_none c (x ∷ l) n = go (step c x) n (λ d h. label_none d l h)
    where
      go : (o : Out C R) → (steps_of o l c ≡ suc (length l) → ⊥) → ((d : C) → ((run step d l).steps ≡ length l → ⊥) → label step d l ≡ none)
          → on_out o (λ r d. Option.map (λ m. (x, r) ∷ m) (label step d l)) (λ a. none) ≡ none
      go (took r d) h rest = rw (rest d (λ e. h (omega (arith, e))))
      go (refused a) h rest = refl
