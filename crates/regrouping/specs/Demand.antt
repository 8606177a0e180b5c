-- What the user asks of a regrouped list, over any step; and the regrouping of a choice list, which looks at the rule of each choice but the last.
use Rattle.std.specs.Prelude.{ℕ, ◌≡◌, ◌≢◌, ◌⊎◌, Bool, true, eqb, length}
use Rattle.std.proofs.Math.Option
use Rattle.std.proofs.Math.Option.{Option, none, some}
use mathlib.Core.List.{List, [], ◌∷◌, ◌++◌, map, Permᴰ}
use Rattle.lists.specs.Lists.{keep}
use Rattle.lists.specs.Ends.{init_of, last_of, last?}
use Rattle.answers.specs.declared.Answer.TheVariants.{Done}
use Rattle.runs.specs.Outcome.{Out, took, on_out}
use Rattle.runs.specs.Run.{run}
use Rattle.regrouping.specs.Regrouped.{regrouped}

-- entries: choices with the rules of their steps
abbrev pub choices : {X R : Type 0} → List (X × R) → List X
choices m = map (λ e. e.0) m

-- the machine of an entry
abbrev pub own_e : {X : Type 0} (R : Type 0) → (X → ℕ) → X × R → ℕ
own_e R own e = own e.0

-- an entry is a meeting when its rule is one
abbrev pub meet_e : {R : Type 0} (X : Type 0) → (R → Bool) → X × R → Bool
meet_e X meets e = meets e.1

module _ {C X R : Type 0} (step : C → X → Out C R) where
  -- each choice with the rule of its step; nothing where one takes no step
  abbrev pub label : C → List X → Option (List (X × R))
  label c [] = some []
  label c (x ∷ l) = on_out (step c x) (λ r d. Option.map (λ m. (x, r) ∷ m) (label d l)) (λ a. none)

  module _ (own : X → ℕ) (meets : R → Bool) where
    -- The document's regrouping; nothing (answer 22) where a choice before the last takes no step. "An empty list gives an empty list."
    unfoldable pub regroup : C → List X → Option (List X)
    regroup c [] = some []
    regroup c (x ∷ l) = Option.map (λ m. choices (regrouped (own_e R own) (meet_e X meets) (own (last_of x l)) m) ++ last_of x l ∷ []) (label c (init_of x l))

    -- after the choices p, which all take steps, a takes a step that is a meeting
    abbrev pub MeetsAt : C → List X → X → Type 0
    MeetsAt c p a = (d : C) × (r : R) × (d' : C) × (run step c p ≡ record { config = d; answer = Done; steps = length p }) × (step d a ≡ took r d') × (meets r ≡ true)

    -- What the user asks of m, the list l regrouped.
    pub record Regrouping (c : C) (l m : List X) : Type 0 where
      -- "holds the same choices"
      pub same_choices : Permᴰ l m
      -- "each machine's in its old order"
      pub in_order : (k : ℕ) → keep (λ x. eqb (own x) k) m ≡ keep (λ x. eqb (own x) k) l
      -- "the last still last"
      pub same_last : last? m ≡ last? l
      -- "It changes machine only straight after a send, a creation, a deletion or a dequeue, or after a machine's last choice."
      pub changes : (p : List X) (a b : X) (q : List X) → m ≡ p ++ a ∷ b ∷ q → own a ≢ own b →
          MeetsAt c p a ⊎ (keep (λ x. eqb (own x) (own a)) (b ∷ q) ≡ [])
      -- "Run from the same configuration, it ends in the same configuration, and its last choice gets the same answer."
      pub same_end : run step c m ≡ run step c l
