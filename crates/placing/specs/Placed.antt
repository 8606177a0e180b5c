-- What the regrouper writes, as numbers: the choices of the regrouped list, where each choice before the last has the number of its step's rule.
use Rattle.std.specs.Prelude.{ℕ, Bool, List, [], ◌∷◌, ◌++◌, get_or, drop}
use Rattle.lists.specs.Ends.{init_of, last_of}
use Rattle.choices.specs.Choices.{choice_of}
use Rattle.labels.specs.Labels.{meeting}
use Rattle.regrouping.specs.Regrouped.{regrouped}
use Rattle.regrouping.specs.Demand.{choices, own_e, meet_e}

-- the machine of a choice that is lent as a number
abbrev pub owner : ℕ → ℕ
owner x = (choice_of x).machine

-- the machine of the choice at a place of a list
abbrev pub owner_at : List ℕ → ℕ → ℕ
owner_at cs i = owner (get_or cs i 0)

-- each choice with the number at its place in the list of rules, or 0 behind its end
abbrev pub with_rules : List ℕ → List ℕ → List (ℕ × ℕ)
with_rules [] rules = []
with_rules (x ∷ l) rules = (x, get_or rules 0 0) ∷ with_rules l (drop 1 rules)

-- the machine of a choice with its rule's number
abbrev pub own_n : ℕ × ℕ → ℕ
own_n = own_e ℕ owner

-- whether its rule is a meeting's
abbrev pub meet_n : ℕ × ℕ → Bool
meet_n = meet_e ℕ meeting

-- choices with their rules' numbers, regrouped, where k is the last choice's machine
abbrev pub woven : ℕ → List (ℕ × ℕ) → List (ℕ × ℕ)
woven k m = regrouped own_n meet_n k m

-- THE REGROUPED LIST of numbers: the last choice is set aside, and ends it.
unfoldable pub placed_list : List ℕ → List ℕ → List ℕ
placed_list [] rules = []
placed_list (x ∷ l) rules = choices (woven (owner (last_of x l)) (with_rules (init_of x l) rules)) ++ last_of x l ∷ []
