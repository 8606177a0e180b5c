-- Document 01, "Regrouping": "Set the last choice aside. Take the meetings among the rest in order, each preceded by its machine's choices not yet
-- placed. Then the unplaced choices of each other machine, by live number. Then those of the last choice's machine, ending in the last choice."
-- Over any type of entries that have a machine's number and are meetings or private.
use Rattle.std.specs.Prelude.{ℕ, zero, suc, min, Bool, not, cond, List, [], ◌∷◌, ◌++◌, eqb, length}
use Rattle.lists.specs.Lists.{keep}

module _ {E : Type 0} (own : E → ℕ) where
  -- the entries of machine k, and those of the others, in their order
  abbrev pub mine : ℕ → List E → List E
  mine k l = keep (λ x. eqb (own x) k) l

  -- all but those of machine k
  abbrev pub others : ℕ → List E → List E
  others k l = keep (λ x. not (eqb (own x) k)) l

  -- the least machine's number among x and u
  abbrev pub least : E → List E → ℕ
  least x [] = own x
  least x (y ∷ u) = min (own x) (least y u)

  -- The entries machine by machine, by number: those of the least number first. n is at least the number of machines.
  unfoldable pub tails : ℕ → List E → List E
  tails zero u = []
  tails (suc n) [] = []
  tails (suc n) (x ∷ u) = mine (least x u) (x ∷ u) ++ tails n (others (least x u) (x ∷ u))

  -- all the entries, machine by machine: there are at most as many machines as entries
  abbrev pub by_number : List E → List E
  by_number u = tails (length u) u

  -- What is written from here on, where u has not been placed yet, l is to come, and k is the machine of the last entry, which is set aside.
  -- A meeting is preceded by its machine's unplaced entries. At the end come the unplaced entries of each machine but k, by number, and those of k.
  unfoldable pub weave : (E → Bool) → ℕ → List E → List E → List E
  weave meet k u [] = by_number (others k u) ++ mine k u
  weave meet k u (x ∷ l) =
      let meeting = mine (own x) u ++ x ∷ weave meet k (others (own x) u) l in
      let private = weave meet k (u ++ x ∷ []) l in
      cond (meet x) meeting private

  -- The list l, from which the last entry is set aside, regrouped; k is that entry's machine.
  abbrev pub regrouped : (E → Bool) → ℕ → List E → List E
  regrouped meet k l = weave meet k [] l
