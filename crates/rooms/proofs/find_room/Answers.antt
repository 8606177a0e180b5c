-- `rooms::find_room` meets its contract: what `position` says of the numbers. Assumes nothing.
use Rattle.std.proofs.Common.{ℕ, ◌≡◌, ◌<◌, List, length, Option, Some, None, MatchOption, arith, rules}
use Rattle.std.specs.List.{AllWithin, HoldsAt}
use Rattle.std.proofs.lemmas.Iterator.{IsFirst-from_position, YieldsList-from_slice}
use borrow.Author.Tests.{tests}
use Rattle.rooms.specs.Places.{Found}
use Rattle.rooms.proofs.find_room.Goals as goal

-- the first number that is i, or none of 32
found : (l : List ℕ) (i : ℕ) (r : Option ℕ) → length l ≡ 32
    → MatchOption r (AllWithin (λ x. x ≡ i → ⊥) l 0 (length l)) (λ k. (k < length l) × HoldsAt (λ x. x ≡ i) l k × AllWithin (λ x. x ≡ i → ⊥) l 0 k) → Found l i r
found l i (Some k) e h = (omega arith, record { inside = omega arith; here = λ b. h.1 0; before = λ j b. h.2 j 0 (omega arith) b })
found l i None e h = record { inside = omega arith; here = λ b. absurd (omega arith); before = λ j b. h j 0 (omega arith) (omega arith) }

pub returns : goal.returns
returns c =
    let h = IsFirst-from_position _ _ _ (λ (x : ℕ). x ≡ c.args.i) (λ (x : ℕ). x ≡ c.args.i → ⊥) c.position.ensures.ran (YieldsList-from_slice c.args.ids.now cc) (λ x q k. search (rules, tests)) (λ x q k. search (rules, tests)) in
    found c.args.ids.now c.args.i _ c.told-ids h
