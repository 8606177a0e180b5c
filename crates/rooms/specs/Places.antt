-- The definitions' rooms by their places: where machine i stands, what a change of it, its deletion and a creation are at that place.
use Rattle.std.specs.Prelude.{ℕ, zero, suc, ◌≤◌, ◌<◌, ◌≡◌, refl, Bool, true, false, cond, Option, Some, None, List, [], ◌∷◌, map, eqb, length, get_or, set}
use Rattle.std.proofs.Common.{suc-le-suc, sym, ◌∙◌, le_of_suc-le-suc, not-suc-le-zero, zero-lt-suc, eqb-true, ne_eqb}
use Rattle.std.proofs.Math.Option.{none, some, none-ne-some}
use Rattle.lists.specs.Facts.{eqb_same}
use Rattle.machines.specs.Config.{Machine}
use Rattle.machines.specs.Rooms.{Rooms, find, on, each, gone, fill}
use Rattle.machines.specs.RoomLaws.{each_none, gone_none}
use Rattle.acceptance.specs.Accepted.{Distinct}

-- THE FIRST PLACE of 32 where number i stands is r; 32 where there is none
pub record First (ids : List ℕ) (i r : ℕ) : Type 0 where
  pub inside : r ≤ 32
  pub here : r < 32 → get_or ids r 0 ≡ i
  pub before : (j : ℕ) → j < r → get_or ids j 0 ≡ i → ⊥

-- what is found of it: the place, or none
abbrev pub Found : List ℕ → ℕ → Option ℕ → Type 0
Found ids i (Some r) = (r < 32) × First ids i r
Found ids i None = First ids i 32

-- FINDING
-- where no place has machine i, none is found
pub find_none : (i : ℕ) (rs : Rooms) → ((j : ℕ) (m : Machine) → get_or rs j none ≡ some m → m.this ≡ i → ⊥) → find i rs ≡ none
find_none i [] h = refl
find_none i (none ∷ rs) h = find_none i rs (λ j. h (suc j))
find_none i (some m ∷ rs) h = rw (ne_eqb m.this i (h 0 m refl)) (find_none i rs (λ j. h (suc j)))

-- a machine that stands at a place is found by its number
pub find_at : (rs : Rooms) (k : ℕ) (m : Machine) → Distinct rs → get_or rs k none ≡ some m → find m.this rs ≡ some m
find_at [] k m d e = absurd (none-ne-some _ e)
find_at (none ∷ rs) zero m d e = absurd (none-ne-some _ e)
find_at (none ∷ rs) (suc k) m d e = find_at rs k m d e
find_at (some n ∷ rs) zero m d e = let p : n ≡ m = cc in rw (p, eqb_same m.this)
find_at (some n ∷ rs) (suc k) m d e = go (eqb n.this m.this) refl (find_at rs k m d.1 e)
  where
    go : (b : Bool) → eqb n.this m.this ≡ b → find m.this rs ≡ some m → cond b (some n) (find m.this rs) ≡ some m
    go true t h = let q : n.this ≡ m.this = eqb-true n.this m.this t in absurd (none-ne-some _ (sym (rw q at d.0) ∙ h))
    go false t h = h

-- so no machine behind the first of two has the first's number
apart : (n : Machine) (rs : Rooms) (k : ℕ) (m : Machine) → Distinct (some n ∷ rs) → get_or rs k none ≡ some m → n.this ≡ m.this → ⊥
apart n rs k m d e q = none-ne-some _ (sym (rw q at d.0) ∙ find_at rs k m d.1 e)

-- A CHANGE OF MACHINE m is a change at its place
pub on_set : (g : Machine → Machine) (rs : Rooms) (k : ℕ) (m : Machine) → Distinct rs → get_or rs k none ≡ some m → each (on m.this g) rs ≡ set rs k (some (g m))
on_set g [] k m d e = absurd (none-ne-some _ e)
on_set g (none ∷ rs) zero m d e = absurd (none-ne-some _ e)
on_set g (none ∷ rs) (suc k) m d e = rw (on_set g rs k m d e)
on_set g (some n ∷ rs) zero m d e =
    let p : n ≡ m = cc in
    let f : find m.this rs ≡ none = rw p at d.0 in
    rw (p, eqb_same m.this, each_none m.this g rs f)
on_set g (some n ∷ rs) (suc k) m d e = rw (ne_eqb n.this m.this (apart n rs k m d e), on_set g rs k m d.1 e)

-- ITS DELETION frees its place
pub gone_set : (rs : Rooms) (k : ℕ) (m : Machine) → Distinct rs → get_or rs k none ≡ some m → map (gone m.this) rs ≡ set rs k none
gone_set [] k m d e = absurd (none-ne-some _ e)
gone_set (none ∷ rs) zero m d e = absurd (none-ne-some _ e)
gone_set (none ∷ rs) (suc k) m d e = rw (gone_set rs k m d e)
gone_set (some n ∷ rs) zero m d e =
    let p : n ≡ m = cc in
    let f : find m.this rs ≡ none = rw p at d.0 in
    rw (p, eqb_same m.this, gone_none m.this rs f)
gone_set (some n ∷ rs) (suc k) m d e = rw (ne_eqb n.this m.this (apart n rs k m d e), gone_set rs k m d.1 e)

-- A CREATION takes the first free place,
pub fill_set : (m : Machine) (rs : Rooms) (k : ℕ) → k < length rs → get_or rs k none ≡ none → ((j : ℕ) → j < k → get_or rs j none ≡ none → ⊥) → fill m rs ≡ some (set rs k (some m))
fill_set m [] k l e h = absurd (not-suc-le-zero l)
fill_set m (none ∷ rs) zero l e h = refl
fill_set m (none ∷ rs) (suc k) l e h = absurd (h 0 (zero-lt-suc _) refl)
fill_set m (some n ∷ rs) zero l e h = absurd (none-ne-some _ (sym e))
fill_set m (some n ∷ rs) (suc k) l e h = rw (fill_set m rs k (le_of_suc-le-suc l) e (λ j b. h (suc j) (suc-le-suc b)))

-- and is refused where there is none
pub fill_none : (m : Machine) (rs : Rooms) → ((j : ℕ) → j < length rs → get_or rs j none ≡ none → ⊥) → fill m rs ≡ none
fill_none m [] h = refl
fill_none m (none ∷ rs) h = absurd (h 0 (zero-lt-suc _) refl)
fill_none m (some n ∷ rs) h = rw (fill_none m rs (λ j b. h (suc j) (suc-le-suc b)))
