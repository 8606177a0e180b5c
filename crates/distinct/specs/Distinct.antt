-- The live numbers of all rooms in their flat list: that the rooms' are distinct is that no two places hold the same number other than 0.
use Prim.Native.Nat.{ℕ, zero, suc, ◌+◌, ◌-◌, ◌≤◌, ◌<◌}
use Rattle.std.specs.Prelude.{◌≡◌, Bool, true, false, not, ◌||◌, cond, List, [], ◌∷◌, map, eqb, length, take, drop}
use Rattle.std.specs.List.{list_any}
use Rattle.std.proofs.Math.Path.{refl, ap}
use Rattle.std.proofs.Common.{sym, ◌∙◌, true≢false}
use Rattle.std.proofs.Math.Logic.{dite}
use Rattle.std.proofs.Math.Option.{Option, none, some, none-ne-some}
use Rattle.std.proofs.Math.Decide.{ℕ_discrete}
use native.Mathlib.Omega.{arith}
use borrow.Author.Tests.{eqb-true, eqb-false, ne_eqb}
use Rattle.std.proofs.Math.ListN.{get_or, length-drop}
use Rattle.std.proofs.Math.Seq.{get_or-drop}
use Rattle.std.proofs.lemmas.List.{take_all}
use Rattle.lists.specs.Tells.{Tells, form, granted, refuted}
use Rattle.rows.specs.Seek.{table}
use Rattle.programs.specs.Sizes.{LIVE}
use Rattle.programs.specs.Program.{Program}
use Rattle.machines.specs.Config.{Machine}
use Rattle.machines.specs.Rooms.{find}
use Rattle.acceptance.specs.Accepted.{Distinct}
use Rattle.configs.specs.Decode.{machine_of, room_of}
use Rattle.configs.specs.declared.Flat.{Flat}
use Rattle.configs.specs.Flat.{room_at, flat_config}

-- WHAT IS LOOKED AT
-- room i is free, or no later room holds its number
abbrev pub Single : List ℕ → ℕ → Type 0
Single ids i = (j : ℕ) → i < j → j < LIVE → get_or ids j 0 ≡ get_or ids i 0 → get_or ids i 0 ≡ 0

-- so of every room
abbrev pub Singles : List ℕ → Type 0
Singles ids = (i : ℕ) → i < LIVE → Single ids i

-- A ROOM BEFORE OTHERS: a machine, or free
module _ (m : Machine) (rs : List (Option Machine)) where
  -- distinct where no other has the machine's number,
  before_distinct : (b : Bool) → (b ≡ false → find m.this rs ≡ none) → Distinct rs → Distinct (cond b none (some m) ∷ rs)
  before_distinct true h d = d
  before_distinct false h d = (h refl, d)

  -- and the other way round.
  distinct_before : (b : Bool) → Distinct (cond b none (some m) ∷ rs) → (b ≡ false → find m.this rs ≡ none) × Distinct rs
  distinct_before true d = (λ e. absurd (true≢false e), d)
  distinct_before false d = (λ e. d.0, d.1)

  -- Number x is not found where the machine's is another and the others have none,
  before_find : (x : ℕ) (b : Bool) → (b ≡ false → m.this ≡ x → ⊥) → find x rs ≡ none → find x (cond b none (some m) ∷ rs) ≡ none
  before_find x true h e = e
  before_find x false h e = rw (ne_eqb m.this x (h refl)) e

  -- and the other way round.
  find_before : (x : ℕ) (b : Bool) → find x (cond b none (some m) ∷ rs) ≡ none → (b ≡ false → m.this ≡ x → ⊥) × (find x rs ≡ none)
  find_before x true e = (λ f. absurd (true≢false f), e)
  find_before x false e = go (eqb m.this x) refl e
    where
      go : (c : Bool) → eqb m.this x ≡ c → cond c (some m) (find x rs) ≡ none → (false ≡ false → m.this ≡ x → ⊥) × (find x rs ≡ none)
      go true c f = absurd (none-ne-some m (sym f))
      go false c f = (λ z q. eqb-false m.this x c q, f)

-- THE ROOMS of flat lists
module _ (p : Program) (f : Flat) where
  -- n rooms from room k on
  abbrev rooms : ℕ → ℕ → List (Option Machine)
  rooms k n = map (room_of p) (table (room_at f) k n)

  -- A number other than 0 is not found where none of their places holds it,
  away_find : (x : ℕ) → (x ≡ 0 → ⊥) → (k n : ℕ) → ((j : ℕ) → k ≤ j → j < k + n → get_or f.ids j 0 ≡ x → ⊥) → find x (rooms k n) ≡ none
  unfolding table
  away_find x z k zero h = refl
  away_find x z k (suc n) h = before_find (machine_of p (room_at f k)) (rooms (k + 1) n) x (eqb (get_or f.ids k 0) 0) (λ b. h k (omega arith) (omega arith))
      (away_find x z (k + 1) n (λ j a b. h j (omega arith) (omega arith)))

  -- and the other way round.
  find_away : (x : ℕ) → (x ≡ 0 → ⊥) → (k n : ℕ) → find x (rooms k n) ≡ none → (j : ℕ) → k ≤ j → j < k + n → get_or f.ids j 0 ≡ x → ⊥
  unfolding table
  find_away x z k zero e j a b q = omega arith
  find_away x z k (suc n) e j a b q =
      let h = find_before (machine_of p (room_at f k)) (rooms (k + 1) n) x (eqb (get_or f.ids k 0) 0) e in
      dite (ℕ_discrete j k)
      (λ d. let here : get_or f.ids k 0 ≡ x = rw d at q in h.0 (ne_eqb (get_or f.ids k 0) 0 (λ w. z (sym here ∙ w))) here)
      (λ d. find_away x z (k + 1) n h.1 j (omega arith) (omega arith) q)

  -- They are distinct where each place holds 0 or a number that no later one holds,
  singles_distinct : (k n : ℕ) → ((i j : ℕ) → k ≤ i → i < j → j < k + n → get_or f.ids j 0 ≡ get_or f.ids i 0 → get_or f.ids i 0 ≡ 0) → Distinct (rooms k n)
  unfolding table
  singles_distinct k zero h = tt
  singles_distinct k (suc n) h = before_distinct (machine_of p (room_at f k)) (rooms (k + 1) n) (eqb (get_or f.ids k 0) 0)
      (λ b. let z = eqb-false (get_or f.ids k 0) 0 b in away_find (get_or f.ids k 0) z (k + 1) n (λ j a l q. z (h k j (omega arith) (omega arith) (omega arith) q)))
      (singles_distinct (k + 1) n (λ i j a l b. h i j (omega arith) l (omega arith)))

  -- and the other way round.
  distinct_singles : (k n : ℕ) → Distinct (rooms k n) → (i j : ℕ) → k ≤ i → i < j → j < k + n → get_or f.ids j 0 ≡ get_or f.ids i 0 → get_or f.ids i 0 ≡ 0
  unfolding table
  distinct_singles k zero d i j a l b q = absurd (omega arith)
  distinct_singles k (suc n) d i j a l b q =
      let h = distinct_before (machine_of p (room_at f k)) (rooms (k + 1) n) (eqb (get_or f.ids k 0) 0) d in
      dite (ℕ_discrete i k)
      (λ e. dite (ℕ_discrete (get_or f.ids i 0) 0) (λ z. z)
      (λ z. absurd (find_away (get_or f.ids k 0) (λ w. z (ap (λ (t : ℕ). get_or f.ids t 0) e ∙ w)) (k + 1) n (h.0 (ne_eqb (get_or f.ids k 0) 0 (λ w. z (ap (λ (t : ℕ). get_or f.ids t 0) e ∙ w)))) j (omega arith) (omega arith)
      (q ∙ ap (λ (t : ℕ). get_or f.ids t 0) e))))
      (λ e. distinct_singles (k + 1) n h.1 i j (omega arith) l (omega arith) q)

-- a test of the numbers is a test of the rooms
pub distinct_told : (ids : List ℕ) {r : Bool} → Tells r (Singles ids) → (p : Program) (f : Flat) → f.ids ≡ ids → Tells r (Distinct (flat_config p f).rooms)
distinct_told ids t p f e = form t
    (λ h. singles_distinct p f 0 32 (λ i j a l b. rw e (h i (omega arith) j l (omega arith))))
    (λ d i b j l c q. rw e at (distinct_singles p f 0 32 d i j (omega arith) l (omega arith) (rw e q)))

-- THE SEARCH behind room i
none_is : (x : ℕ) (l : List ℕ) → Tells (not (list_any (λ y. eqb y x) l)) ((j : ℕ) → j < length l → get_or l j 0 ≡ x → ⊥)
none_is x [] = granted (λ j h e. omega arith)
none_is x (y ∷ l) = go (none_is x l) (eqb y x) refl
  where
    other : eqb y x ≡ false → ((j : ℕ) → j < length l → get_or l j 0 ≡ x → ⊥) → (j : ℕ) → j < suc (length l) → get_or (y ∷ l) j 0 ≡ x → ⊥
    other e f zero h q = eqb-false y x e q
    other e f (suc j) h q = f j (omega arith) q

    go : Tells (not (list_any (λ z. eqb z x) l)) ((j : ℕ) → j < length l → get_or l j 0 ≡ x → ⊥) → (b : Bool) → eqb y x ≡ b → Tells (not (b || list_any (λ z. eqb z x) l)) ((j : ℕ) → j < suc (length l) → get_or (y ∷ l) j 0 ≡ x → ⊥)
    go t true e = refuted (λ f. f 0 (omega arith) (eqb-true y x e))
    go t false e = form t (other e) (λ f j h q. f (suc j) (omega arith) q)

-- tells whether a number other than 0 stands there once
pub single_told : (ids : List ℕ) (i : ℕ) → i < 32 → length ids ≡ 32 → (get_or ids i 0 ≡ 0 → ⊥)
    → Tells (not (list_any (λ y. eqb y (get_or ids i 0)) (take (32 - (i + 1)) (drop (i + 1) ids)))) (Single ids i)
single_told ids i r l n =
    let long : length (drop (i + 1) ids) ≤ 32 - (i + 1) = omega (arith, length-drop (i + 1) ids) in
    rw (take_all (32 - (i + 1)) (drop (i + 1) ids) long) (form (none_is (get_or ids i 0) (drop (i + 1) ids))
    (λ f j a b q.
    let e : i + 1 + (j - (i + 1)) ≡ j = omega arith in
    absurd (f (j - (i + 1)) (omega (arith, length-drop (i + 1) ids)) (get_or-drop (i + 1) ids (j - (i + 1)) 0 ∙ ap (λ (k : ℕ). get_or ids k 0) e ∙ q)))
    (λ s j h q. n (s (i + 1 + j) (omega arith) (omega (arith, length-drop (i + 1) ids)) (sym (get_or-drop (i + 1) ids j 0) ∙ q))))
