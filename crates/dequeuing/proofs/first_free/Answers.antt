-- `dequeuing::first_free` meets its contract: what `find` says of the queue's places. Assumes nothing.
use Rattle.std.proofs.Common.{ℕ, ◌≡◌, ◌≤◌, ◌<◌, Bool, true, false, List, Option, Some, None, MatchOption, IfSome, unwrap_or, length, arith, rules, tests}
use Rattle.std.proofs.lemmas.Iterator.{first_from_Range, serves_from_Range}
use Rattle.programs.specs.Program.{Program}
use Rattle.machines.specs.Maps.{held_back}
use Rattle.maps.specs.Maps.{Tables, map_at}
use Rattle.dequeuing.specs.Search.{First, event_at, search_asked}
use Rattle.dequeuing.proofs.first_free.Goals as goal

-- what is found of n places
abbrev Found : (ℕ → Type 0) → (ℕ → Type 0) → ℕ → Option ℕ → Type 0
Found Yes No n o = MatchOption o ((k : ℕ) → 0 ≤ k → k < n → No k) (λ i. (0 ≤ i) × (i < n) × Yes i × ((k : ℕ) → 0 ≤ k → k < i → No k))

-- whether place j is held back, for every program with these tables
abbrev Told : List ℕ → List ℕ → List ℕ → List ℕ → List ℕ → ℕ → ℕ → ℕ → Bool → ℕ → Type 0
Told says kinds flags pairs maps k b n w j =
    (p : Program) (entries exits : List ℕ) → Tables p says kinds entries exits flags → event_at k pairs j ≤ length p.events → held_back p n (map_at p b maps) (event_at k pairs j) ≡ w

-- a place that is found is one of them
found_inside : (Yes No : ℕ → Type 0) (n : ℕ) (o : Option ℕ) → Found Yes No n o → IfSome o (λ j. j < n)
found_inside Yes No n (Some i) h = h.1
found_inside Yes No n None h = tt

-- it is the first that is not held back
found_first : (Yes No : ℕ → Type 0) (back : ℕ → Bool) (n : ℕ) (o : Option ℕ) → Found Yes No n o → ((j : ℕ) → j < n → Yes j → back j ≡ false) → ((j : ℕ) → j < n → No j → back j ≡ true)
    → First back n (unwrap_or o n)
found_first Yes No back n (Some i) h f g = record {
  inside = omega (arith, h.1);
  before = λ j b. g j (omega (arith, b, h.1)) (h.3 j (omega arith) b);
  here = λ b. f i b h.2;
}
found_first Yes No back n None h f g = record { inside = omega arith; before = λ j b. g j b (h j (omega arith) b); here = λ b. absurd (omega (arith, b)) }

pub find-requires : goal.find-requires
find-requires c =
    let a = c.args in
    let asked = search_asked a.k a.b a.n a.waiting.now a.pairs.now c.requires in
    record { can = tt; finite = tt; callable = serves_from_Range (λ x q k. search (rules, tests)) (λ x low high. let e = asked x high in search rules) }

pub returns : goal.returns
returns c =
    let a = c.args in
    let told = Told a.says.now a.program.now.state_of a.program.now.defers a.pairs.now a.maps.now a.k a.b a.n in
    let h = first_from_Range _ _ _ _ (told false) (told true) c.find.ensures.ran
    (λ x q k p entries exits t l. search (rules, tests))
    (λ x q k. (search (rules, tests), λ p entries exits t l. search (rules, tests))) in
    record {
      inside = found_inside _ _ _ _ h;
      first = λ p entries exits t l. found_first _ _ _ _ _ h (λ j b y. y p entries exits t (l j b)) (λ j b y. y p entries exits t (l j b));
    }
