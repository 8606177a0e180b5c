-- Laws of `places`: while the variables are gone through, a row of counts has how many of each kind there were, and a variable's place is its kind's count.
use Rattle.std.specs.Prelude.{ℕ, zero, suc, ◌+◌, ◌-◌, ◌≤◌, ◌<◌, ◌≡◌, refl, Bool, true, false, cond, List, eqb, length, get_or, set, take}
use Rattle.std.proofs.Math.Path.{ap}
use Rattle.std.proofs.Common.{sym, ◌∙◌, add-one, arith, eq-eqb, ne_eqb, length-set, take-suc, get_or-set_same, get_or-set_other}
use Rattle.std.proofs.Math.Logic.{dite}
use Rattle.std.proofs.Math.Decide.{ℕ_discrete}
use Rattle.lists.specs.Lists.{keep, at, There}
use Rattle.lists.specs.Keep.{keep_snoc}
use Rattle.rows.specs.Seek.{table_get}
use Rattle.programs.specs.Program.{Variable, is_of}
use Rattle.tables.specs.Decode.{byte, count, no_variable, variable_in, variables_of}
use Rattle.tables.specs.Numbered.{at_row}
use Rattle.tables.specs.Tables.{variables_length}
use Rattle.index.specs.Index.{place_in, Placed}

-- how many of the first i variables are of kind k
unfoldable pub before : List ℕ → ℕ → ℕ → ℕ
before kinds k zero = 0
before kinds k (suc i) = before kinds k i + cond (eqb (byte (get_or kinds (suc i) 0)) k) 1 0

-- with variable i + 1
before_more : (kinds : List ℕ) (k i : ℕ) → before kinds k (i + 1) ≡ before kinds k i + cond (eqb (byte (get_or kinds (i + 1) 0)) k) 1 0
unfolding before
before_more kinds k i = rw add-one

-- one or none
cond_le : (b : Bool) → cond {A = ℕ} b 1 0 ≤ 1
cond_le true = omega arith
cond_le false = omega arith

-- no more than there are
pub before_le : (kinds : List ℕ) (k i : ℕ) → before kinds k i ≤ i
unfolding before
before_le kinds k zero = omega arith
before_le kinds k (suc i) = omega (arith, before_le kinds k i, cond_le (eqb (byte (get_or kinds (suc i) 0)) k))

-- variable i + 1 stands in place i
variables_get : (kinds types : List ℕ) (i : ℕ) → i < count 256 kinds → get_or (variables_of kinds types) i no_variable ≡ variable_in kinds types (suc i)
unfolding variables_of
variables_get kinds types i h =
    let e : 1 + i ≡ suc i = omega arith in
    table_get (variable_in kinds types) no_variable 1 (count 256 kinds) i h ∙ ap (variable_in kinds types) e

-- the definitions' count of them is this one
before_kept : (kinds types : List ℕ) (k i : ℕ) → i ≤ count 256 kinds → length (keep (is_of k) (take i (variables_of kinds types))) ≡ before kinds k i
unfolding before
before_kept kinds types k zero h = refl
before_kept kinds types k (suc i) h =
    rw (take-suc (variables_of kinds types) i no_variable (omega (arith, variables_length kinds types)), variables_get kinds types i (omega arith))
    (keep_snoc (is_of k) (take i (variables_of kinds types)) (variable_in kinds types (suc i))
    ∙ ap (λ (n : ℕ). n + cond (eqb (byte (get_or kinds (suc i) 0)) k) 1 0) (before_kept kinds types k i (omega arith)))

-- after the first i variables: how many of each kind there were, and the place of each of them
pub record Counting (kinds : List ℕ) (i : ℕ) (counts places : List ℕ) : Type 0 where
  pub counted : length counts ≡ 256
  pub size : length places ≡ 257
  pub counts_are : (k : ℕ) → k < 256 → get_or counts k 0 ≡ before kinds k i
  pub places_are : (x : ℕ) → There i x → get_or places x 0 ≡ before kinds (byte (get_or kinds x 0)) (x - 1)
  pub none : (x : ℕ) → (There i x → ⊥) → get_or places x 0 ≡ 0

-- before the first
pub counting_none : (kinds counts places : List ℕ) → length counts ≡ 256 → length places ≡ 257 → ((k : ℕ) → get_or counts k 0 ≡ 0) → ((k : ℕ) → get_or places k 0 ≡ 0)
    → Counting kinds 0 counts places
unfolding before
counting_none kinds counts places e q f g =
    record { counted = e; size = q; counts_are = λ k h. f k; places_are = λ x t. absurd (omega arith); none = λ x t. g x }

-- one more
module _ (kinds counts places : List ℕ) (i k n : ℕ) (inv : Counting kinds i counts places) (h : i < 256) (e : k ≡ byte (get_or kinds (i + 1) 0)) (q : n ≡ get_or counts k 0) where
  -- its kind's count
  is : n ≡ before kinds k i
  is = q ∙ inv.counts_are k (omega arith)

  -- the counts with it
  counts_more : (m : ℕ) → m < 256 → get_or (set counts k (n + 1)) m 0 ≡ before kinds m (i + 1)
  counts_more m b = dite (ℕ_discrete m k)
      (λ p. rw (p, get_or-set_same counts k (n + 1) 0 (omega (arith, inv.counted)), before_more kinds k i, eq-eqb (byte (get_or kinds (i + 1) 0)) k (sym e)) (omega (arith, is)))
      (λ p. rw (get_or-set_other counts k m (n + 1) 0 p, before_more kinds m i, ne_eqb (byte (get_or kinds (i + 1) 0)) m (λ z. p (omega arith))) (omega (arith, inv.counts_are m b)))

  -- the places with its own
  places_more : (x : ℕ) → There (i + 1) x → get_or (set places (i + 1) n) x 0 ≡ before kinds (byte (get_or kinds x 0)) (x - 1)
  places_more x t = dite (ℕ_discrete x (i + 1))
      (λ p. let z : i + 1 - 1 ≡ i = omega arith in
      rw (p, get_or-set_same places (i + 1) n 0 (omega (arith, inv.size)), z, ← e) is)
      (λ p. get_or-set_other places (i + 1) x n 0 p ∙ inv.places_are x (omega arith, omega arith))

  -- and none behind it
  none_more : (x : ℕ) → (There (i + 1) x → ⊥) → get_or (set places (i + 1) n) x 0 ≡ 0
  none_more x t = get_or-set_other places (i + 1) x n 0 (λ p. t (omega arith, omega arith)) ∙ inv.none x (λ y. t (omega arith, omega arith))

  -- all of it
  pub counting_more : Counting kinds (i + 1) (set counts k (n + 1)) (set places (i + 1) n)
  counting_more = record {
    counted = length-set counts k (n + 1) ∙ inv.counted;
    size = length-set places (i + 1) n ∙ inv.size;
    counts_are = counts_more;
    places_are = places_more;
    none = none_more;
  }

-- after the last
module _ (kinds counts places : List ℕ) (n : ℕ) (e : n ≡ count 256 kinds) (inv : Counting kinds n counts places) (types : List ℕ) where
  -- a variable's own kind
  kind_is : (x : ℕ) → There n x → (at no_variable (variables_of kinds types) x).of ≡ byte (get_or kinds x 0)
  unfolding variables_of
  kind_is x t = ap (λ (v : Variable). v.of) (at_row (variable_in kinds types) no_variable e (omega arith) (omega arith))

  -- its place
  place_is : (x : ℕ) → There n x → get_or places x 0 ≡ place_in (variables_of kinds types) x
  place_is x t =
      inv.places_are x t ∙ sym (before_kept kinds types (byte (get_or kinds x 0)) (x - 1) (omega arith))
      ∙ ap (λ (k : ℕ). length (keep (is_of k) (take (x - 1) (variables_of kinds types)))) (sym (kind_is x t))

  -- all places are the definitions'
  pub counting_all : Placed (variables_of kinds types) places
  counting_all =
      let l = variables_length kinds types in
      record { size = inv.size; place = λ x t. place_is x (omega arith, omega arith); none = λ x t. inv.none x (λ y. t (omega arith, omega arith)) }
