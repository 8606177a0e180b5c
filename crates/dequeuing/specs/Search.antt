-- The first pair of a room's queue whose event is not held back: what the search for it is asked and finds, and that it is the pair that DEQUEUE takes.
use Rattle.std.specs.Prelude.{ℕ, suc, ◌+◌, ◌*◌, ◌≤◌, ◌<◌, ◌≡◌, refl, Bool, true, false, List, [], ◌∷◌, map, length, get_or}
use Rattle.std.proofs.Common.{ap, ◌∙◌, arith, get_or-take}
use Rattle.std.proofs.Math.Option.{none, some}
use Rattle.lists.specs.Lists.{There}
use Rattle.rows.specs.Pad.{without}
use Rattle.rows.specs.Part.{part, part_get}
use Rattle.programs.specs.Program.{Program}
use Rattle.machines.specs.Config.{Reply}
use Rattle.machines.specs.Maps.{held_back}
use Rattle.machines.specs.Queue.{pull}
use Rattle.codes.specs.Pairs.{pair_event}
use Rattle.configs.specs.Decode.{pair_of}
use Rattle.maps.specs.Maps.{Asked}
use Rattle.queues.specs.Queues.{QueueOk, queue_at, queue_length}
use Rattle.queues.specs.Meaning.{remove_meets}

-- WHAT IS ASKED: room k's queue, whose events are there; 64 places from b on for a map; a state
pub record SearchAsked (k b n : ℕ) (waiting pairs : List ℕ) : Type 0 where
  pub queue : QueueOk pairs waiting k
  pub inside : b + 64 ≤ 16384
  pub state : n ≤ 64
  pub events : (j : ℕ) → j < get_or waiting k 0 → There 64 (pair_event (get_or pairs (k * 16 + j) 0))

-- WHAT IS FOUND: the first of n for which `back` does not hold, or n
pub record First (back : ℕ → Bool) (n r : ℕ) : Type 0 where
  pub inside : r ≤ n
  pub before : (j : ℕ) → j < r → back j ≡ true
  pub here : r < n → back r ≡ false

-- the event of pair j of room k's queue
abbrev pub event_at : ℕ → List ℕ → ℕ → ℕ
event_at k pairs j = pair_event (get_or pairs (k * 16 + j) 0)

-- what crates/maps is asked of it
pub search_asked : (k b n : ℕ) (waiting pairs : List ℕ) → SearchAsked k b n waiting pairs → (j : ℕ) → j < get_or waiting k 0 → Asked b n (event_at k pairs j)
search_asked k b n waiting pairs a j h = record { inside = a.inside; state = a.state; from_1 = (a.events j h).0; event = (a.events j h).1 }

-- number j of the queue
pub number_at_lem : (pairs waiting : List ℕ) (k : ℕ) → QueueOk pairs waiting k → (j : ℕ) → j < get_or waiting k 0 → get_or (queue_at pairs waiting k) j 0 ≡ get_or pairs (k * 16 + j) 0
number_at_lem pairs waiting k ok j h = get_or-take (get_or waiting k 0) (part (k * 16) 16 pairs) j 0 h ∙ part_get (k * 16) 16 pairs j 0 (omega (arith, ok.fits))

-- AS THE DEFINITIONS HAVE IT
module _ (p : Program) (n : ℕ) (α : List Reply) where
  -- where every pair is held back, none is taken
  pub held_all : (q : List ℕ) → ((j : ℕ) → j < length q → held_back p n α (pair_event (get_or q j 0)) ≡ true) → pull p n α (map pair_of q) ≡ none
  held_all [] f = refl
  held_all (x ∷ q) f = rw (f 0 (omega arith), held_all q (λ j b. f (suc j) (omega arith)))

  module _ (pairs waiting : List ℕ) (k : ℕ) (ok : QueueOk pairs waiting k) (r : ℕ) (first : First (λ j. held_back p n α (event_at k pairs j)) (get_or waiting k 0) r) where
    -- is held back before r
    back_at : (j : ℕ) → j < get_or waiting k 0 → j < r → held_back p n α (pair_event (get_or (queue_at pairs waiting k) j 0)) ≡ true
    back_at j h b = rw (number_at_lem pairs waiting k ok j h) (first.before j b)

    -- none is taken
    pub takes_none : get_or waiting k 0 ≤ r → pull p n α (map pair_of (queue_at pairs waiting k)) ≡ none
    takes_none h = held_all (queue_at pairs waiting k) (λ j b. back_at j (omega (arith, queue_length pairs waiting k ok)) (omega (arith, queue_length pairs waiting k ok)))

    -- pair r is taken
    pub takes_some : r < get_or waiting k 0 → pull p n α (map pair_of (queue_at pairs waiting k)) ≡ some (pair_of (get_or pairs (k * 16 + r) 0), map pair_of (without r (queue_at pairs waiting k)))
    takes_some h =
        remove_meets p n α (queue_at pairs waiting k) r (omega (arith, queue_length pairs waiting k ok)) (λ j b. back_at j (omega arith) b) (rw (number_at_lem pairs waiting k ok r h) (first.here h))
        ∙ ap (λ (x : ℕ). some (pair_of x, map pair_of (without r (queue_at pairs waiting k)))) (number_at_lem pairs waiting k ok r h)
