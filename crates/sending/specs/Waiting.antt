-- The queue of a machine that stands in a room, as crates/queues works on it, and the room after a put.
use Rattle.std.specs.Prelude.{ℕ, ◌*◌, ◌≤◌, ◌<◌, ◌≡◌, refl, List, [], ◌∷◌, map, length, get_or, take}
use Rattle.std.proofs.Common.{ap, sym, ◌∙◌, arith, get_or-set_same}
use Rattle.std.proofs.Math.Option
use Rattle.std.proofs.Math.Option.{none, some}
use Rattle.std.proofs.lemmas.List.{length-map}
use Rattle.lists.specs.Lists.{All}
use Rattle.lists.specs.Facts.{All-map}
use Rattle.lists.specs.Keep.{map_back}
use Rattle.rows.specs.Pad.{pad, pad_take}
use Rattle.rows.specs.Part.{part}
use Rattle.programs.specs.Sizes.{SPENT}
use Rattle.programs.specs.Program.{Program}
use Rattle.soundness.specs.Sound.{Sound}
use Rattle.machines.specs.Config.{Pair, Machine}
use Rattle.machines.specs.Queue.{put}
use Rattle.machines.specs.Rooms.{set_queue}
use Rattle.acceptance.specs.Accepted.{PairOk}
use Rattle.codes.specs.Pairs.{CanonicalPair, pair_canonical}
use Rattle.configs.specs.Decode.{pair_of}
use Rattle.configs.specs.Encode.{pair_number, taken}
use Rattle.configs.proofs.RoundTrip.{holdable, pair_back}
use Rattle.configs.specs.declared.Flat.{Flat}
use Rattle.configs.specs.Flat.{Sized, room_at, room_path}
use Rattle.queues.specs.Queues.{queue_at, put_number, Becomes, becomes_ok, becomes_queue, becomes_other_row, becomes_other_count}
use Rattle.queues.specs.Queues as queues
use Rattle.queues.specs.Meaning.{put_meets, put_canonical}
use Rattle.engine.specs.Engine.{Changed}

-- the lists with other queues
abbrev pub with_queues : Flat → List ℕ → List ℕ → Flat
with_queues f waiting pairs = record {
  ids = f.ids;
  kinds = f.kinds;
  depths = f.depths;
  states = f.states;
  maps = f.maps;
  values = f.values;
  counts = f.counts;
  parts = f.parts;
  held = f.held;
  waiting = waiting;
  pairs = pairs;
  next = f.next;
}

module _ (p : Program) (next : ℕ) (sound : Sound p) (spent : next ≤ SPENT) where
  -- pairs are written and read again
  pub pairs_back : (q : List Pair) → All (PairOk p next) q → map pair_of (map pair_number q) ≡ q
  pairs_back q h = map_back pair_of pair_number q (All-map _ _ q (pair_back p next sound spent) h)

  -- a pair's number is some pair's
  pub number_canonical : (x : Pair) → PairOk p next x → CanonicalPair (pair_number x)
  number_canonical x h = pair_canonical x.event x.value (holdable p next sound spent x.value h.1.0)

  -- and so of all
  pub numbers_canonical : (q : List Pair) → All (PairOk p next) q → All CanonicalPair (map pair_number q)
  numbers_canonical [] h = tt
  numbers_canonical (x ∷ q) h = (number_canonical x h.0, numbers_canonical q h.1)

  -- A PUT OF A PAIR'S NUMBER to a queue's numbers
  module _ (q : List Pair) (y : Pair) (ok : All (PairOk p next) q) (fine : PairOk p next y) where
    -- is ⊙ of the pair,
    meets : Option.map (map pair_of) (put_number (map pair_number q) (pair_number y)) ≡ put q y
    meets = put_meets (map pair_number q) (pair_number y) (numbers_canonical q ok) (number_canonical y fine) ∙ rw (pairs_back q ok, pair_back p next sound spent y fine)

    -- is done where ⊙ is,
    pub number_put : (r : List ℕ) → put_number (map pair_number q) (pair_number y) ≡ some r → (put q y ≡ some (map pair_of r)) × (map pair_number (map pair_of r) ≡ r)
    number_put r e = (sym meets ∙ ap (Option.map (map pair_of)) e, map_back pair_number pair_of r (put_canonical (map pair_number q) (pair_number y) r (numbers_canonical q ok) (number_canonical y fine) e))

    -- and refused where ⊙ is
    pub number_refused : put_number (map pair_number q) (pair_number y) ≡ none → put q y ≡ none
    number_refused e = sym meets ∙ ap (Option.map (map pair_of)) e

-- THE QUEUE OF THE MACHINE n IN ROOM k
module _ (f : Flat) (k : ℕ) (n : Machine) (s : Sized f) (h : k < 32) (e : room_at f k ≡ taken n) (small : length n.queue ≤ 16) where
  -- how many wait
  count_is : get_or f.waiting k 0 ≡ length n.queue
  count_is = ap (λ r. r.waiting) e

  -- the places
  row_is : part (k * 16) 16 f.pairs ≡ pad 0 16 (map pair_number n.queue)
  row_is = ap (λ r. r.pairs) e

  -- the numbers that wait are its pairs'
  pub queue_is : queue_at f.pairs f.waiting k ≡ map pair_number n.queue
  queue_is = ap (λ (l : List ℕ). take (get_or f.waiting k 0) l) row_is
      ∙ ap (λ (j : ℕ). take j (pad 0 16 (map pair_number n.queue))) (count_is ∙ sym (length-map n.queue pair_number)) ∙ pad_take 0 16 (map pair_number n.queue)

  -- what is asked of it
  pub queue_fine : queues.QueueOk f.pairs f.waiting k
  queue_fine = record {
    room = h;
    places = s.pairs_512;
    rooms = s.waiting_32;
    fits = rw count_is small;
    packed = row_is ∙ ap (pad 0 16) (sym queue_is);
  }

  -- THE ROOM AFTER A CHANGE of its queue to that of the pairs q
  pub queue_changed : (q : List Pair) (numbers waiting pairs : List ℕ) → Becomes f.pairs f.waiting k numbers pairs waiting → map pair_number q ≡ numbers
      → Changed f k (set_queue q n) (with_queues f waiting pairs)
  queue_changed q numbers waiting pairs b w = record {
    sized = record {
      ids_32 = s.ids_32;
      kinds_32 = s.kinds_32;
      depths_32 = s.depths_32;
      states_256 = s.states_256;
      maps_16384 = s.maps_16384;
      values_608 = s.values_608;
      counts_32 = s.counts_32;
      parts_1056 = s.parts_1056;
      held_32 = s.held_32;
      waiting_32 = after.rooms;
      pairs_512 = after.places;
    };
    holds = room_path (ap (λ r. r.this.0) e) (ap (λ r. r.kind.0) e) (ap (λ r. r.depth) e) (ap (λ r. r.states) e) (ap (λ r. r.maps) e) (ap (λ r. r.values) e) (ap (λ r. r.count) e)
        (ap (λ r. r.parts) e) (ap (λ r. r.held) e)
        (ap (λ (l : List ℕ). get_or l k 0) b.counts ∙ get_or-set_same f.waiting k (length numbers) 0 (omega (arith, s.waiting_32)) ∙ sym (ap length w) ∙ length-map q pair_number)
        (after.packed ∙ ap (pad 0 16) (becomes_queue f.pairs f.waiting k numbers pairs waiting queue_fine b ∙ sym w));
    others = λ j l d. room_path refl refl refl refl refl refl refl refl refl
        (becomes_other_count f.pairs f.waiting k numbers pairs waiting queue_fine b j d)
        (becomes_other_row f.pairs f.waiting k numbers pairs waiting queue_fine b j l d);
    next = refl;
  }
    where
      -- what is asked of the queue after it
      after : queues.QueueOk pairs waiting k
      after = becomes_ok f.pairs f.waiting k numbers pairs waiting queue_fine b
