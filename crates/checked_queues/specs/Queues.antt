-- What is asked of a queue that is handed in as a count and a row of 16 numbers, and how its test goes about it: number by number, from the last to the first.
use Rattle.std.specs.Prelude.{ℕ, zero, suc, ◌+◌, ◌-◌, ◌*◌, ◌≤◌, ◌<◌, ◌≡◌, Bool, false, List, [], ◌∷◌, map, eqb, length, take, drop, get_or}
use Rattle.std.proofs.Common.{ap, sym, ◌∙◌, add-one, drop-cons, drop-drop, length-take-le}
use native.Mathlib.Omega.{arith}
use Rattle.std.proofs.lemmas.List.{length-map}
use Rattle.std.proofs.Math.Seq.{take-nil}
use Rattle.lists.specs.Lists.{any, All}
use Rattle.lists.specs.Keep.{map_back, back_map}
use Rattle.lists.specs.Tells.{Tells, form}
use Rattle.rows.specs.Pad.{pad, pad_take}
use Rattle.rows.specs.Part.{part, part_front, part_length}
use Rattle.programs.specs.Program.{Program}
use Rattle.acceptance.specs.Accepted.{PairOk, QueueOk, NoneTwice}
use Rattle.codes.specs.Pairs.{CanonicalPair}
use Rattle.configs.specs.Decode.{pair_of}
use Rattle.configs.specs.Encode.{pair_number}
use Rattle.queues.specs.Meaning.{waits_number}
use Rattle.zeros.specs.Zeros.{Zeros}
use Rattle.zeros.specs.Packed.{packed, unpacked}
use Rattle.checked_values.specs.Numbers.{PairNumber}

-- n pairs wait in a row of 16 numbers: they are accepted, as many as are counted, and writing them gives the row again
pub record QueueHeld (p : Program) (next n : ℕ) (row : List ℕ) : Type 0 where
  pub accepted : QueueOk p next (map pair_of (take n row))
  pub counted : length (map pair_of (take n row)) ≡ n
  pub written : pad 0 16 (map pair_number (map pair_of (take n row))) ≡ row

-- each number is a pair's, and stands nowhere behind itself
abbrev pub Apart : Program → ℕ → List ℕ → Type 0
Apart p next [] = Unit {0}
Apart p next (x ∷ l) = PairNumber p next x × ((any (eqb x) l ≡ false) × Apart p next l)

-- PARTS OF A LIST
-- the rest of a front
drop_take : {A : Type 0} (k n : ℕ) (l : List A) → drop k (take n l) ≡ take (n - k) (drop k l)
drop_take zero n l = let e : n - 0 ≡ n = omega arith in rw e
drop_take (suc k) zero l = let e : 0 - suc k ≡ 0 = omega arith in rw e
drop_take (suc k) (suc n) [] = sym (take-nil (suc n - suc k))
drop_take (suc k) (suc n) (x ∷ l) = let e : suc n - suc k ≡ n - k = omega arith in rw e (drop_take k n l)

-- the rest of a part
part_rest : (b n k : ℕ) (l : List ℕ) → drop k (part b n l) ≡ part (b + k) (n - k) l
unfolding part
part_rest b n k l = drop_take k n (drop b l) ∙ ap (take (n - k)) (drop-drop k b l)

-- a part's first number
part_first : (b m : ℕ) (l : List ℕ) → b < length l → part b (m + 1) l ≡ get_or l b 0 ∷ part (b + 1) m l
unfolding part
part_first b m l h = simp add-one (rw (drop-cons l b 0 h))

-- from place j on, where k is the next one
part_from : (b n j k : ℕ) (l : List ℕ) → j + 1 ≡ k → k ≤ n → b + n ≤ length l → part (b + j) (n - j) l ≡ get_or l (b + j) 0 ∷ part (b + k) (n - k) l
part_from b n j k l e h f =
    let r : n - j ≡ n - k + 1 = omega arith in
    let s : b + j + 1 ≡ b + k = omega arith in
    ap (λ (m : ℕ). part (b + j) m l) r ∙ part_first (b + j) (n - k) l (omega arith) ∙ ap (λ (a : ℕ). get_or l (b + j) 0 ∷ part a (n - k) l) s

-- THE LOOP
module _ (p : Program) (next : ℕ) where
  -- what is behind a number
  apart_rest : (k : ℕ) (l : List ℕ) → Apart p next l → Apart p next (drop k l)
  apart_rest zero l h = h
  apart_rest (suc k) [] h = tt
  apart_rest (suc k) (x ∷ l) h = apart_rest k l h.1.1

  -- before the first turn nothing is behind
  pub apart_none : (b n : ℕ) (l : List ℕ) → Apart p next (part (b + n) (n - n) l)
  unfolding part
  apart_none b n l = let e : n - n ≡ 0 = omega arith in rw e tt

  module _ (b n j k : ℕ) (l : List ℕ) (e : j + 1 ≡ k) (h : k ≤ n) (f : b + n ≤ length l) where
    -- one number more
    pub apart_more : PairNumber p next (get_or l (b + j) 0) → any (eqb (get_or l (b + j) 0)) (part (b + k) (n - k) l) ≡ false → Apart p next (part (b + k) (n - k) l)
        → Apart p next (part (b + j) (n - j) l)
    apart_more o s r = rw (part_from b n j k l e h f) (o, (s, r))

    -- what is asked of number j
    asked : Apart p next (part b n l) → Apart p next (get_or l (b + j) 0 ∷ part (b + k) (n - k) l)
    asked r = rw (part_from b n j k l e h f) at (rw (part_rest b n j l) at (apart_rest j (part b n l) r))

    -- it is a pair's
    pub apart_pair : Apart p next (part b n l) → PairNumber p next (get_or l (b + j) 0)
    apart_pair r = (asked r).0

    -- and does not stand behind itself
    pub apart_once : Apart p next (part b n l) → any (eqb (get_or l (b + j) 0)) (part (b + k) (n - k) l) ≡ false
    apart_once r = (asked r).1.0

  -- NUMBER BY NUMBER
  -- number j is a pair's, and stands nowhere behind itself
  pub record Single (l : List ℕ) (j : ℕ) : Type 0 where
    pub pair : PairNumber p next (get_or l j 0)
    pub once : any (eqb (get_or l j 0)) (drop (j + 1) l) ≡ false

  -- one number in front
  single_behind : (x : ℕ) (l : List ℕ) (j : ℕ) → Single (x ∷ l) (suc j) → Single l j
  single_behind x l j s = let e : suc j + 1 ≡ suc (j + 1) = omega arith in record { pair = s.pair; once = rw e at s.once }

  single_before : (x : ℕ) (l : List ℕ) (j : ℕ) → Single l j → Single (x ∷ l) (suc j)
  single_before x l j s = let e : suc j + 1 ≡ suc (j + 1) = omega arith in record { pair = s.pair; once = rw e s.once }

  -- where each number is so, they are apart,
  pub singles_apart : (l : List ℕ) → ((j : ℕ) → j < length l → Single l j) → Apart p next l
  singles_apart [] h = tt
  singles_apart (x ∷ l) h = ((h 0 (omega arith)).pair, ((h 0 (omega arith)).once, singles_apart l (λ j b. single_behind x l j (h (suc j) (omega arith)))))

  -- and the other way round.
  pub apart_singles : (l : List ℕ) → Apart p next l → (j : ℕ) → j < length l → Single l j
  apart_singles [] h j b = absurd (omega arith)
  apart_singles (x ∷ l) h zero b = record { pair = h.0; once = h.1.0 }
  apart_singles (x ∷ l) h (suc j) b = single_before x l j (apart_singles l h.1.1 j (omega arith))

  -- WHAT IS ASKED OF THE NUMBERS is what is asked of the pairs
  -- they are canonical
  canonical_all : (l : List ℕ) → Apart p next l → All CanonicalPair l
  canonical_all [] h = tt
  canonical_all (x ∷ l) h = (h.0.written, canonical_all l h.1.1)

  -- so writing the pairs gives them again
  written_all : (l : List ℕ) → Apart p next l → map pair_number (map pair_of l) ≡ l
  written_all l h = map_back pair_number pair_of l (canonical_all l h)

  -- the pairs are accepted
  pairs_all : (l : List ℕ) → Apart p next l → All (PairOk p next) (map pair_of l)
  pairs_all [] h = tt
  pairs_all (x ∷ l) h = (h.0.pair, pairs_all l h.1.1)

  -- none is there twice
  once_all : (l : List ℕ) → Apart p next l → NoneTwice (map pair_of l)
  once_all [] h = tt
  once_all (x ∷ l) h = (sym (waits_number x l h.0.written (canonical_all l h.1.1)) ∙ h.1.0, once_all l h.1.1)

  -- and back
  apart_all : (l : List ℕ) → All CanonicalPair l → All (PairOk p next) (map pair_of l) → NoneTwice (map pair_of l) → Apart p next l
  apart_all [] c o s = tt
  apart_all (x ∷ l) c o s =
      (record { written = c.0; pair = o.0 }, (waits_number x l c.0 c.1 ∙ s.0, apart_all l c.1 o.1 s.1))

-- THE QUEUE
module _ (p : Program) (next n : ℕ) (row : List ℕ) (long : length row ≡ 16) where
  -- as many numbers as are counted, where they are no more than 16
  count_is : n ≤ 16 → length (take n row) ≡ n
  count_is h = length-take-le n row (omega arith)

  -- from the numbers to the queue
  pub queue_held : n ≤ 16 → Apart p next (take n row) → pad 0 16 (take n row) ≡ row → QueueHeld p next n row
  queue_held h a z = record {
    accepted = record { size = omega (arith, length-map (take n row) pair_of, count_is h); pairs = pairs_all p next (take n row) a; once = once_all p next (take n row) a };
    counted = length-map (take n row) pair_of ∙ count_is h;
    written = rw (written_all p next (take n row) a) z;
  }

  module _ (q : QueueHeld p next n row) where
    -- no more than 16 are counted
    pub held_few : n ≤ 16
    held_few = omega (arith, q.accepted.size, q.counted)

    -- the numbers that are written are those that are counted
    front : map pair_number (map pair_of (take n row)) ≡ take n row
    front =
        let e : length (map pair_number (map pair_of (take n row))) ≡ n = length-map (map pair_of (take n row)) pair_number ∙ q.counted in
        sym (pad_take 0 16 (map pair_number (map pair_of (take n row)))) ∙ ap (λ (m : ℕ). take m (pad 0 16 (map pair_number (map pair_of (take n row))))) e ∙ ap (take n) q.written

    -- the numbers are apart
    pub held_apart : Apart p next (take n row)
    held_apart = apart_all p next (take n row) (back_map pair_number pair_of (take n row) front) q.accepted.pairs q.accepted.once

    -- zeros stand behind them
    pub held_packed : pad 0 16 (take n row) ≡ row
    held_packed = ap (pad 0 16) (sym front) ∙ q.written

-- ROOM i's QUEUE in the flat list
module _ (p : Program) (next n : ℕ) (pairs : List ℕ) (i : ℕ) (long : length pairs ≡ 512) (room : i < 32) where
  -- 16 places
  row_length : length (part (i * 16) 16 pairs) ≡ 16
  row_length = part_length (i * 16) 16 pairs (omega arith)

  -- too many are counted
  pub told_many : 16 < n → QueueHeld p next n (part (i * 16) 16 pairs) → ⊥
  told_many h q = omega (arith, held_few p next n (part (i * 16) 16 pairs) row_length q)

  -- a number is no pair's, or stands there twice
  pub told_pairs : QueueHeld p next n (part (i * 16) 16 pairs) → Apart p next (part (i * 16) n pairs)
  told_pairs q = rw (part_front (i * 16) 16 n pairs (held_few p next n (part (i * 16) 16 pairs) row_length q)) at (held_apart p next n (part (i * 16) 16 pairs) row_length q)

  -- the pairs are as they should be: the zeros decide
  pub told_zeros : (r : Bool) → n ≤ 16 → Apart p next (part (i * 16) n pairs) → Tells r (Zeros (i * 16 + n) (i * 16 + 16) pairs) → Tells r (QueueHeld p next n (part (i * 16) 16 pairs))
  told_zeros r h a t = form t
      (λ z. queue_held p next n (part (i * 16) 16 pairs) row_length h (rw (part_front (i * 16) 16 n pairs h) a) (packed (i * 16) 16 n pairs (omega arith) h z))
      (λ q. unpacked (i * 16) 16 n pairs (omega arith) h (held_packed p next n (part (i * 16) 16 pairs) row_length q))
