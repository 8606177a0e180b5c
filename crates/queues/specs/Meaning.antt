-- The queue of numbers is the definitions' queue of pairs: a put to it is ⊙, a removal of the first pair that is not held back is DEQUEUE's.
use Rattle.std.specs.Prelude.{ℕ, zero, suc, ◌<◌, ◌≡◌, refl, Bool, true, false, cond, List, [], ◌∷◌, ◌++◌, map, eqb, ltb, length, get_or}
use Rattle.std.proofs.Common.{suc-le-suc, ap, le_of_suc-le-suc, not-suc-le-zero, zero-lt-suc}
use Rattle.std.proofs.Math.Option
use Rattle.std.proofs.Math.Option.{none, some, none-ne-some}
use Rattle.std.proofs.lemmas.List.{map-append, length-map}
use Rattle.lists.specs.Lists.{any, All}
use Rattle.lists.specs.Facts.{All-append}
use Rattle.lists.specs.Tells.{agree}
use Rattle.rows.specs.Pad.{without}
use Rattle.programs.specs.Program.{Program}
use Rattle.machines.specs.Config.{Reply, Pair}
use Rattle.machines.specs.Maps.{held_back}
use Rattle.machines.specs.Queue.{same, waits, put, pull}
use Rattle.machines.specs.Equal.{same_equal, same_self}
use Rattle.codes.specs.Pairs.{pair_event, CanonicalPair, pairs_tell}
use Rattle.configs.specs.Decode.{pair_of, machine_of}
use Rattle.configs.specs.declared.Flat.{Flat}
use Rattle.configs.specs.Flat.{room_at}
use Rattle.queues.specs.Queues.{queue_at, put_number}

-- the queue of the machine in room i
pub queue_reads : (p : Program) (f : Flat) (i : ℕ) → (machine_of p (room_at f i)).queue ≡ map pair_of (queue_at f.pairs f.waiting i)
queue_reads p f i = refl

-- canonical numbers are equal exactly where their pairs are the same
pub same_number : (x y : ℕ) → CanonicalPair x → CanonicalPair y → eqb x y ≡ same (pair_of x) (pair_of y)
same_number x y h k = agree (eqb x y) (same (pair_of x) (pair_of y)) (pairs_tell x y h k) (record {
  holds = λ e. let p = same_equal (pair_of x) (pair_of y) e in (ap (λ (z : Pair). z.event) p, ap (λ (z : Pair). z.value) p);
  test = λ d. rw (d.0, d.1) (same_self (pair_of y));
})

-- an equal number waits exactly where an equal pair does
pub waits_number : (x : ℕ) (q : List ℕ) → CanonicalPair x → All CanonicalPair q → any (eqb x) q ≡ waits (pair_of x) (map pair_of q)
waits_number x [] h k = refl
waits_number x (y ∷ q) h k = rw (same_number x y h k.0, waits_number x q h k.1)

-- the pairs of a list with one more at the end
-- A PUT OF A NUMBER IS ⊙
pub put_meets : (q : List ℕ) (x : ℕ) → All CanonicalPair q → CanonicalPair x → Option.map (map pair_of) (put_number q x) ≡ put (map pair_of q) (pair_of x)
unfolding put_number
put_meets q x k h = rw (waits_number x q h k, length-map q pair_of) (go (waits (pair_of x) (map pair_of q)) (ltb (length q) 16))
  where
    go : (a b : Bool) → Option.map (map pair_of) (cond a (some q) (cond b (some (q ++ x ∷ [])) none)) ≡ cond a (some (map pair_of q)) (cond b (some (map pair_of q ++ pair_of x ∷ [])) none)
    go true b = refl
    go false true = ap some (map-append pair_of q (x ∷ []))
    go false false = refl

-- a put keeps the numbers canonical
pub put_canonical : (q : List ℕ) (x : ℕ) (r : List ℕ) → All CanonicalPair q → CanonicalPair x → put_number q x ≡ some r → All CanonicalPair r
unfolding put_number
put_canonical q x r k h = go (any (eqb x) q) (ltb (length q) 16)
  where
    go : (a b : Bool) → cond a (some q) (cond b (some (q ++ x ∷ [])) none) ≡ some r → All CanonicalPair r
    go true b e = let s : q ≡ r = cc in rw s at k
    go false true e = let s : q ++ x ∷ [] ≡ r = cc in rw s at (All-append CanonicalPair q (x ∷ []) k (h, tt))
    go false false e = absurd (none-ne-some _ e)

-- and so does a removal
pub remove_canonical : (k : ℕ) (q : List ℕ) → All CanonicalPair q → All CanonicalPair (without k q)
unfolding without
remove_canonical zero [] h = tt
remove_canonical (suc k) [] h = tt
remove_canonical zero (x ∷ q) h = h.1
remove_canonical (suc k) (x ∷ q) h = (h.0, remove_canonical k q h.1)

-- THE REMOVAL OF THE FIRST PAIR THAT IS NOT HELD BACK IS DEQUEUE's
pub remove_meets : (p : Program) (n : ℕ) (α : List Reply) (q : List ℕ) (k : ℕ) → k < length q → ((j : ℕ) → j < k → held_back p n α (pair_event (get_or q j 0)) ≡ true)
    → held_back p n α (pair_event (get_or q k 0)) ≡ false → pull p n α (map pair_of q) ≡ some (pair_of (get_or q k 0), map pair_of (without k q))
unfolding without
remove_meets p n α [] k l f e = absurd (not-suc-le-zero l)
remove_meets p n α (x ∷ q) zero l f e = rw e
remove_meets p n α (x ∷ q) (suc k) l f e =
    rw (f 0 (zero-lt-suc _), remove_meets p n α q k (le_of_suc-le-suc l) (λ j b. f (suc j) (suc-le-suc b)) e)
