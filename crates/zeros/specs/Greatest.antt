-- A loop over a run of numbers that keeps the greatest that it has seen, and tells by it whether the run is zeros.
use Rattle.std.specs.Prelude.{ℕ, ◌+◌, ◌≤◌, ◌<◌, ◌≡◌, refl, List, eqb, get_or}
use Rattle.std.proofs.Common.{arith}
use Rattle.lists.specs.Tells.{Tells, form, equal}
use Rattle.lists.specs.Facts.{range_more}
use Rattle.zeros.specs.Zeros.{Run, Zeros}

-- THE LOOP: `most` is the greatest number from `from` on, up to k, as far as being 0 goes
pub record Seen (xs : List ℕ) (from to most k : ℕ) : Type 0 where
  pub low : from ≤ k
  pub high : k ≤ to
  pub so_far : most ≡ 0 → Zeros from k xs
  pub back : Zeros from k xs → most ≡ 0

-- before the first turn
pub seen_none : {xs : List ℕ} {from to : ℕ} → Run xs from to → Seen xs from to 0 from
seen_none r = record { low = omega arith; high = r.ordered; so_far = λ e k a b. absurd (omega arith); back = λ z. refl }

module _ {xs : List ℕ} {from to most k : ℕ} (seen : Seen xs from to most k) where
  -- one more place
  more : get_or xs k 0 ≡ 0 → Zeros from k xs → Zeros from (k + 1) xs
  more e z = range_more (λ j. get_or xs j 0 ≡ 0) from k z e

  -- a turn that meets a greater number
  pub seen_greater : k < to → most < get_or xs k 0 → Seen xs from to (get_or xs k 0) (k + 1)
  seen_greater h g = record {
    low = omega arith;
    high = omega arith;
    so_far = λ e. absurd (omega arith);
    back = λ z. z k seen.low (omega arith);
  }

  -- and one that does not
  pub seen_same : k < to → get_or xs k 0 ≤ most → Seen xs from to most (k + 1)
  seen_same h l = record {
    low = omega arith;
    high = omega arith;
    so_far = λ e. more (omega arith) (seen.so_far e);
    back = λ z. seen.back (λ j a b. z j a (omega arith));
  }

  -- after the last turn
  pub seen_all : to ≤ k → Tells (eqb most 0) (Zeros from to xs)
  seen_all h = let e : k ≡ to = omega arith in form (equal most 0) (λ z. rw e at (seen.so_far z)) (λ z. seen.back (rw e z))
