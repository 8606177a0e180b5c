-- A run of places written over: what a write to a part of a slice leaves, and what a loop that copies a run of numbers does to the list that it stores into.
use Rattle.std.specs.Prelude.{ℕ, ◌+◌, ◌≤◌, ◌<◌, ◌≡◌, List, length, get_or, set, take, drop, replicate}
use Rattle.std.proofs.Common.{sym, ◌∙◌, append_assoc, drop-drop}
use Rattle.std.proofs.lemmas.List.{length-replicate}
use borrow.Rule.Slice.PartMut.{put_mid}
use Rattle.rows.specs.Part.{part, put, part_length, part_get}
use Rattle.rows.specs.Fill.{Filling, filling_start, filling_more, filling_end}

-- n places from b on in one list, and from a on in another
pub record Within {A : Type 0} (to : List A) (b : ℕ) (from : List A) (a n : ℕ) : Type 0 where
  pub target : b + n ≤ length to
  pub source : a + n ≤ length from

-- what is left of xs where its k places from b on hold ys, is `put`
pub put_of_mid : {A : Type 0} (b k : ℕ) (xs ys : List A) → length ys ≡ k → put_mid b k xs ys ≡ put b ys xs
unfolding put
put_of_mid b k xs ys e = rw (e, append_assoc, drop-drop k b xs)

-- and where they were filled with x, it is `put` of n times x
pub put_filled : {A : Type 0} (b k n : ℕ) (x : A) (xs ys : List A) → k ≡ n → b + n ≤ length xs → ys ≡ replicate (length (take k (drop b xs))) x
    → put_mid b k xs ys ≡ put b (replicate n x) xs
unfolding part
put_filled b k n x xs ys e h f =
    let l : length (take n (drop b xs)) ≡ n = part_length b n xs h in
    rw (f, e, l) (put_of_mid b n xs (replicate n x) (length-replicate n x))

-- THE LOOP THAT COPIES: after e turns the list `to` is the one it began with, its part at b with its first e places from `from`
pub record Copied {A : Type 0} (to₀ : List A) (b : ℕ) (from : List A) (a n : ℕ) (to : List A) (e : ℕ) : Type 0 where
  pub source : a + n ≤ length from
  pub filling : Filling (part a n from) b n to₀ to e

-- before the first turn
pub copied_none : {A : Type 0} {to₀ : List A} {b : ℕ} {from : List A} {a n : ℕ} → Within to₀ b from a n → Copied to₀ b from a n to₀ 0
copied_none {to₀} {b} {from} {a} {n} w = record { source = w.source; filling = filling_start (part a n from) b n to₀ w.target (part_length a n from w.source) }

module _ {A : Type 0} {to₀ : List A} {b : ℕ} {from : List A} {a n : ℕ} {to : List A} {e : ℕ} (c : Copied to₀ b from a n to e) where
  -- one turn, which stores v
  pub copied_more : (z : A) {v : A} → e < n → v ≡ get_or from (a + e) z → Copied to₀ b from a n (set to (b + e) v) (e + 1)
  copied_more z h q = record { source = c.source; filling = filling_more z c.filling h (q ∙ sym (part_get a n from e z h)) }

  -- after the last
  pub copied_all : n ≤ e → to ≡ put b (part a n from) to₀
  copied_all h = filling_end (part a n from) b n to₀ to e c.filling h
