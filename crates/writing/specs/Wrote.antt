-- Bytes written into a lent buffer from a place on, with the place behind them as the result; and one writing behind another.
use Rattle.std.specs.Prelude.{ℕ, suc, ◌+◌, ◌-◌, ◌≤◌, ◌<◌, ◌≡◌, refl, drop, set}
use Rattle.std.proofs.Math.Path.{ap}
use Rattle.std.proofs.Common.{sym, ◌∙◌, zero-add, add-one, arith, take-append-drop, take_at, length-take-le}
use mathlib.Core.List.{List, [], ◌∷◌, ◌++◌, append_assoc, append-nil}
use Rattle.std.proofs.Math.Nat.{add-zero, add_assoc}
use Rattle.std.proofs.Math.ListN.{length, take, length-append}
use Rattle.std.proofs.Math.Seq.{set_split, append_snoc, take-length, drop-append-add, drop-drop}
use borrow.Rule.Slice.PartMut.{put_mid}
use Rattle.rows.specs.Part.{part, put, put_length}
use Rattle.copies.specs.Copies.{put_of_mid}

-- ROWS PUT BEHIND ONE ANOTHER
module _ {A : Type 0} where
  -- nothing put
  put_none : (b : ℕ) (xs : List A) → put b [] xs ≡ xs
  unfolding put
  put_none b xs = rw (append-nil (take b xs), add-zero b) (take-append-drop b xs)

  -- one element put is one store
  put_one : (b : ℕ) (x : A) (xs : List A) → b < length xs → set xs b x ≡ put b (x ∷ []) xs
  unfolding put
  put_one b x xs h = set_split xs b x h ∙ rw (add-one b) (sym (append_snoc (take b xs) x (drop (suc b) xs)))

  -- a row put behind one that was put
  put_behind : (b : ℕ) (r s xs : List A) → b ≤ length xs → put (b + length r) s (put b r xs) ≡ put b (r ++ s) xs
  unfolding put
  put_behind b r s xs h =
      let front = take b xs ++ r in
      let l : length (take b xs ++ r) ≡ b + length r = length-append (take b xs) r ∙ ap (λ (n : ℕ). n + length r) (length-take-le b xs h) in
      rw (take_at front (drop (b + length r) xs) (b + length r) l, ← l, drop-append-add front (drop (length front) xs) (length s), drop-drop (length s) (length front) xs, l, length-append r s, ← add_assoc b (length r) (length s), append_assoc (take b xs) r s)

  -- a row put from the front
  put_front : (r xs : List A) → put 0 r xs ≡ r ++ drop (length r) xs
  unfolding put
  put_front r xs = rw (zero-add (length r))

-- ROOM for the bytes bs from place `at` of the buffer on
pub record Room (bs : List ℕ) (at : ℕ) (old : List ℕ) : Type 0 where
  pub fits : at + length bs ≤ length old

-- THE BYTES bs WRITTEN from place `at` of the buffer `old` on: it is then `new`, and `behind` is the place behind them
pub record Wrote (bs : List ℕ) (at : ℕ) (old : List ℕ) (behind : ℕ) (new : List ℕ) : Type 0 where
  pub place : behind ≡ at + length bs
  pub holds : new ≡ put at bs old

-- the buffer keeps its length
pub wrote_length : {bs : List ℕ} {at : ℕ} {old : List ℕ} {behind : ℕ} {new : List ℕ} → Room bs at old → Wrote bs at old behind new → length new ≡ length old
wrote_length {bs} {at} {old} r w = ap length w.holds ∙ put_length at bs old r.fits

-- nothing written
pub wrote_none : (at : ℕ) (old : List ℕ) → Wrote [] at old at old
wrote_none at old = record { place = sym (add-zero at); holds = sym (put_none at old) }

-- one byte
pub wrote_one : (b at : ℕ) (old : List ℕ) → at < length old → Wrote (b ∷ []) at old (at + 1) (set old at b)
wrote_one b at old h = record { place = refl; holds = put_one at b old h }

-- a word written over a part
pub wrote_word : (word : List ℕ) (at : ℕ) (old : List ℕ) {behind : ℕ} {new : List ℕ} → behind ≡ at + length word → new ≡ put_mid at (behind - at) old word → Wrote word at old behind new
wrote_word word at old {behind} p e = record { place = p; holds = e ∙ put_of_mid at (behind - at) old word (omega arith) }

-- a whole word copied
pub wrote_copy : (word : List ℕ) (at : ℕ) (old : List ℕ) {new : List ℕ} → new ≡ put at (part 0 (length word) word) old → Wrote word at old (at + length word) new
unfolding part
wrote_copy word at old e = record { place = refl; holds = e ∙ ap (λ (l : List ℕ). put at l old) (take-length word) }

-- ONE WRITING BEHIND ANOTHER
module _ (xs ys : List ℕ) {at : ℕ} {old : List ℕ} (room : Room (xs ++ ys) at old) where
  -- there is room for the first,
  pub room_first : Room xs at old
  room_first = record { fits = omega (arith, room, length-append xs ys) }

  module _ {middle : ℕ} {between : List ℕ} (first : Wrote xs at old middle between) where
    -- then for the second,
    pub room_second : Room ys middle between
    room_second = record { fits = omega (arith, room, length-append xs ys, first.place, wrote_length room_first first) }

    -- and both are written
    pub wrote_both : {behind : ℕ} {new : List ℕ} → Wrote ys middle between behind new → Wrote (xs ++ ys) at old behind new
    wrote_both second = record {
      place = omega (arith, length-append xs ys, first.place, second.place);
      holds = second.holds ∙ rw (first.place, first.holds) (put_behind at xs ys old (omega (arith, room)));
    }

-- what is written from the front
pub wrote_front : {bs old : List ℕ} {behind : ℕ} {new : List ℕ} → Wrote bs 0 old behind new → (behind ≡ length bs) × (new ≡ bs ++ drop (length bs) old)
wrote_front {bs} {old} w = (w.place ∙ zero-add (length bs), w.holds ∙ put_front bs old)
