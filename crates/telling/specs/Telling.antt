-- A LOOP THAT WRITES one line a turn: of all the bytes that are to be written, those of the turns so far are written, and the rest is to come.
use Rattle.std.specs.Prelude.{ℕ, ◌≡◌, refl, List, [], ◌++◌, length}
use Rattle.std.proofs.Common.{sym, ◌∙◌, subst, append_assoc, append-nil}
use Rattle.writing.specs.Wrote.{Room, Wrote, wrote_none, wrote_length, room_first, room_second, wrote_both}

-- `whole` is to be written from place `first` of the buffer `old` on; `rest` is left, and goes from place `at` of the buffer `new` on
pub record Told (whole rest : List ℕ) (first : ℕ) (old : List ℕ) (at : ℕ) (new : List ℕ) : Type 0 where
  pub done : List ℕ
  pub parts : done ++ rest ≡ whole
  pub wrote : Wrote done first old at new

-- before the first turn
pub told_none : (whole : List ℕ) (first : ℕ) (old : List ℕ) → Told whole whole first old first old
told_none whole first old = record { done = []; parts = refl; wrote = wrote_none first old }

module _ {whole rest : List ℕ} {first : ℕ} {old : List ℕ} {at : ℕ} {new : List ℕ} (room : Room whole first old) (t : Told whole rest first old at new) where
  -- the room, by the parts
  by_parts : Room (t.done ++ rest) first old
  by_parts = subst (λ (l : List ℕ). Room l first old) (sym t.parts) room

  -- the buffer keeps its length
  pub told_length : length new ≡ length old
  told_length = wrote_length (room_first t.done rest by_parts) t.wrote

  -- there is room for the rest
  pub told_room : Room rest at new
  told_room = room_second t.done rest by_parts t.wrote

-- one turn: `line` is written, which is the first of the rest
pub told_more : {whole : List ℕ} {first : ℕ} {old : List ℕ} {at : ℕ} {new : List ℕ} {behind : ℕ} {newer : List ℕ} (line rest : List ℕ) → Room whole first old → Told whole (line ++ rest) first old at new → Wrote line at new behind newer → Told whole rest first old behind newer
told_more {whole} {first} {old} line rest room t w =
    let all = append_assoc t.done line rest ∙ t.parts in
    let both : Room (t.done ++ line) first old = room_first (t.done ++ line) rest (subst (λ (l : List ℕ). Room l first old) (sym all) room) in
    record { done = t.done ++ line; parts = all; wrote = wrote_both t.done line both t.wrote w }

-- after the last turn
pub told_all : {whole : List ℕ} {first : ℕ} {old : List ℕ} {at : ℕ} {new : List ℕ} → Told whole [] first old at new → Wrote whole first old at new
told_all {whole} {first} {old} {at} {new} t = subst (λ (l : List ℕ). Wrote l first old at new) (sym (append-nil t.done) ∙ t.parts) t.wrote
