-- One turn of a scan, at place j of the form's text and place i of the line's.
use Rattle.std.specs.Prelude.{ℕ, ◌+◌, ◌≤◌, ◌<◌, ◌≡◌, refl, Bool, cond, eqb, List, length, drop, get_or, set}
use Rattle.std.specs.Bool.{then_some}
use Rattle.std.proofs.Math.Path.{ap, sym}
use Rattle.std.proofs.Common.{◌∙◌, arith, drop_of_length-le}
use Rattle.std.proofs.Math.Option.{none, some}
use Rattle.std.proofs.Math.Bool.{true, false}
use borrow.Author.Tests.{eq-eqb, ne_eqb, lt-ltb, le-ltb}
use Rattle.readers.specs.Words.{drop_next}
use Rattle.shapes.specs.Reads.{hole}
use Rattle.shapes.specs.Scan.{takes, word_end, zeros, scan}
use Rattle.scans.specs.declared.Taken.{Taken}
use Rattle.scans.specs.Fits.{taken_at, fit_of, holes_at}

-- what is known before a turn: what is still to be scanned gives what the whole form gives, and there is room for the places
pub record Scanning (t : List ℕ) (b : ℕ) (s : List ℕ) (a e j i n : ℕ) (v : List ℕ) : Type 0 where
  pub same : scan (drop j t) s e i n v ≡ scan (drop b t) s e a 0 zeros
  pub room : n + length (holes_at t j) ≤ 5

-- before the first turn
pub scanning_none : (t : List ℕ) (b : ℕ) (s : List ℕ) (a e : ℕ) → length (holes_at t b) ≤ 5 → Scanning t b s a e b a 0 zeros
scanning_none t b s a e h = record { same = refl; room = omega arith }

module _ (t : List ℕ) (b : ℕ) (s : List ℕ) (a e j i n : ℕ) (v : List ℕ) (w : Scanning t b s a e j i n v) where
  -- the form's text is at its end
  pub scan_out : length t ≤ j → scan (drop b t) s e a 0 zeros ≡ none
  unfolding scan
  scan_out h = sym w.same ∙ rw (drop_of_length-le t h)

  module _ (c : ℕ) (h : j < length t) (is : get_or t j 0 ≡ c) where
    -- the form is at its end, and the line too
    pub scan_whole : c ≡ 10 → i ≡ e → scan (drop b t) s e a 0 zeros ≡ some v
    unfolding scan
    scan_whole q f = sym w.same ∙ rw (drop_next t j h, is, eq-eqb c 10 q, eq-eqb i e f)

    -- the line goes on
    pub scan_longer : c ≡ 10 → (i ≡ e → ⊥) → scan (drop b t) s e a 0 zeros ≡ none
    unfolding scan
    scan_longer q f = sym w.same ∙ rw (drop_next t j h, is, eq-eqb c 10 q, ne_eqb i e f)

    -- the form is at its end: the places, if the line is too
    pub scan_ended : c ≡ 10 → fit_of (scan (drop b t) s e a 0 zeros) ≡ then_some (eqb i e) v
    unfolding scan
    scan_ended q = ap fit_of (sym w.same ∙ rw (drop_next t j h, is, eq-eqb c 10 q)) ∙ kept (eqb i e)
      where
        kept : (p : Bool) → fit_of (cond p (some v) none) ≡ then_some p v
        kept true = refl
        kept false = refl

    module _ (no : c ≡ 10 → ⊥) where
      -- a hole, and no value for it
      pub scan_not : hole c ≡ true → (x : Taken) → x ≡ taken_at c s i → x.ok ≡ false → scan (drop b t) s e a 0 zeros ≡ none
      unfolding scan
      scan_not q x k f =
          let g : takes c s i ≡ false = sym (ap (λ y. y.ok) k) ∙ f in
          sym w.same ∙ rw (drop_next t j h, is, ne_eqb c 10 no, q, g)

      -- a hole, for which there is room
      pub hole_room : hole c ≡ true → n < 5
      hole_room q = omega (arith, rw (drop_next t j h, is, ne_eqb c 10 no, q) at w.room)

      -- a hole and its value
      pub scan_taken : hole c ≡ true → (x : Taken) → x ≡ taken_at c s i → x.ok ≡ true → Scanning t b s a e (j + 1) x.end (n + 1) (set v n i)
      unfolding scan
      scan_taken q x k f =
          let g : takes c s i ≡ true = sym (ap (λ y. y.ok) k) ∙ f in
          let m : x.end ≡ word_end s i = ap (λ y. y.end) k in
          record {
            same = rw m (sym (rw (drop_next t j h, is, ne_eqb c 10 no, q, g)) ∙ w.same);
            room = omega (arith, rw (drop_next t j h, is, ne_eqb c 10 no, q) at w.room);
          }

      -- another byte, and the line is at its end
      pub scan_short : hole c ≡ false → e ≤ i → scan (drop b t) s e a 0 zeros ≡ none
      unfolding scan
      scan_short q f = sym w.same ∙ rw (drop_next t j h, is, ne_eqb c 10 no, q, le-ltb i e f)

      -- the line has another
      pub scan_off : hole c ≡ false → i < e → (get_or s i 0 ≡ c → ⊥) → scan (drop b t) s e a 0 zeros ≡ none
      unfolding scan
      scan_off q f g = sym w.same ∙ rw (drop_next t j h, is, ne_eqb c 10 no, q, lt-ltb i e f, ne_eqb c (get_or s i 0) (λ z. g (sym z)))

      -- the line has it
      pub scan_on : hole c ≡ false → i < e → get_or s i 0 ≡ c → Scanning t b s a e (j + 1) (i + 1) n v
      unfolding scan
      scan_on q f g = record {
        same = sym (rw (drop_next t j h, is, ne_eqb c 10 no, q, lt-ltb i e f, eq-eqb c (get_or s i 0) (sym g))) ∙ w.same;
        room = omega (arith, rw (drop_next t j h, is, ne_eqb c 10 no, q) at w.room);
      }
