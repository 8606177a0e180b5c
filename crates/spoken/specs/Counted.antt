-- The laws of the functions of this crate: the test of a line's own number, the kinds of the forms.
use Rattle.std.specs.Prelude.{ℕ, zero, suc, ◌+◌, ◌-◌, ◌≤◌, ◌<◌, min, ◌≡◌, refl, Bool, true, false, List, [], ◌∷◌, map, eqb, leb, length, get_or}
use Rattle.std.proofs.Common.{ap, sym, ◌∙◌, arith, eqb-true, eq-eqb, ne_eqb, leb-true}
use Rattle.std.proofs.Math.Bool.{and-false}
use Rattle.std.proofs.Math.Logic.{dite}
use Rattle.std.proofs.Math.Decide.{dec_le}
use Rattle.std.proofs.lemmas.Bool.{lt-leb}
use Rattle.std.proofs.Math.ListN.{get_or-map}
use Rattle.lists.specs.Facts.{and_parts}
use Rattle.texts.specs.Reading.{kind, next}
use Rattle.texts.specs.Forms.{start_line}
use Rattle.numerals.specs.Numerals.{CAP}
use Rattle.spoken.specs.Spoken.{sayings, line_at}

-- A LINE'S OWN NUMBER
-- of the cut number the test is the same: no size is so large
pub next_cut : (size n i : ℕ) → size < CAP → next size n (min i CAP) ≡ next size n i
next_cut size n i h = dite (dec_le i CAP) low high
  where
    low : i ≤ CAP → next size n (min i CAP) ≡ next size n i
    low l = ap (next size n) (let e : min i CAP ≡ i = omega arith in e)

    high : (i ≤ CAP → ⊥) → next size n (min i CAP) ≡ next size n i
    high l = rw (lt-leb (min i CAP) size (omega arith), lt-leb i size (omega arith)) (and-false (eqb (min i CAP) (n + 1)) ∙ sym (and-false (eqb i (n + 1))))

-- so what the code tests is what is asked of the line: m is how many lines it counts, x its own number j, cut
pub next_told : (size : ℕ) → size < CAP → {n m i j x : ℕ} {r : Bool} → m ≡ n → j ≡ i → x ≡ min j CAP → r ≡ next size m x → r ≡ next size n i
next_told size h {n} {m} {i} {j} {x} a b c d = d ∙ rw (a, c, b) (next_cut size n i h)

-- the next line has a place
pub next_room : (size n i : ℕ) → next size n i ≡ true → n < size
next_room size n i e =
    let d = and_parts (eqb i (n + 1)) (leb i size) e in
    omega (arith, eqb-true i (n + 1) d.0, leb-true i size d.1)

-- 0 is no line's number,
pub next_zero : (size n i : ℕ) → i ≡ 0 → false ≡ next size n i
next_zero size n i e = rw (ne_eqb i (n + 1) (λ q. omega arith))

-- another is not the next,
pub next_other : (size n i : ℕ) → (i ≡ 0 → ⊥) → (i - 1 ≡ n → ⊥) → false ≡ next size n i
next_other size n i z o = rw (ne_eqb i (n + 1) (λ q. o (omega arith)))

-- and the next one has to be in the size.
pub next_one : (size n i : ℕ) → (i ≡ 0 → ⊥) → i - 1 ≡ n → leb i size ≡ next size n i
next_one size n i z o = rw (eq-eqb i (n + 1) (omega arith))

-- THE KINDS OF THE FORMS
abbrev pub kinds : List ℕ
kinds = map kind (sayings [] [])

-- what stands at a place that is there does not depend on what stands at others
within : (l : List ℕ) (i d e : ℕ) → i < length l → get_or l i d ≡ get_or l i e
within [] i d e h = absurd (omega arith)
within (x ∷ l) zero d e h = refl
within (x ∷ l) (suc i) d e h = within l i d e (omega arith)

-- the table has them
pub kind_at : (s places : List ℕ) (row : ℕ) → row < 44 → get_or kinds row 0 ≡ kind (line_at s places row)
unfolding line_at
kind_at s places row h = within kinds row 0 11 h ∙ get_or-map kind (sayings s places) row (start_line 0)
