-- What a scan gives as the code has it.
use Rattle.std.specs.Prelude.{ℕ, ◌≤◌, ◌≡◌, List, length, drop, Option, Some, None}
use Rattle.std.proofs.Math.Option.{Option as Maybe, none, some}
use Rattle.lists.specs.Lists.{keep}
use Rattle.shapes.specs.Parts.{till}
use Rattle.shapes.specs.Reads.{hole}
use Rattle.shapes.specs.Scan.{takes, word_end}
use Rattle.scans.specs.declared.Taken.{Taken}

-- the word at place i, and the hole c
abbrev pub taken_at : ℕ → List ℕ → ℕ → Taken
taken_at c s i = record { at = i; ok = takes c s i; end = word_end s i }

-- the places that a scan found, as the code has them
abbrev pub fit_of : Maybe (List ℕ) → Option (List ℕ)
fit_of none = None
fit_of (some v) = Some v

-- the holes of the form that begins at b of t
abbrev pub holes_at : List ℕ → ℕ → List ℕ
holes_at t b = keep hole (till 10 (drop b t))

-- what is asked of a form and a line: there is room for the places, the line is in the text, and the word known for a number is what it is said to be
pub record Fitting (t : List ℕ) (b : ℕ) (s : List ℕ) (e : ℕ) (first : Taken) : Type 0 where
  pub room : length (holes_at t b) ≤ 5
  pub inside : e ≤ length s
  pub known : first ≡ taken_at 35 s first.at
