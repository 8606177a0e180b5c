-- THE NAME OF A FILE: a text's name and an ending, in a buffer that may be too short for both.
use Rattle.std.specs.Prelude.{ℕ, ◌+◌, ◌≤◌, ◌<◌, ◌≡◌, refl, cond, List, [], ◌++◌, leb, length}
use Rattle.std.proofs.Common.{arith, le-leb}
use Rattle.std.proofs.lemmas.Bool.{lt-leb}
use Rattle.std.proofs.Math.ListN.{length-append}
use Rattle.handed_runs.specs.HandedRuns.{fronted}
use Rattle.handed_out.specs.Called.{front_within}
use Rattle.writing.specs.Wrote.{Room, Wrote, wrote_both, wrote_front}

-- the two words; or none, which is no file's name, where a buffer of `most` bytes has no room for them
unfoldable pub file_name : List ℕ → List ℕ → ℕ → List ℕ
file_name name ending most = cond (leb (length name + length ending) most) (name ++ ending) []

module _ (name ending path : List ℕ) where
  -- it stands at the front of the buffer, and r is its length
  abbrev pub Named : ℕ → List ℕ → Type 0
  Named r new = (r ≡ length (file_name name ending (length path))) × (new ≡ fronted (file_name name ending (length path)) path)

  -- it lies in the buffer
  pub named_within : {r : ℕ} {new : List ℕ} → Named r new → r ≤ length new
  named_within n = front_within (λ (p : List ℕ). file_name name ending (length p)) path path n.0 n.1

  -- WITHOUT ROOM nothing is written
  pub named_none : length path < length name + length ending → Named 0 path
  unfolding file_name
  named_none h = rw (lt-leb _ _ h) (refl, refl)

  -- WITH ROOM for both: the name, and the ending behind it
  pub named_both : length name + length ending ≤ length path → {middle r : ℕ} {between new : List ℕ} → Wrote name 0 path middle between → Wrote ending middle between r new → Named r new
  unfolding file_name
  named_both fits first second =
      let room : Room (name ++ ending) 0 path = record { fits = omega (arith, fits, length-append name ending) } in
      rw (le-leb _ _ fits) (wrote_front (wrote_both name ending room first second))
