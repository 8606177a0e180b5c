-- What the line of a state says, by the parts of the text at its places.
use Rattle.std.specs.Prelude.{ℕ, ◌≡◌, List}
use Rattle.programs.specs.Program.{State}
use Rattle.texts.specs.Forms.{state_line}
use Rattle.spoken.specs.Spoken.{number_at, list_at, line_at}

module _ (s places : List ℕ) where
  -- the state
  abbrev pub state_at : State
  state_at = record { of = number_at s places 1; defer = list_at s places 2; entry = number_at s places 3; exit = number_at s places 4 }

  -- its number, and the state
  pub state_says : {i : ℕ} {t : State} → line_at s places 37 ≡ state_line i t → (number_at s places 0 ≡ i) × (state_at ≡ t)
  unfolding line_at
  state_says q = (cc, cc)
