-- What is handed in: a program in tables and a configuration in rooms. Document 01, 20: "the configuration handed in is not one, or the program breaks 3 to 9,
-- has a void variable or a list not ascending". And the step of what is handed in.
use Rattle.std.specs.Prelude.{ℕ, Bool, cond, ◌&&◌, Ok, Err}
use Rattle.lists.specs.Tells.{Tells, both}
use Rattle.answers.specs.declared.Answer.{Answer}
use Rattle.answers.specs.declared.Answer.TheVariants.{NotAccepted}
use Rattle.values.specs.declared.Live.{Live}
use Rattle.runs.specs.Outcome.{took, refused}
use Rattle.rules.specs.Step as definition
use Rattle.soundness.specs.Sound.{Sound, sound, sound_is}
use Rattle.acceptance.specs.Accepted.{Accepted}
use Rattle.acceptance.specs.Decide.{accepted, accepted_is}
use Rattle.tables.specs.declared.Program.{Program as Tables}
use Rattle.tables.specs.Decode.{program_of}
use Rattle.configs.specs.declared.Config.{Config as Held}
use Rattle.configs.specs.Decode.{config_of}
use Rattle.configs.specs.Encode.{written, Zeroed}
use Rattle.handed.specs.declared.Stepped.{Stepped}
use Rattle.handed.specs.Zeros.{zeroed, zeroed_is}

-- the configuration handed in is one: accepted, and unused places are zero
abbrev pub IsOne : Tables → Held → Type 0
IsOne q c = Accepted (program_of q) (config_of (program_of q) c) × Zeroed (program_of q) c

-- nothing of 20 holds
abbrev pub Fit : Tables → Held → Type 0
Fit q c = Sound (program_of q) × IsOne q c

-- THE TEST of 20
unfoldable pub fit : Tables → Held → Bool
fit q c = sound (program_of q) && (accepted (program_of q) (config_of (program_of q) c) && zeroed (program_of q) c)

-- it tells
pub fit_is : (q : Tables) (c : Held) → Tells (fit q c) (Fit q c)
unfolding fit
fit_is q c = both (sound_is (program_of q)) (both (accepted_is (program_of q) (config_of (program_of q) c)) (zeroed_is (program_of q) c))

-- refused: the configuration as it was
abbrev pub refusing : Held → Answer → Stepped
refusing c a = record { config = c; outcome = Err a }

-- what the definition's outcome is of the configuration handed in: the one after the step, written; on a refusal the one before
abbrev pub after : Held → definition.Outcome → Stepped
after c (took R d) = record { config = written d; outcome = Ok R }
after c (refused a) = refusing c a

-- THE STEP of what is handed in, by the machine with the number i and the bits w: 20 first
unfoldable pub step_of : Tables → Held → Live → ℕ → Stepped
step_of q c i w = cond (fit q c) (after c (definition.step (program_of q) (config_of (program_of q) c) (record { machine = i.0; bits = w }))) (refusing c NotAccepted)
