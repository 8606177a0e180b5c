-- What a program that is handed in starts with: 20 where it is not sound, else its start configuration; and that nothing of 20 holds of that configuration.
use Rattle.std.specs.Prelude.{◌≡◌, false, cond, eqb, replicate, Result, Ok, Err}
use Rattle.std.proofs.Math.Option.{none}
use Rattle.answers.specs.declared.Answer.{Answer}
use Rattle.answers.specs.declared.Answer.TheVariants.{Done, NotAccepted}
use Rattle.answers.specs.Number.{number}
use Rattle.programs.specs.Sizes.{LIVE}
use Rattle.machines.specs.Config.{Config}
use Rattle.rules.specs.Step.{start_config}
use Rattle.soundness.specs.Sound.{Sound, sound, sound_is}
use Rattle.tables.specs.declared.Program.{Program as Tables}
use Rattle.tables.specs.Decode.{program_of}
use Rattle.configs.specs.declared.Config.{Config as Held}
use Rattle.configs.specs.Encode.{written}
use Rattle.handed.specs.Handed.{Fit}
use Rattle.handed.specs.Start.{start_fits}

-- what a program starts with: an answer with a configuration
pub record Started : Type 0 where
  pub answer : Answer
  pub config : Held

-- the configuration of no machine: every room is free, and live numbers begin at 1
abbrev pub no_machine : Config
no_machine = record { rooms = replicate LIVE none; next = 1 }

-- an answer with a configuration, written
abbrev pub started_as : Answer → Config → Started
started_as a c = record { answer = a; config = written c }

-- THE START of what is handed in: "20 .. the program breaks 3 to 9, has a void variable or a list not ascending"; else 0 and the start configuration
unfoldable pub start_of : Tables → Started
start_of q = cond (sound (program_of q)) (started_as Done (start_config (program_of q))) (started_as NotAccepted no_machine)

-- the configuration where the answer is 0, and else the answer
abbrev pub beginning_of : Started → Result Held Answer
beginning_of s = cond (eqb (number s.answer) 0) (Ok s.config) (Err s.answer)

-- any other program does not start
pub start_unsound : (q : Tables) → sound (program_of q) ≡ false → start_of q ≡ started_as NotAccepted no_machine
unfolding start_of
start_unsound q e = rw e

module _ (q : Tables) (s : Sound (program_of q)) where
  -- a sound program starts
  pub start_sound : start_of q ≡ started_as Done (start_config (program_of q))
  unfolding start_of
  start_sound = rw ((sound_is (program_of q)).test s)

  -- AND NOTHING OF 20 HOLDS of what it starts with
  pub started_fits : Fit q (start_of q).config
  started_fits = rw start_sound (start_fits q s)
