-- What the public functions add to step, run and regroup. Document 01, "Answers": "In a step: 20, 19, then 13 ..."; "20 and 3 stop it before the first
-- choice, place 0"; "A lent list over 4,096 choices is answer 3, after 20, for run and regroup. Regroup gives 20, 3, 21, 22 in that order and on refusal
-- writes nothing; on 0 it writes only the list's length. It never changes the configuration."
use Rattle.std.specs.Prelude.{ℕ, Bool, cond, ◌&&◌, List, [], leb, length}
use Rattle.std.proofs.Math.Option.{Option, none, some}
use Rattle.answers.specs.declared.Answer.{Answer}
use Rattle.answers.specs.declared.Answer.TheVariants.{Done, OutOfRange, NotAccepted, BufferTooShort, TookNoStep}
use Rattle.programs.specs.Sizes.{CHOICES}
use Rattle.programs.specs.Program.{Program}
use Rattle.machines.specs.Config.{Config, Choice}
use Rattle.runs.specs.Outcome.{refused}
use Rattle.runs.specs.Run.{Ended, run, ruled, place}
use Rattle.rules.specs.declared.Rule.{Rule}
use Rattle.rules.specs.Step.{Outcome, step}
use Rattle.soundness.specs.Sound.{sound}
use Rattle.acceptance.specs.Decide.{accepted}
use Rattle.meetings.specs.Meetings.{regroup}

-- 20: "the configuration handed in is not one, or the program breaks 3 to 9, has a void variable or a list not ascending"
unfoldable pub fit : Program → Config → Bool
fit p c = sound p && accepted p c

-- THE STEP, as it is lent to anybody
unfoldable pub public_step : Program → Config → Choice → Outcome
public_step p c x = cond (fit p c) (step p c x) (refused NotAccepted)

-- a run's end with its place: "a run stops there with the choice's place, counted from 1"; 0 where it was not stopped by a choice
pub record Ran : Type 0 where
  pub config : Config
  pub answer : Answer
  pub place : ℕ
  pub steps : ℕ

-- of a run that was begun
abbrev pub ran : Ended Config → Ran
ran e = record { config = e.config; answer = e.answer; place = place e; steps = e.steps }

-- of a run that was stopped before its first choice
abbrev pub stopped : Config → Answer → Ran
stopped c a = record { config = c; answer = a; place = 0; steps = 0 }

-- THE RUN: 20, then 3, then choice by choice
unfoldable pub public_run : Program → Config → List Choice → Ran
public_run p c l = cond (fit p c) (cond (leb (length l) CHOICES) (ran (run (step p) c l)) (stopped c OutOfRange)) (stopped c NotAccepted)

-- the rules of the steps that it takes, in order
unfoldable pub public_rules : Program → Config → List Choice → List Rule
public_rules p c l = cond (fit p c) (cond (leb (length l) CHOICES) (ruled (step p) c l) []) []

-- the answer, and what is written from the front of the buffer; the rest of the buffer stays as it was
pub record Wrote : Type 0 where
  pub answer : Answer
  pub list : List Choice

-- "on refusal writes nothing"
abbrev pub wrote_nothing : Answer → Wrote
wrote_nothing a = record { answer = a; list = [] }

-- what is written of the regrouped list: 22 where there is none
abbrev pub listed : Option (List Choice) → Wrote
listed none = wrote_nothing TookNoStep
listed (some m) = record { answer = Done; list = m }

-- `room` is the length of the output buffer
unfoldable pub public_regroup : Program → Config → List Choice → ℕ → Wrote
public_regroup p c l room = cond (fit p c)
    (cond (leb (length l) CHOICES)
    (cond (leb (length l) room) (listed (regroup p c l)) (wrote_nothing BufferTooShort))
    (wrote_nothing OutOfRange))
    (wrote_nothing NotAccepted)
