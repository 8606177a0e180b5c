-- What the engine's step is asked of the arrays that it is lent: the tables are a sound program, and the flat lists hold an accepted configuration of it.
use Rattle.std.specs.Prelude.{ℕ, ◌+◌, ◌-◌, ◌*◌, ◌<◌, ◌≡◌, List, ◌∷◌, get_or}
use Rattle.programs.specs.Program.{Program}
use Rattle.soundness.specs.Sound.{Sound}
use Rattle.machines.specs.Config.{Frame, Machine, Config}
use Rattle.acceptance.specs.Accepted.{Accepted}
use Rattle.tables.specs.declared.Program.{Program as Tables}
use Rattle.tables.specs.Decode as decode
use Rattle.index.specs.declared.Index.{Index}
use Rattle.index.specs.Index.{Says, Places}
use Rattle.configs.specs.Encode.{written}
use Rattle.configs.specs.declared.Flat.{Flat}
use Rattle.configs.specs.Flat.{Sized, held}
use Rattle.rooms.specs.Standing.{Lives}

-- THE PROGRAM p is the lent tables'
pub record Tabled (exprs stmts inits types owners vartypes doers bodies kinds entries exits defers says places : List ℕ) (p : Program) : Type 0 where
  pub sound : Sound p
  pub exprs_are : p.exprs ≡ decode.exprs_of exprs
  pub stmts_are : p.stmts ≡ decode.stmts_of stmts inits
  pub events_are : p.events ≡ decode.events_of types
  pub variables_are : p.variables ≡ decode.variables_of owners vartypes
  pub actions_are : p.actions ≡ decode.actions_of doers bodies
  pub states_are : p.states ≡ decode.states_of kinds entries exits defers
  pub told : Says p says
  pub placed : Places p places

-- THE LISTS f hold an accepted configuration
pub record StepAsked (exprs stmts inits types owners vartypes doers bodies kinds entries exits defers says places : List ℕ) (f : Flat) (w : ℕ) : Type 0 where
  pub p : Program
  pub tabled : Tabled exprs stmts inits types owners vartypes doers bodies kinds entries exits defers says places p
  pub c : Config
  pub sized : Sized f
  pub holds : held f ≡ written c
  pub accepted : Accepted p c
  pub bits : w < 256

-- a machine with a frame on top of its stack stands in room k
pub record RoomAsked (exprs stmts inits types owners vartypes doers bodies kinds entries exits defers says places : List ℕ) (f : Flat) (k w : ℕ) : Type 0 where
  pub step : StepAsked exprs stmts inits types owners vartypes doers bodies kinds entries exits defers says places f w
  pub m : Machine
  pub lives : Lives step.p f step.c k m
  pub top : Frame
  pub below : List Frame
  pub stack : m.loc.stack ≡ top ∷ below

-- and its row has a head
pub record HeadAsked (exprs stmts inits types owners vartypes doers bodies kinds entries exits defers says places : List ℕ) (f : Flat) (k w : ℕ) : Type 0 where
  pub room : RoomAsked exprs stmts inits types owners vartypes doers bodies kinds entries exits defers says places f k w
  pub s : ℕ
  pub r : List ℕ
  pub row : room.m.loc.row ≡ s ∷ r
  pub place : get_or f.parts (k * 33 + (get_or f.counts k 0 - 1)) 0 ≡ s

-- THE SAME of the program, what is looked up of it, and the configuration, each lent whole
abbrev pub TabledBy : Tables → Index → Program → Type 0
TabledBy q x p = Tabled q.exprs q.stmts q.inits q.event_types q.variable_of q.variable_type q.action_of q.action_body q.state_of q.state_entry q.state_exit q.defers x.says x.places p

abbrev pub StepAskedOf : Tables → Index → Flat → ℕ → Type 0
StepAskedOf q x f w = StepAsked q.exprs q.stmts q.inits q.event_types q.variable_of q.variable_type q.action_of q.action_body q.state_of q.state_entry q.state_exit q.defers x.says x.places f w

abbrev pub HeadAskedOf : Tables → Index → Flat → ℕ → ℕ → Type 0
HeadAskedOf q x f k w = HeadAsked q.exprs q.stmts q.inits q.event_types q.variable_of q.variable_type q.action_of q.action_body q.state_of q.state_entry q.state_exit q.defers x.says x.places f k w
