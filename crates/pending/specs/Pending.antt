-- What the rule functions of an empty row are asked: a machine that stands in room k with a frame on top of its stack and no part in its row, and tables that
-- say what its program says.
use Rattle.std.specs.Prelude.{ℕ, ◌≡◌, List, [], ◌∷◌, length}
use Rattle.values.specs.declared.Value.{Value}
use Rattle.programs.specs.Program.{Program}
use Rattle.soundness.specs.Sound.{Sound}
use Rattle.machines.specs.Config.{Frame, raising, returning, Machine}
use Rattle.tables.specs.Decode.{actions_of, states_of}
use Rattle.maps.specs.Maps.{Tables}
use Rattle.configs.specs.declared.Flat.{Flat}
use Rattle.configs.specs.Flat.{flat}
use Rattle.parts.specs.Parts.{Said}
use Rattle.rules.specs.Act.{Act, stepping, calling, acting, popping, pends}
use Rattle.engine.specs.Outcome.{Outcome}
use Rattle.engine.specs.Engine.{Stands, Acted}

-- THE LISTS that none of these rules touches
pub record Others : Type 0 where
  pub ids : List ℕ
  pub kinds : List ℕ
  pub values : List ℕ
  pub waiting : List ℕ
  pub pairs : List ℕ
  pub next : ℕ

-- all lists
abbrev pub among : Others → List ℕ → List ℕ → List ℕ → List ℕ → List ℕ → List ℕ → Flat
among o depths states maps counts parts held = flat o.ids o.kinds depths states maps o.values counts parts held o.waiting o.pairs o.next

-- THE MACHINE in room k of the lists f: accepted, with `top` on its stack, and its row empty
pub record Bare (p : Program) (f : Flat) (k : ℕ) (m : Machine) (top : Frame) (below : List Frame) : Type 0 where
  pub sound : Sound p
  pub stands : Stands p f k m
  pub stack_is : m.loc.stack ≡ top ∷ below
  pub row_is : m.loc.row ≡ []

-- the machine of the lists that are lent, among others
pub record Here (k : ℕ) (depths states maps counts parts held : List ℕ) : Type 0 where
  pub program : Program
  pub others : Others
  pub machine : Machine
  pub top : Frame
  pub below : List Frame
  pub bare : Bare program (among others depths states maps counts parts held) k machine top below

-- THE TABLES
-- the entry statements of the states
pub record Entries (p : Program) (kinds entries : List ℕ) : Type 0 where
  pub exits : List ℕ
  pub flags : List ℕ
  pub states : p.states ≡ states_of kinds entries exits flags

-- EACH RULE
-- STEP
pub record StepAsked (stmts kinds entries : List ℕ) (k : ℕ) (depths states counts parts held : List ℕ) : Type 0 where
  pub maps : List ℕ
  pub here : Here k depths states maps counts parts held
  pub said : Said stmts here.program
  pub entered : Entries here.program kinds entries

-- CALL
pub record CallAsked (says stmts kinds entries flags : List ℕ) (k events : ℕ) (depths states maps counts parts held : List ℕ) : Type 0 where
  pub here : Here k depths states maps counts parts held
  pub said : Said stmts here.program
  pub exits : List ℕ
  pub tables : Tables here.program says kinds entries exits flags
  pub counted : length here.program.events ≡ events

-- ACTION
pub record ActionAsked (stmts owners bodies : List ℕ) (k : ℕ) (counts parts held : List ℕ) : Type 0 where
  pub depths : List ℕ
  pub states : List ℕ
  pub maps : List ℕ
  pub here : Here k depths states maps counts parts held
  pub said : Said stmts here.program
  pub actions : here.program.actions ≡ actions_of owners bodies

-- POP1: a raise is pending
pub record RaiseAsked (k : ℕ) (depths states maps : List ℕ) : Type 0 where
  pub counts : List ℕ
  pub parts : List ℕ
  pub held : List ℕ
  pub here : Here k depths states maps counts parts held
  pub event : ℕ
  pub value : Value
  pub pends : here.machine.loc.pending ≡ raising event value

-- POP2
pub record ReturnAsked (k : ℕ) (depths states maps held : List ℕ) : Type 0 where
  pub counts : List ℕ
  pub parts : List ℕ
  pub here : Here k depths states maps counts parts held

-- WHAT EACH LEAVES: the lists after the act of the machine
abbrev pub Left : {k : ℕ} {depths states maps counts parts held : List ℕ} → Here k depths states maps counts parts held → Act → Outcome
    → List ℕ → List ℕ → List ℕ → List ℕ → List ℕ → List ℕ → Type 0
Left {k} {depths} {states} {maps} {counts} {parts} {held} h act r depths' states' maps' counts' parts' held' =
    Acted (among h.others depths states maps counts parts held) k h.machine act r (among h.others depths' states' maps' counts' parts' held')

-- STEP, to state n
abbrev pub StepLeaves : List ℕ → List ℕ → List ℕ → ℕ → ℕ → List ℕ → List ℕ → List ℕ → List ℕ → List ℕ → Outcome → List ℕ → List ℕ → List ℕ → List ℕ → Type 0
StepLeaves stmts kinds entries k n depths states counts parts held r states' counts' parts' held' =
    (a : StepAsked stmts kinds entries k depths states counts parts held) (w : ℕ)
    → Left a.here (stepping a.here.program a.here.machine.this a.here.machine.loc w a.here.top.map a.here.below n) r depths states' a.maps counts' parts' held'

-- CALL, of state n
abbrev pub CallLeaves : List ℕ → List ℕ → List ℕ → List ℕ → List ℕ → ℕ → ℕ → ℕ → List ℕ → List ℕ → List ℕ → List ℕ → List ℕ → List ℕ → Outcome
    → List ℕ → List ℕ → List ℕ → List ℕ → List ℕ → List ℕ → Type 0
CallLeaves says stmts kinds entries flags k n events depths states maps counts parts held r depths' states' maps' counts' parts' held' =
    (a : CallAsked says stmts kinds entries flags k events depths states maps counts parts held) (w : ℕ)
    → Left a.here (calling a.here.program a.here.machine.this a.here.machine.loc w a.here.top.state a.here.top.map a.here.below n) r
    depths' states' maps' counts' parts' held'

-- ACTION x
abbrev pub ActionLeaves : List ℕ → List ℕ → List ℕ → ℕ → ℕ → List ℕ → List ℕ → List ℕ → Outcome → List ℕ → List ℕ → List ℕ → Type 0
ActionLeaves stmts owners bodies k x counts parts held r counts' parts' held' =
    (a : ActionAsked stmts owners bodies k counts parts held) (w : ℕ)
    → Left a.here (acting a.here.program a.here.machine.this a.here.machine.loc w x) r a.depths a.states a.maps counts' parts' held'

-- POP1
abbrev pub RaiseLeaves : ℕ → List ℕ → List ℕ → List ℕ → Outcome → List ℕ → List ℕ → List ℕ → Type 0
RaiseLeaves k depths states maps r depths' states' maps' =
    (a : RaiseAsked k depths states maps) (w : ℕ)
    → Left a.here (popping a.here.program a.here.machine.this a.here.machine.loc w a.here.below a.event a.value) r depths' states' maps' a.counts a.parts a.held

-- POP2
abbrev pub ReturnLeaves : ℕ → List ℕ → List ℕ → List ℕ → List ℕ → Outcome → List ℕ → List ℕ → List ℕ → List ℕ → Type 0
ReturnLeaves k depths states maps held r depths' states' maps' held' =
    (a : ReturnAsked k depths states maps held) (w : ℕ)
    → Left a.here (pends a.here.program a.here.machine.this a.here.machine.loc w a.here.top.state a.here.top.map a.here.below returning) r
    depths' states' maps' a.counts a.parts held'
