-- Two tables that are worked out of a program before its first step: `says`, three numbers for each state and event, and `places`.
use Rattle.std.specs.Prelude.{ℕ, ◌+◌, ◌-◌, ◌*◌, ◌≤◌, ◌≡◌, ◌||◌, cond, ltb, List, length, get_or, take}
use Rattle.std.proofs.Common.{le-ltb}
use Rattle.std.proofs.Math.Option.{Option}
use Rattle.lists.specs.Lists.{on_opt, at, keep, There}
use Rattle.values.specs.declared.Ty.TheVariants.{Void as void}
use Rattle.programs.specs.Sizes.{EVENTS, STATES}
use Rattle.programs.specs.Program.{Program, Variable, Move, moved, is_of}
use Rattle.index.specs.declared.Line.{Line}

-- the place of what is said of state n and event e: the step's state there, the call's at + 1, the action at + 2
abbrev pub said_at : ℕ → ℕ → ℕ
said_at n e = (n * 65 + e) * 3

-- a number for what may be there: 0 for nothing
abbrev pub or_zero : Option ℕ → ℕ
or_zero o = on_opt o 0 (λ t. t)

-- `says` holds what these steps, calls and acts say of each state and event: every place of it is one of these
pub record Said (steps calls acts : List Move) (says : List ℕ) : Type 0 where
  pub size : length says ≡ 12675
  pub step : (n e : ℕ) → n ≤ STATES → e ≤ EVENTS → get_or says (said_at n e) 0 ≡ or_zero (moved steps n e)
  pub call : (n e : ℕ) → n ≤ STATES → e ≤ EVENTS → get_or says (said_at n e + 1) 0 ≡ or_zero (moved calls n e)
  pub act : (n e : ℕ) → n ≤ STATES → e ≤ EVENTS → get_or says (said_at n e + 2) 0 ≡ or_zero (moved acts n e)

-- `says` holds Step(m, n, e), Call(m, n, e) and Action(m, n, e) of the program
abbrev pub Says : Program → List ℕ → Type 0
Says p says = Said p.steps p.calls p.acts says

-- the three numbers that stand there
abbrev pub line_in : List ℕ → ℕ → ℕ → Line
line_in says n e = record { step = get_or says (said_at n e) 0; call = get_or says (said_at n e + 1) 0; act = get_or says (said_at n e + 2) 0 }

-- what is looked up: these, and nothing for a state or an event that has no place
abbrev pub line_at : List ℕ → ℕ → ℕ → Line
line_at says n e = cond (ltb STATES n || ltb EVENTS e) (record { step = 0; call = 0; act = 0 }) (line_in says n e)

-- a state and an event that have one
pub line_here : (says : List ℕ) (n e : ℕ) → n ≤ STATES → e ≤ EVENTS → line_at says n e ≡ line_in says n e
line_here says n e h k = rw (le-ltb STATES n h, le-ltb EVENTS e k)

-- the place of number x of these variables among its kind's, from 0
abbrev pub place_in : List Variable → ℕ → ℕ
place_in variables x = length (keep (is_of (at (record { of = 0; type = void }) variables x).of) (take (x - 1) variables))

-- `places` holds the place of each of these variables, and 0 where there is none
pub record Placed (variables : List Variable) (places : List ℕ) : Type 0 where
  pub size : length places ≡ 257
  pub place : (x : ℕ) → There (length variables) x → get_or places x 0 ≡ place_in variables x
  pub none : (x : ℕ) → (There (length variables) x → ⊥) → get_or places x 0 ≡ 0

-- `places` holds the place of each of the program's variables: place p (variable_at p x).of x
abbrev pub Places : Program → List ℕ → Type 0
Places p places = Placed p.variables places
