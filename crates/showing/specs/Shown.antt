-- What is shown of a configuration that is handed in. Document 01, "A configuration": "For each live machine: stack of (state, map), variables, .. queue." First 20,
-- and for one machine 19, "the chosen machine is not live".
use Rattle.std.specs.Prelude.{ℕ, ◌≡◌, refl, true, false, cond, Result, Ok, Err, List, [], ◌∷◌, map, length, replicate}
use Rattle.std.proofs.Math.Option.{none, some}
use Rattle.std.proofs.Common.{ap, ◌∙◌, arith}
use Rattle.rows.specs.Pad.{pad}
use Rattle.lists.specs.Lists.{on_opt}
use Rattle.answers.specs.declared.Answer.{Answer}
use Rattle.answers.specs.declared.Answer.TheVariants.{Done, UnableToStep, NotAccepted}
use Rattle.answers.specs.Number.{number}
use Rattle.values.specs.declared.Live.{Live}
use Rattle.programs.specs.Sizes.{LIVE, VARIABLES, QUEUE}
use Rattle.machines.specs.Config.{Frame, Machine}
use Rattle.machines.specs.Rooms.{Rooms, find, live}
use Rattle.codes.specs.Codes.{code_of}
use Rattle.tables.specs.declared.Program.{Program as Tables}
use Rattle.tables.specs.Decode.{program_of}
use Rattle.configs.specs.declared.Config.{Config as Held}
use Rattle.configs.specs.Decode.{config_of}
use Rattle.configs.specs.Encode.{pair_number}
use Rattle.handed.specs.Handed.{fit}
use Rattle.tables.specs.declared.Kind.{Kind}
use Rattle.showing.specs.declared.Living.{Living as Machines}
use Rattle.showing.specs.declared.Shown.{Shown as One}

-- THE LIVE NUMBERS SHOWN, beside the answer: how many, and the numbers by room
pub record Living : Type 0 where
  pub answer : Answer
  pub count : ℕ
  pub machines : List ℕ

-- ONE MACHINE SHOWN, beside the answer
pub record Shown : Type 0 where
  pub answer : Answer
  pub kind : Kind
  pub depth : ℕ
  pub state : ℕ
  pub variables : ℕ
  pub values : List ℕ
  pub waiting : ℕ
  pub pairs : List ℕ

-- 20 is not 0,
pub refused_20 : {T : Type 0} (a : Answer) → ◌≡◌ {A = Result T Answer} (Err NotAccepted) (Err a) → number a ≡ 0 → ⊥
refused_20 a e z =
    let q : NotAccepted ≡ a = cc in
    let k : 20 ≡ 0 = ap number q ∙ z in
    omega (arith, k)

-- nor is 19
pub refused_19 : {T : Type 0} (a : Answer) → ◌≡◌ {A = Result T Answer} (Err UnableToStep) (Err a) → number a ≡ 0 → ⊥
refused_19 a e z =
    let q : UnableToStep ≡ a = cc in
    let k : 19 ≡ 0 = ap number q ∙ z in
    omega (arith, k)

-- THE LIVE NUMBERS of the machines, by room
abbrev pub live_numbers : Rooms → List ℕ
live_numbers [] = []
live_numbers (none ∷ rs) = live_numbers rs
live_numbers (some m ∷ rs) = m.this ∷ live_numbers rs

-- they are as many as the machines left that the run program tells
pub numbers_live : (rs : Rooms) (n : ℕ) → length (live_numbers rs) ≡ live (record { rooms = rs; next = n })
numbers_live [] n = refl
numbers_live (none ∷ rs) n = omega (arith, numbers_live rs n)
numbers_live (some m ∷ rs) n = omega (arith, numbers_live rs n)

-- an answer with live numbers: how many, and the numbers, with zeros in the unused places
abbrev pub living : Answer → List ℕ → Living
living a l = record { answer = a; count = length l; machines = pad 0 LIVE l }

-- what the code hands out reads as this: 0 with the numbers, or the answer and none
abbrev pub told_living : Result Machines Answer → Living
told_living (Ok l) = record { answer = Done; count = l.count; machines = l.machines }
told_living (Err a) = living a []

-- those of what is handed in: 20 and none, or 0 and the live numbers
unfoldable pub live_of : Tables → Held → Living
live_of q c = cond (fit q c) (living Done (live_numbers (config_of (program_of q) c).rooms)) (living NotAccepted [])

-- the state on top of a stack, 0 of an empty one
abbrev pub top_state : List Frame → ℕ
top_state [] = 0
top_state (f ∷ s) = f.state

-- A MACHINE, SHOWN: its values and pairs as numbers, with zeros in the unused places
abbrev pub shown : Machine → Shown
shown m = record {
  answer = Done;
  kind = record { 0 = m.loc.kind };
  depth = length m.loc.stack;
  state = top_state m.loc.stack;
  variables = length m.loc.variables;
  values = pad 0 VARIABLES (map code_of m.loc.variables);
  waiting = length m.queue;
  pairs = pad 0 QUEUE (map pair_number m.queue);
}

-- nothing but an answer
abbrev pub answering : Answer → Shown
answering a = record {
  answer = a;
  kind = record { 0 = 0 };
  depth = 0;
  state = 0;
  variables = 0;
  values = replicate VARIABLES 0;
  waiting = 0;
  pairs = replicate QUEUE 0;
}

-- what the code hands out reads as this: 0 with the machine, or the answer alone
abbrev pub told_shown : Result One Answer → Shown
told_shown (Ok m) = record {
  answer = Done;
  kind = m.kind;
  depth = m.depth;
  state = m.state;
  variables = m.variables;
  values = m.values;
  waiting = m.waiting;
  pairs = m.pairs;
}
told_shown (Err a) = answering a

-- the machine with the live number i of what is handed in: 20, then 19, then the machine
unfoldable pub shown_of : Tables → Held → Live → Shown
shown_of q c i = cond (fit q c) (on_opt (find i.0 (config_of (program_of q) c).rooms) (answering UnableToStep) shown) (answering NotAccepted)

module _ (q : Tables) (c : Held) where
  -- 20: no live number is shown,
  pub live_unfit : fit q c ≡ false → living NotAccepted [] ≡ live_of q c
  unfolding live_of
  live_unfit e = rw e

  -- else all are
  pub live_fit : fit q c ≡ true → living Done (live_numbers (config_of (program_of q) c).rooms) ≡ live_of q c
  unfolding live_of
  live_fit e = rw e

  -- 20: no machine is shown,
  pub shown_unfit : (i : Live) → fit q c ≡ false → answering NotAccepted ≡ shown_of q c i
  unfolding shown_of
  shown_unfit i e = rw e

  -- else the one that is found
  pub shown_fit : (i : Live) → fit q c ≡ true → on_opt (find i.0 (config_of (program_of q) c).rooms) (answering UnableToStep) shown ≡ shown_of q c i
  unfolding shown_of
  shown_fit i e = rw e
