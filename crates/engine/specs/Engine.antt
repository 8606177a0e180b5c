-- The machine that stands in a room of the flat lists, written as crates/configs/specs/Encode.antt writes it; and what a rule function leaves of the lists,
-- by the act or the outcome that the definitions have.
use Rattle.std.specs.Prelude.{ℕ, ◌≤◌, ◌<◌, ◌≡◌, List, Ok, Err}
use Rattle.std.proofs.Math.Option.{Option, none, some}
use Rattle.answers.specs.declared.Answer.TheVariants.{UnableToStep}
use Rattle.programs.specs.Sizes.{SPENT}
use Rattle.programs.specs.Program.{Program}
use Rattle.runs.specs.Outcome.{took, refused}
use Rattle.machines.specs.Config.{Pair, Local, Machine}
use Rattle.machines.specs.Rooms.{set_local}
use Rattle.rules.specs.declared.Rule.TheVariants.{DEQUEUE}
use Rattle.rules.specs.Act.{Act, alone, creates, deletes, sends, dequeues, refuses}
use Rattle.rules.specs.Step as definition
use Rattle.acceptance.specs.Accepted.{MachineOk}
use Rattle.configs.specs.Encode.{taken, written}
use Rattle.configs.specs.declared.Flat.{Flat}
use Rattle.configs.specs.Flat.{Sized, room_at, held}
use Rattle.engine.specs.Outcome.{Outcome}

-- THE MACHINE m STANDS IN ROOM k of the lists f, accepted
pub record Stands (p : Program) (f : Flat) (k : ℕ) (m : Machine) : Type 0 where
  pub sized : Sized f
  pub room : k < 32
  pub holds : room_at f k ≡ taken m
  pub spent : f.next ≤ SPENT
  pub ok : MachineOk p f.next m

-- THE LISTS g ARE f BUT FOR ROOM k, where the machine m stands
pub record Changed (f : Flat) (k : ℕ) (m : Machine) (g : Flat) : Type 0 where
  pub sized : Sized g
  pub holds : room_at g k ≡ taken m
  pub others : (j : ℕ) → j < 32 → (j ≡ k → ⊥) → room_at g j ≡ room_at f j
  pub next : g.next ≡ f.next

-- WHAT THE ACT of the machine m in room k leaves, where it touches nothing else: the machine's local part after it; on a refusal all as it was.
-- The four acts that touch more are none of these functions'.
abbrev pub Acted : Flat → ℕ → Machine → Act → Outcome → Flat → Type 0
Acted f k m (alone R l) r g = (r ≡ Ok R) × Changed f k (set_local l m) g
Acted f k m (refuses a) r g = (r ≡ Err a) × (g ≡ f)
Acted f k m (creates h l) r g = ⊥
Acted f k m deletes r g = ⊥
Acted f k m (sends t x l) r g = ⊥
Acted f k m dequeues r g = ⊥

-- WHAT DEQUEUE LEAVES: the local part after it and the queue that is left; 19 and all as it was where every pair is held back
abbrev pub Dequeued : Flat → ℕ → Machine → Option (Local × List Pair) → Outcome → Flat → Type 0
Dequeued f k m none r g = (r ≡ Err UnableToStep) × (g ≡ f)
Dequeued f k m (some t) r g = (r ≡ Ok DEQUEUE) × Changed f k (record { this = m.this; loc = t.0; queue = t.1 }) g

-- WHAT A STEP LEAVES: the configuration after it, written; on a refusal all as it was
abbrev pub Performed : Flat → definition.Outcome → Outcome → Flat → Type 0
Performed f (took R c) r g = (r ≡ Ok R) × (Sized g × (held g ≡ written c))
Performed f (refused a) r g = (r ≡ Err a) × (g ≡ f)
