-- Answers 13, 19 and 20 of a step, spelled out as document 01 words them: when each comes.
use Rattle.std.specs.Prelude.{ℕ, ◌≡◌, true, List, []}
use Rattle.std.proofs.Math.Option.{some}
use Rattle.lists.specs.Lists.{All}
use Rattle.programs.specs.Program.{Program, seq}
use Rattle.machines.specs.Config.{Frame, idle, Machine, Config}
use Rattle.machines.specs.Maps.{held_back}
use Rattle.machines.specs.Rooms.{find}
use Rattle.rules.specs.Rules.{At, Bare}

module _ (p : Program) (c : Config) (i w : ℕ) where
  -- machine i lives and its stack is empty
  abbrev pub EmptyStack : Type 0
  EmptyStack = (m : Machine) × (find i c.rooms ≡ some m) × (m.loc.stack ≡ [])

  -- machine i "has a stack, an empty row, nothing pending and nothing to dequeue"
  abbrev pub Waits : Type 0
  Waits = (m : Machine) × (f : Frame) × (γ : List Frame) × Bare c i m f γ idle × All (λ x. held_back p f.state f.map x.event ≡ true) m.queue

  -- the row of machine i begins with a seq
  abbrev pub SeqFirst : Type 0
  SeqFirst = (m : Machine) × (f : Frame) × (γ : List Frame) × (s : ℕ) × (r : List ℕ) × (a : ℕ) × (b : ℕ) × At p c i m f γ s r (seq a b)
