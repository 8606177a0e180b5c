-- Which case of the definitions' act a machine is in, by the numbers that stand in its room: "In a step: 20, 19, then 13, then left to right through the statement".
use Rattle.std.specs.Prelude.{ℕ, ◌+◌, ◌-◌, ◌*◌, ◌≤◌, ◌<◌, ◌≡◌, Err}
use Rattle.std.proofs.Math.Path.{refl, ap}
use Rattle.std.proofs.Common.{sym, ◌∙◌, arith, get_or-append-add}
use Rattle.std.proofs.Math.Option.{Option, none}
use mathlib.Core.List.{List, [], ◌∷◌, ◌++◌, reverse, reverse-cons}
use Rattle.std.proofs.Math.ListN.{length, get_or}
use Rattle.std.proofs.lemmas.List.{length-reverse}
use Rattle.remaining.specs.Held.{count_is}
use Rattle.lists.specs.Lists.{on_opt}
use Rattle.rows.specs.Pad.{pad_get}
use Rattle.rows.specs.Part.{part_get}
use Rattle.answers.specs.declared.Answer.TheVariants.{StackEmpty, UnableToStep}
use Rattle.programs.specs.Program.{Program, stmt_at}
use Rattle.runs.specs.Outcome.{refused}
use Rattle.machines.specs.Config.{Frame, idle, Machine, Config}
use Rattle.machines.specs.Rooms.{find}
use Rattle.rules.specs.Act.{refuses, dequeues, does, pends, act}
use Rattle.rules.specs.Step as definition
use Rattle.configs.specs.declared.Room.{Room}
use Rattle.configs.specs.Encode.{held_code}
use Rattle.configs.specs.declared.Flat.{Flat}
use Rattle.engine.specs.Engine.{Performed}
use Rattle.rooms.specs.Standing.{Lives, lives_found, lives_taken}

-- the head of a row that is kept last part first
last_of : (s : ℕ) (r : List ℕ) → get_or (reverse (s ∷ r)) (length r) 0 ≡ s
last_of s r = ap (λ (l : List ℕ). get_or l (length r) 0) (reverse-cons s r) ∙ ap (λ (n : ℕ). get_or (reverse r ++ s ∷ []) n 0) (omega (arith, length-reverse r)) ∙ get_or-append-add (reverse r) (s ∷ []) 0 0

-- 19: the number is not live
pub step_nobody : (p : Program) (f : Flat) (c : Config) (i w : ℕ) → find i c.rooms ≡ none
    → Performed f (definition.step p c (record { machine = i; bits = w })) (Err UnableToStep) f
unfolding definition.step
step_nobody p f c i w e = rw e (refl, refl)

-- THE MACHINE m in room k
module _ (p : Program) (f : Flat) (c : Config) (k : ℕ) (m : Machine) (a : Lives p f c k m) (w : ℕ) where
  -- its step is what its act does
  pub step_act : definition.step p c (record { machine = m.this; bits = w }) ≡ definition.perform p c m.this m (act p m.this m.loc w)
  unfolding definition.step
  step_act = ap (λ (o : Option Machine). on_opt o (refused UnableToStep) (λ n. definition.perform p c m.this n (act p m.this n.loc w))) (lives_found p f c k m a)

  -- how many frames it has, and what is pending
  pub depth_is : get_or f.depths k 0 ≡ length m.loc.stack
  depth_is = ap (λ (r : Room). r.depth) (lives_taken p f c k m a)

  pub held_is : get_or f.held k 0 ≡ held_code m.loc.pending
  held_is = ap (λ (r : Room). r.held) (lives_taken p f c k m a)

  -- 13: no frame
  pub case_empty : get_or f.depths k 0 ≡ 0 → act p m.this m.loc w ≡ refuses StackEmpty
  unfolding act
  case_empty e = go m.loc.stack refl
    where
      go : (γ : List Frame) → m.loc.stack ≡ γ → act p m.this m.loc w ≡ refuses StackEmpty
      go [] q = rw q
      go (x ∷ γ) q = absurd (omega (arith, e, depth_is ∙ ap length q))

  -- A STACK, with the frame x on top
  pub record Topped (x : Frame) (γ : List Frame) : Type 0 where
    pub stack : m.loc.stack ≡ x ∷ γ

  pub case_stack : 1 ≤ get_or f.depths k 0 → (x : Frame) × ((γ : List Frame) × Topped x γ)
  case_stack h = go m.loc.stack refl
    where
      go : (γ : List Frame) → m.loc.stack ≡ γ → (x : Frame) × ((γ : List Frame) × Topped x γ)
      go [] q = absurd (omega (arith, depth_is ∙ ap length q))
      go (x ∷ γ) q = (x, (γ, record { stack = q }))

  module _ (x : Frame) (γ : List Frame) (t : Topped x γ) where
    -- A HEAD: statement s, with r behind it
    pub record Headed (s : ℕ) (r : List ℕ) : Type 0 where
      pub row : m.loc.row ≡ s ∷ r
      pub place : get_or f.parts (k * 33 + (get_or f.counts k 0 - 1)) 0 ≡ s
      pub acts : act p m.this m.loc w ≡ does p m.this m.loc w x.state x.map s r (stmt_at p s)

    pub case_head : length m.loc.row ≤ 33 → 1 ≤ get_or f.counts k 0 → (s : ℕ) × ((r : List ℕ) × Headed s r)
    unfolding act
    case_head fits h = go m.loc.row refl
      where
        go : (r : List ℕ) → m.loc.row ≡ r → (s : ℕ) × ((r : List ℕ) × Headed s r)
        go [] q = absurd (omega (arith, count_is f k m (lives_taken p f c k m a) ∙ ap length q))
        go (s ∷ r) q = (s, (r, record { row = q; place = place; acts = rw (t.stack, q) }))
          where
            n : get_or f.counts k 0 - 1 ≡ length r
            n = omega (arith, count_is f k m (lives_taken p f c k m a) ∙ ap length q)

            short : length r < 33
            short = omega (arith, fits, ap length q)

            place : get_or f.parts (k * 33 + (get_or f.counts k 0 - 1)) 0 ≡ s
            place = ap (λ (j : ℕ). get_or f.parts (k * 33 + j) 0) n ∙ sym (part_get (k * 33) 33 f.parts (length r) 0 short)
                ∙ ap (λ (o : Room). get_or o.parts (length r) 0) (lives_taken p f c k m a) ∙ pad_get 0 33 (reverse m.loc.row) (length r)
                ∙ ap (λ (l : List ℕ). get_or (reverse l) (length r) 0) q ∙ last_of s r

    -- AN EMPTY ROW
    pub case_row : get_or f.counts k 0 ≡ 0 → m.loc.row ≡ []
    case_row e = go m.loc.row refl
      where
        go : (r : List ℕ) → m.loc.row ≡ r → r ≡ []
        go [] q = refl
        go (s ∷ r) q = absurd (omega (arith, count_is f k m (lives_taken p f c k m a) ∙ ap length q))

    pub case_pends : m.loc.row ≡ [] → act p m.this m.loc w ≡ pends p m.this m.loc w x.state x.map γ m.loc.pending
    unfolding act
    case_pends e = rw (t.stack, e)

    -- nothing is pending
    pub case_idle : m.loc.row ≡ [] → m.loc.pending ≡ idle → act p m.this m.loc w ≡ dequeues
    case_idle e q = case_pends e ∙ ap (pends p m.this m.loc w x.state x.map γ) q
