-- WHAT A STEP DOES TO A CALL STACK. One step of any machine by any rule: what lies below the top frame of machine i's stack stays, and only the
-- machine's own STEP, CALL, POP1, POP2 and DELETE change its stack at all.
use Rattle.std.specs.Prelude.{ℕ, ◌<◌, ◌≡◌, refl, Bool, true, false, cond, eqb, length}
use Rattle.std.proofs.Common.{sym, ap, ◌∙◌, subst, arith, eqb-true}
use Rattle.std.proofs.Math.Option
use Rattle.std.proofs.Math.Option.{Option, none, some, some-injective}
use mathlib.Core.List.{List, ◌∷◌, ◌++◌, head-eq_of_cons-eq, tail-eq_of_cons-eq}
use Rattle.std.proofs.lemmas.Bool.{eqb-false}
use Rattle.lists.specs.Lists.{on_opt}
use Rattle.programs.specs.Program.{Program}
use Rattle.machines.specs.Config.{Frame, Pair, Local, Machine, Config}
use Rattle.machines.specs.Maps.{call_map}
use Rattle.machines.specs.Rooms.{Rooms, is_at, find, set_local, set_queue, on, fill, born, with_local, with_queue, without}
use Rattle.machines.specs.RoomLaws.{keeps_queue, each_find, find_own, find_other, find_gone, find_gone_other, find_fill}
use Rattle.rules.specs.declared.Rule.{Rule}
use Rattle.rules.specs.declared.Rule.TheVariants.{DELETE, STEP, CALL, POP1, POP2}
use Rattle.rules.specs.Rules.{Takes}

-- The call stack of a machine.
abbrev stack_in : Machine → List Frame
stack_in m = m.loc.stack

-- Machine i's call stack, the top frame first; none if it is not live.
abbrev pub stack_of : ℕ → Config → Option (List Frame)
stack_of i c = Option.map stack_in (find i c.rooms)

-- How many frames machine i's call stack has; 0 if it is not live.
abbrev pub depth : ℕ → Config → ℕ
depth i c = on_opt (stack_of i c) 0 length

-- What a step of machine j by the rule R makes of the stack f ∷ γ of machine i: γ stays below in every case but its own deletion.
pub data After (p : Program) (i j : ℕ) (f : Frame) (γ : List Frame) : Rule → Option (List Frame) → Type 0 where
  same : {R : Rule} → After p i j f γ R (some (f ∷ γ))
  stepped : (n : ℕ) → j ≡ i → After p i j f γ STEP (some (record { state = n; map = f.map } ∷ γ))
  called : (n : ℕ) → j ≡ i → After p i j f γ CALL (some (record { state = n; map = call_map p f.state f.map } ∷ f ∷ γ))
  popped1 : j ≡ i → After p i j f γ POP1 (some γ)
  popped2 : j ≡ i → After p i j f γ POP2 (some γ)
  deleted : j ≡ i → After p i j f γ DELETE none

-- Another queue of any machine changes no stack.
stack_queue : (i j : ℕ) (q : List Pair) (c : Config) → stack_of i (with_queue j q c) ≡ stack_of i c
stack_queue i j q c = rw (each_find (on j (set_queue q)) (keeps_queue j q) i c.rooms) (go (find i c.rooms))
  where
    at : (m : Machine) (b : Bool) → (cond b (set_queue q m) m).loc.stack ≡ m.loc.stack
    at m true = refl
    at m false = refl

    go : (o : Option Machine) → Option.map stack_in (Option.map (on j (set_queue q)) o) ≡ Option.map stack_in o
    go none = refl
    go (some m) = ap some (at m (is_at j m))

-- Another local part of machine i: its stack is that of the local part.
pub stack_own : (i : ℕ) (l : Local) (m : Machine) (c : Config) → find i c.rooms ≡ some m → stack_of i (with_local i l c) ≡ some l.stack
stack_own i l m c h = ap (Option.map stack_in) (find_own i (set_local l) (λ n. refl) m c.rooms h)

-- Another local part of another machine: machine i's stack is as it was.
stack_other : (i j : ℕ) (l : Local) (c : Config) → (j ≡ i → ⊥) → stack_of i (with_local j l c) ≡ stack_of i c
stack_other i j l c ne = ap (Option.map stack_in) (find_other i j (set_local l) (λ n. refl) c.rooms ne)

-- Machine i has the stack f ∷ γ, and its number has been given out already: in an accepted configuration every live number is below the next one.
-- Machine j takes a step.
module _ (p : Program) (i j w : ℕ) (c : Config) (f : Frame) (γ : List Frame) (given : i < c.next) (top : stack_of i c ≡ some (f ∷ γ)) where
  -- Machine j, which is m, gets the local part l: either it is machine i, or machine i's stack is as it was.
  changed : {R : Rule} (m : Machine) (l : Local) → find j c.rooms ≡ some m → (j ≡ i → m.loc.stack ≡ f ∷ γ → After p i j f γ R (some l.stack)) →
      After p i j f γ R (stack_of i (with_local j l c))
  changed {R} m l h own = go (eqb j i) refl
    where
      go : (b : Bool) → eqb j i ≡ b → After p i j f γ R (stack_of i (with_local j l c))
      go true b = let e = eqb-true j i b in subst (λ k. After p i j f γ R (stack_of i (with_local k l c))) (sym e)
          (rw (stack_own i l m c (rw e at h)) (own e (some-injective _ _ (sym (ap (Option.map stack_in) (rw e at h)) ∙ top))))
      go false b = rw (stack_other i j l c (eqb-false j i b), top) After.same

  -- A rule that leaves machine j's stack.
  still : {R : Rule} (m : Machine) (l : Local) → find j c.rooms ≡ some m → l.stack ≡ m.loc.stack → After p i j f γ R (stack_of i (with_local j l c))
  still m l h s = changed m l h (λ e t. rw (s ∙ t) After.same)

  -- The stack g ∷ δ of machine j is f ∷ γ if it is machine i.
  its_top : {g : Frame} {δ : List Frame} (m : Machine) → m.loc.stack ≡ g ∷ δ → m.loc.stack ≡ f ∷ γ → (g ≡ f) × (δ ≡ γ)
  its_top m e t = let u = sym e ∙ t in (head-eq_of_cons-eq u, tail-eq_of_cons-eq u)

  -- Machine j creates another, which gets the next number.
  creating : {R : Rule} (m : Machine) (l l' : Local) (rs : Rooms) → find j c.rooms ≡ some m → l.stack ≡ m.loc.stack → fill (born c l') (with_local j l c).rooms ≡ some rs →
      After p i j f γ R (Option.map stack_in (find i rs))
  creating m l l' rs h s o = rw (find_fill i (born c l') (with_local j l c).rooms rs (λ e. omega arith) o) (still m l h s)

  -- Machine j is deleted.
  ended : (b : Bool) → eqb j i ≡ b → After p i j f γ DELETE (stack_of i (without j c))
  ended true b = let e = eqb-true j i b in subst (λ k. After p i j f γ DELETE (stack_of i (without k c))) (sym e) (rw (find_gone i c.rooms) (After.deleted e))
  ended false b = rw (find_gone_other i j c.rooms (eqb-false j i b), top) After.same

  -- BELOW THE TOP EVERYTHING STAYS
  pub after_step : {R : Rule} {d : Config} → Takes p c j w R d → After p i j f γ R (stack_of i d) × (i < d.next)
  after_step (Takes.ASSIGN {m = m} a v h) = (still m _ a.found refl, given)
  after_step (Takes.NEW {m = m} {rs = rs} a v b o) = (creating m _ _ rs a.found refl o, omega arith)
  after_step (Takes.DELETE a) = (ended (eqb j i) refl, given)
  after_step (Takes.ASSERT-PASS {m = m} a v) = (still m _ a.found refl, given)
  after_step (Takes.SEQ {m = m} a) = (still m _ a.found refl, given)
  after_step (Takes.IF-THEN {m = m} a v) = (still m _ a.found refl, given)
  after_step (Takes.IF-ELSE {m = m} a v) = (still m _ a.found refl, given)
  after_step (Takes.WHILE-ITERATE {m = m} a v) = (still m _ a.found refl, given)
  after_step (Takes.WHILE-DONE {m = m} a v) = (still m _ a.found refl, given)
  after_step (Takes.SEND {m = m} {i' = i'} {q = q} a t g v h o) = (rw (stack_queue i i' q) (still m _ a.found refl), given)
  after_step (Takes.RAISE {m = m} a v h) = (still m _ a.found refl, given)
  after_step (Takes.LEAVE {m = m} a) = (still m _ a.found refl, given)
  after_step (Takes.RETURN {m = m} a) = (still m _ a.found refl, given)
  after_step (Takes.DEQUEUE {m = m} q₁ q₂ e v b h k n) = (rw (stack_queue i j (q₁ ++ q₂)) (still m _ b.found refl), given)
  after_step (Takes.STEP {m = m} {n' = n} b h) = (changed m _ b.found (λ e t. let u = its_top m b.top t in rw (u.0, u.1) (After.stepped n e)), given)
  after_step (Takes.ACTION {m = m} b h k o) = (still m _ b.found refl, given)
  after_step (Takes.CALL {m = m} {n' = n} b h k r) = (changed m _ b.found (λ e t. let u = its_top m b.top t in rw (u.0, u.1) (After.called n e)), given)
  after_step (Takes.POP1 {m = m} b h) = (changed m _ b.found (λ e t. rw (its_top m b.top t).1 (After.popped1 e)), given)
  after_step (Takes.POP2 {m = m} b) = (changed m _ b.found (λ e t. rw (its_top m b.top t).1 (After.popped2 e)), given)
