-- A private step commutes with a later step of another machine. What a machine does next is worked out from its own local part, so another's private
-- step changes nothing of it; and nobody but the machine itself changes its local part.
use Rattle.std.specs.Prelude.{ℕ, suc, ◌≢◌, Bool, true, false, cond, List, map, ltb}
use Rattle.std.proofs.Math.Path.{◌≡◌, refl}
use Rattle.std.proofs.Common.{sym, ap, ◌∙◌, true≢false, arith}
use Rattle.std.proofs.Math.Option
use Rattle.std.proofs.Math.Option.{Option, none, some}
use Rattle.lists.specs.Lists.{on_opt}
use Rattle.answers.specs.declared.Answer.TheVariants.{QueueFull, SendToNotLive, WrongType, NoRoom, UnableToStep}
use Rattle.programs.specs.Sizes.{SPENT}
use Rattle.programs.specs.Program.{Program}
use Rattle.machines.specs.Config.{Pair, Local, Machine, Config, Choice}
use Rattle.machines.specs.Rooms.{Rooms, find, set_local, set_queue, on, each, gone, fill, born, with_local}
use Rattle.machines.specs.RoomLaws.{keeps_local, keeps_queue, on_loc_queue, on_queue_loc, on_other, commute_queue, commute_loc, each_each, each_find, each_gone, each_fill, find_num, find_other, find_gone_other, find_fill}
use Rattle.machines.specs.Queue.{put}
use Rattle.runs.specs.Outcome.{Out, took, refused}
use Rattle.rules.specs.declared.Rule.{Rule}
use Rattle.rules.specs.declared.Rule.TheVariants.{NEW, DELETE, SEND, DEQUEUE}
use Rattle.rules.specs.Act.{Act, alone, creates, deletes, sends, dequeues, refuses, act}
use Rattle.rules.specs.Step.{takes, perform, step}
use Rattle.acceptance.specs.Accepted.{Accepted}
use Rattle.kept.specs.Kept.{find_ok}
use Rattle.meetings.specs.Meetings.{meets, own}

-- A fact of every step that an outcome holds, and its way through the tests of a step.
abbrev pub Every : {C R : Type 0} → (R → C → Type 0) → Out C R → Type 0
Every P (took r c) = P r c
Every P (refused a) = Unit {0}

module _ {C R : Type 0} (P : R → C → Type 0) where
  every_took : (o : Out C R) (r : R) (c : C) → Every P o → o ≡ took r c → P r c
  every_took o r c h e = rw e at h

  every_opt : {A : Type 0} (o : Option A) (b : Out C R) (f : A → Out C R) → Every P b → ((a : A) → o ≡ some a → Every P (f a)) → Every P (on_opt o b f)
  every_opt none b f h k = h
  every_opt (some a) b f h k = k a refl

  every_cond : (t : Bool) (x y : Out C R) → (t ≡ true → Every P x) → Every P y → Every P (cond t x y)
  every_cond true x y h k = h refl
  every_cond false x y h k = k

abbrev map_out : {C R : Type 0} → (C → C) → Out C R → Out C R
map_out f (took r c) = took r (f c)
map_out f (refused a) = refused a

-- what stays of machine i: it is there, with its local part
abbrev Stays : ℕ → Local → Rooms → Type 0
Stays i l rs = (m : Machine) × (find i rs ≡ some m) × (m.loc ≡ l)

stays_queue : (i : ℕ) (l : Local) (t : ℕ) (q : List Pair) (rs : Rooms) → Stays i l rs → Stays i l (each (on t (set_queue q)) rs)
stays_queue i l t q rs (m, f, e) = (on t (set_queue q) m, each_find (on t (set_queue q)) (keeps_queue t q) i rs ∙ rw f, on_queue_loc t q m ∙ e)

stays_loc : (i : ℕ) (l : Local) (k : ℕ) (n : Local) (rs : Rooms) → k ≢ i → Stays i l rs → Stays i l (each (on k (set_local n)) rs)
stays_loc i l k n rs d (m, f, e) = (m, each_find (on k (set_local n)) (keeps_local k n) i rs ∙ rw (f, on_other k (set_local n) m (λ p. d (sym p ∙ find_num i rs m f))), e)

stays_gone : (i : ℕ) (l : Local) (k : ℕ) (rs : Rooms) → k ≢ i → Stays i l rs → Stays i l (map (gone k) rs)
stays_gone i l k rs d (m, f, e) = (m, find_gone_other i k rs d ∙ f, e)

stays_fill : (i : ℕ) (l : Local) (n : Machine) (rs ts : Rooms) → n.this ≢ i → fill n rs ≡ some ts → Stays i l rs → Stays i l ts
stays_fill i l n rs ts d p (m, f, e) = (m, find_fill i n rs ts d p ∙ f, e)

module _ (p : Program) where
  abbrev does : Config → ℕ → Machine → Act → Out Config Rule
  does = perform p

  abbrev Step : Config → Choice → Out Config Rule
  Step = step p

  abbrev config : List (Option Machine) → ℕ → Config
  config rs n = record { rooms = rs; next = n }

  -- What another machine does is the same before and after i's local part changes.
  equiv : (i : ℕ) (l : Local) (c : Config) (k : ℕ) (m : Machine) (a : Act) → k ≢ i → c.next ≢ i → does (with_local i l c) k m a ≡ map_out (with_local i l) (does c k m a)
  equiv i l c k m (alone r n) d e = ap (λ rs. took r (config rs c.next)) (each_each (on i (set_local l)) (on k (set_local n)) c.rooms (λ m. commute_loc i l k n m d))
  equiv i l c k m (sends t (some x) n) d e = rw (each_find (on i (set_local l)) (keeps_local i l) t c.rooms) (target (find t c.rooms))
    where
      moved : (q : List Pair) → each (on t (set_queue q)) (each (on k (set_local n)) (each (on i (set_local l)) c.rooms)) ≡ each (on i (set_local l)) (each (on t (set_queue q)) (each (on k (set_local n)) c.rooms))
      moved q = ap (each (on t (set_queue q))) (each_each (on i (set_local l)) (on k (set_local n)) c.rooms (λ m. commute_loc i l k n m d))
          ∙ each_each (on i (set_local l)) (on t (set_queue q)) (each (on k (set_local n)) c.rooms) (commute_queue i l t q)

      queued : (o : Option (List Pair)) → on_opt o (refused QueueFull) (λ q. took SEND (config (each (on t (set_queue q)) (each (on k (set_local n)) (each (on i (set_local l)) c.rooms))) c.next))
          ≡ map_out (with_local i l) (on_opt o (refused QueueFull) (λ q. took SEND (config (each (on t (set_queue q)) (each (on k (set_local n)) c.rooms)) c.next)))
      queued none = refl
      queued (some q) = ap (λ rs. took SEND (config rs c.next)) (moved q)

      target : (o : Option Machine) →
          on_opt (Option.map (on i (set_local l)) o) (refused SendToNotLive) (λ n'. on_opt (put n'.queue x) (refused QueueFull) (λ q. took SEND (config (each (on t (set_queue q)) (each (on k (set_local n)) (each (on i (set_local l)) c.rooms))) c.next)))
          ≡ map_out (with_local i l) (on_opt o (refused SendToNotLive) (λ n'. on_opt (put n'.queue x) (refused QueueFull) (λ q. took SEND (config (each (on t (set_queue q)) (each (on k (set_local n)) c.rooms)) c.next))))
      target none = refl
      target (some n') = rw (on_loc_queue i l n') (queued (put n'.queue x))
  equiv i l c k m (sends t none n) d e = rw (each_find (on i (set_local l)) (keeps_local i l) t c.rooms) (target (find t c.rooms))
    where
      target : (o : Option Machine) → on_opt {B = Out Config Rule} (Option.map (on i (set_local l)) o) (refused SendToNotLive) (λ n'. refused WrongType) ≡ map_out (with_local i l) (on_opt o (refused SendToNotLive) (λ n'. refused WrongType))
      target none = refl
      target (some n') = refl
  equiv i l c k m (creates f child) d e = room (ltb c.next SPENT)
    where
      new : Machine
      new = born c child

      same : fill new (each (on k (set_local (f c.next))) (each (on i (set_local l)) c.rooms)) ≡ Option.map (each (on i (set_local l))) (fill new (each (on k (set_local (f c.next))) c.rooms))
      same = ap (fill new) (each_each (on i (set_local l)) (on k (set_local (f c.next))) c.rooms (λ m. commute_loc i l k (f c.next) m d))
          ∙ each_fill (on i (set_local l)) new (each (on k (set_local (f c.next))) c.rooms) (on_other i (set_local l) new e)

      filled : (o : Option Rooms) → on_opt (Option.map (each (on i (set_local l))) o) (refused NoRoom) (λ rs. took NEW (config rs (suc c.next)))
          ≡ map_out (with_local i l) (on_opt o (refused NoRoom) (λ rs. took NEW (config rs (suc c.next))))
      filled none = refl
      filled (some rs) = refl

      room : (b : Bool) → cond b (on_opt (fill new (each (on k (set_local (f c.next))) (each (on i (set_local l)) c.rooms))) (refused NoRoom) (λ rs. took NEW (config rs (suc c.next)))) (refused NoRoom)
          ≡ map_out (with_local i l) (cond b (on_opt (fill new (each (on k (set_local (f c.next))) c.rooms)) (refused NoRoom) (λ rs. took NEW (config rs (suc c.next)))) (refused NoRoom))
      room true = rw same (filled (fill new (each (on k (set_local (f c.next))) c.rooms)))
      room false = refl
  equiv i l c k m deletes d e = ap (λ rs. took DELETE (config rs c.next)) (each_gone (on i (set_local l)) (keeps_local i l) k c.rooms)
  equiv i l c k m dequeues d e = taken (takes p m.loc m.loc.stack m.queue)
    where
      moved : (q : List Pair) (n : Local) → each (on k (set_queue q)) (each (on k (set_local n)) (each (on i (set_local l)) c.rooms)) ≡ each (on i (set_local l)) (each (on k (set_queue q)) (each (on k (set_local n)) c.rooms))
      moved q n = ap (each (on k (set_queue q))) (each_each (on i (set_local l)) (on k (set_local n)) c.rooms (λ m. commute_loc i l k n m d))
          ∙ each_each (on i (set_local l)) (on k (set_queue q)) (each (on k (set_local n)) c.rooms) (commute_queue i l k q)

      taken : (o : Option (Local × List Pair)) → on_opt o (refused UnableToStep) (λ t. took DEQUEUE (config (each (on k (set_queue t.1)) (each (on k (set_local t.0)) (each (on i (set_local l)) c.rooms))) c.next))
          ≡ map_out (with_local i l) (on_opt o (refused UnableToStep) (λ t. took DEQUEUE (config (each (on k (set_queue t.1)) (each (on k (set_local t.0)) c.rooms)) c.next)))
      taken none = refl
      taken (some t) = ap (λ rs. took DEQUEUE (config rs c.next)) (moved t.1 t.0)
  equiv i l c k m (refuses a) d e = refl

  -- It leaves machine i and its local part where they are.
  frame : (i : ℕ) (l : Local) (c : Config) (k : ℕ) (m : Machine) (a : Act) → k ≢ i → c.next ≢ i → Stays i l c.rooms → Every (λ r d. Stays i l d.rooms) (does c k m a)
  frame i l c k m (alone r n) d e h = stays_loc i l k n c.rooms d h
  frame i l c k m (sends t (some x) n) d e h = every_opt _ (find t c.rooms) _ _ tt (λ n' _. every_opt _ (put n'.queue x) _ _ tt
      (λ q _. stays_queue i l t q (each (on k (set_local n)) c.rooms) (stays_loc i l k n c.rooms d h)))
  frame i l c k m (sends t none n) d e h = every_opt _ (find t c.rooms) _ _ tt (λ n' _. tt)
  frame i l c k m (creates f child) d e h = every_cond _ (ltb c.next SPENT) _ _ (λ _. every_opt _ (fill _ (each (on k (set_local (f c.next))) c.rooms)) _ _ tt
      (λ rs p. stays_fill i l _ (each (on k (set_local (f c.next))) c.rooms) rs e p (stays_loc i l k (f c.next) c.rooms d h))) tt
  frame i l c k m deletes d e h = stays_gone i l k c.rooms d h
  frame i l c k m dequeues d e h = every_opt _ (takes p m.loc m.loc.stack m.queue) _ _ tt
      (λ t _. stays_queue i l k t.1 (each (on k (set_local t.0)) c.rooms) (stays_loc i l k t.0 c.rooms d h))
  frame i l c k m (refuses a) d e h = tt

  -- A step that is no meeting is a private act.
  abbrev PrivateAct : Config → ℕ → Machine → Act → Type 0
  PrivateAct c k m a = Every (λ r d. meets r ≡ false → (n : Rule) × (l : Local) × (a ≡ alone n l) × (r ≡ n) × (d ≡ with_local k l c)) (does c k m a)

  private_act : (c : Config) (k : ℕ) (m : Machine) (a : Act) → PrivateAct c k m a
  private_act c k m (alone n l) = λ _. (n, l, refl, refl, refl)
  private_act c k m (sends t (some x) n) = every_opt _ (find t c.rooms) _ _ tt (λ n' _. every_opt _ (put n'.queue x) _ _ tt (λ q _ e. absurd (true≢false e)))
  private_act c k m (sends t none n) = every_opt _ (find t c.rooms) _ _ tt (λ n' _. tt)
  private_act c k m (creates f child) = every_cond _ (ltb c.next SPENT) _ _ (λ b. every_opt _ (fill _ (each (on k (set_local (f c.next))) c.rooms)) _ _ tt (λ rs _ e. absurd (true≢false e))) tt
  private_act c k m deletes = λ e. absurd (true≢false e)
  private_act c k m dequeues = every_opt _ (takes p m.loc m.loc.stack m.queue) _ _ tt (λ t _ e. absurd (true≢false e))
  private_act c k m (refuses a) = tt

  -- a step is what the chosen machine does
  stepped : (c d : Config) (x : Choice) (r : Rule) → Step c x ≡ took r d →
      (m : Machine) × (find x.machine c.rooms ≡ some m) × (does c x.machine m (act p x.machine m.loc x.bits) ≡ took r d)
  unfolding step
  stepped c d x r e = go (find x.machine c.rooms) refl e
    where
      go : (o : Option Machine) → find x.machine c.rooms ≡ o → on_opt o (refused UnableToStep) (λ m. does c x.machine m (act p x.machine m.loc x.bits)) ≡ took r d →
          (m : Machine) × (find x.machine c.rooms ≡ some m) × (does c x.machine m (act p x.machine m.loc x.bits) ≡ took r d)
      go none f e = let z : ◌≡◌ {A = ℕ} 0 1 = cc in absurd (omega arith)
      go (some m) f e = (m, f, e)

  -- and the other way
  steps_on : (c d : Config) (x : Choice) (r : Rule) (m : Machine) → find x.machine c.rooms ≡ some m →
      does c x.machine m (act p x.machine m.loc x.bits) ≡ took r d → Step c x ≡ took r d
  unfolding step
  steps_on c d x r m f e = rw f e

  -- an outcome that is a step after a change was a step before it
  unmap : (f : Config → Config) (o : Out Config Rule) (r : Rule) (d : Config) → map_out f o ≡ took r d → (c : Config) × (o ≡ took r c) × (f c ≡ d)
  unmap f (took s c) r d e = (c, ap (λ t. took t c) (cc), cc)
  unmap f (refused a) r d e = let z : ◌≡◌ {A = ℕ} 0 1 = cc in absurd (omega arith)

  pub commute : (c c₁ c₂ : Config) (x y : Choice) (r s : Rule) → Accepted p c → own x ≢ own y → meets r ≡ false → Step c x ≡ took r c₁ → Step c₁ y ≡ took s c₂ →
      (c₃ : Config) × (Step c y ≡ took s c₃) × (Step c₃ x ≡ took r c₂)
  commute c c₁ c₂ x y r s ok d quiet e₁ e₂ = first (stepped c c₁ x r e₁)
    where
      i : ℕ
      i = x.machine

      fresh : (m : Machine) → find i c.rooms ≡ some m → c.next ≢ i
      fresh m f z = let h = find_ok p c.next i c.rooms m ok.each_room f in omega (arith, h.0.high, h.1)

      third : (m : Machine) (n : Rule) (l : Local) → find i c.rooms ≡ some m → act p x.machine m.loc x.bits ≡ alone n l → r ≡ n →
          (k : Machine) → find y.machine c.rooms ≡ some k →
          (c₃ : Config) × (does c y.machine k (act p y.machine k.loc y.bits) ≡ took s c₃) × (with_local i l c₃ ≡ c₂) →
          (c₃ : Config) × (Step c y ≡ took s c₃) × (Step c₃ x ≡ took r c₂)
      third m n l f a q k fk (c₃, o, u) = (c₃, steps_on c c₃ y s k fk o, last (every_took _ (does c y.machine k (act p y.machine k.loc y.bits)) s c₃ (frame i m.loc c y.machine k (act p y.machine k.loc y.bits) (λ z. d (sym z)) (λ z. fresh m f z) (m, f, refl)) o))
        where
          last : Stays i m.loc c₃.rooms → Step c₃ x ≡ took r c₂
          last (m', f', e') = steps_on c₃ c₂ x r m' f' (rw (e', a, q) (ap (took n) u))

      second : (m : Machine) (n : Rule) (l : Local) → find i c.rooms ≡ some m → act p x.machine m.loc x.bits ≡ alone n l → r ≡ n → c₁ ≡ with_local i l c →
          (k : Machine) × (find y.machine c₁.rooms ≡ some k) × (does c₁ y.machine k (act p y.machine k.loc y.bits) ≡ took s c₂) →
          (c₃ : Config) × (Step c y ≡ took s c₃) × (Step c₃ x ≡ took r c₂)
      second m n l f a q u (k, fk, o) = third m n l f a q k (sym (find_other y.machine i (set_local l) (λ m. refl) c.rooms d) ∙ rw u at fk)
          (unmap (with_local i l) _ s c₂ (sym (equiv i l c y.machine k (act p y.machine k.loc y.bits) (λ z. d (sym z)) (λ z. fresh m f z)) ∙ rw u at o))

      first : (m : Machine) × (find i c.rooms ≡ some m) × (does c i m (act p x.machine m.loc x.bits) ≡ took r c₁) →
          (c₃ : Config) × (Step c y ≡ took s c₃) × (Step c₃ x ≡ took r c₂)
      first (m, f, o) = let t = every_took _ (does c i m (act p x.machine m.loc x.bits)) r c₁ (private_act c i m (act p x.machine m.loc x.bits)) o quiet in
          second m t.0 t.1 f t.2 t.3 t.4 (stepped c₁ c₂ y s e₂)
