-- ACCEPTANCE IS KEPT BY EVERY STEP, and the start configuration is accepted.
use Prim.Native.Nat.{ℕ, zero, suc, ◌≤◌, ◌<◌}
use Rattle.std.specs.Prelude.{◌≡◌, Bool, true, false, cond, ◌||◌, List, [], ◌∷◌, ◌++◌, map, ltb, length, replicate}
use Rattle.std.proofs.Math.Path.{refl}
use Rattle.std.proofs.Common.{ap, ◌∙◌, subst, arith, eqb-true, ne_eqb, ltb-true, length-append}
use Rattle.std.proofs.Math.Option
use Rattle.std.proofs.Math.Option.{Option, none, some, none-ne-some, some-injective}
use Rattle.std.proofs.lemmas.List.{length-map}
use Rattle.std.proofs.Math.Logic.{dite}
use Rattle.std.proofs.Math.Decide.{ℕ_discrete}
use Rattle.lists.specs.Lists.{on_opt, All}
use Rattle.lists.specs.Facts.{All-append, or_none}
use Rattle.answers.specs.declared.Answer.TheVariants.{NoRoom, QueueFull, SendToNotLive, UnableToStep, WrongType}
use Rattle.programs.specs.Sizes.{QUEUE, SPENT}
use Rattle.programs.specs.Program.{Program, variables_of}
use Rattle.runs.specs.Outcome.{took, refused, on_out}
use Rattle.runs.specs.Run.{later, run}
use Rattle.machines.specs.Config.{Frame, Pair, Local, Machine, Config, Choice, Reply}
use Rattle.machines.specs.Locals.{blank}
use Rattle.machines.specs.Rooms.{Rooms, is_at, find, set_local, set_queue, on, each, gone, fill, born, with_local, with_queue}
use Rattle.machines.specs.Queue.{same, waits, put, pull}
use Rattle.machines.specs.Equal.{same_sym}
use Rattle.machines.specs.RoomLaws.{Keeps, keeps_local, keeps_queue, each_find, find_gone, find_gone_other, find_fill}
use Rattle.rules.specs.declared.Rule.{Rule}
use Rattle.rules.specs.Act.{Act, alone, creates, deletes, sends, dequeues, refuses, act}
use Rattle.rules.specs.Step.{Outcome, taken, takes, perform, step, start_config}
use Rattle.rules.specs.Match.{Each, First, pulled}
use Rattle.soundness.specs.Founded.{Founded}
use Rattle.acceptance.specs.Accepted.{PairOk, FrameOk, LocalOk, NoneTwice, QueueOk, MachineOk, RoomOk, Distinct, Accepted}
use Rattle.kept.specs.KeptValue.{blank_typed, machine_more}
use Rattle.kept.specs.KeptAct.{raised_ok, created_ok, ActOk, act_ok}

-- ⊙ AND QUEUES
waits_append : (x : Pair) (q r : List Pair) → waits x (q ++ r) ≡ waits x q || waits x r
waits_append x [] r = refl
waits_append x (y ∷ q) r = go (same x y) (waits_append x q r)
  where
    go : (b : Bool) → waits x (q ++ r) ≡ waits x q || waits x r → b || waits x (q ++ r) ≡ b || waits x q || waits x r
    go true h = refl
    go false h = h

once_snoc : (x : Pair) (q : List Pair) → waits x q ≡ false → NoneTwice q → NoneTwice (q ++ x ∷ [])
once_snoc x [] e h = (refl, tt)
once_snoc x (y ∷ q) e h = let n = or_none (same x y) (waits x q) e in (waits_append y q (x ∷ []) ∙ rw (h.0, same_sym y x, n.0), once_snoc x q n.1 h.1)

once_split : (q : List Pair) (x : Pair) (r : List Pair) → NoneTwice (q ++ x ∷ r) → NoneTwice (q ++ r)
once_split [] x r h = h.1
once_split (y ∷ q) x r h = (fewer (rw (waits_append y q (x ∷ r)) at h.0), once_split q x r h.1)
  where
    fewer : waits y q || (same y x || waits y r) ≡ false → waits y (q ++ r) ≡ false
    fewer e = let n = or_none (waits y q) _ e in waits_append y q r ∙ rw (n.0, (or_none (same y x) (waits y r) n.1).1)

All-split : (P : Pair → Type 0) (q : List Pair) (x : Pair) (r : List Pair) → All P (q ++ x ∷ r) → P x × All P (q ++ r)
All-split P [] x r h = (h.0, h.1)
All-split P (y ∷ q) x r h = let t = All-split P q x r h.1 in (t.0, (h.0, t.1))

module _ (p : Program) (next : ℕ) where
  put_ok : (q : List Pair) (x : Pair) (r : List Pair) → QueueOk p next q → PairOk p next x → put q x ≡ some r → QueueOk p next r
  put_ok q x r h o e = go (waits x q) refl e
    where
      room : (b : Bool) → ltb (length q) QUEUE ≡ b → waits x q ≡ false → cond b (some (q ++ x ∷ [])) none ≡ some r → QueueOk p next r
      room true b w e = rw (← some-injective _ _ e) (record {
        size = omega (arith, length-append q (x ∷ []), ltb-true (length q) QUEUE b);
        pairs = All-append (PairOk p next) q (x ∷ []) h.pairs (o, tt);
        once = once_snoc x q w h.once;
      })
      room false b w e = absurd (none-ne-some _ e)

      go : (b : Bool) → waits x q ≡ b → cond b (some q) (cond (ltb (length q) QUEUE) (some (q ++ x ∷ [])) none) ≡ some r → QueueOk p next r
      go true w e = rw (← some-injective _ _ e) h
      go false w e = room (ltb (length q) QUEUE) refl w e

  first_ok : (n : ℕ) (α : List Reply) (q : List Pair) (x : Pair) (r : List Pair) → First p n α q x r → QueueOk p next q → PairOk p next x × QueueOk p next r
  first_ok n α q x r f h = rw f.left (
    t.0,
    record {
      size = omega (arith, length-append f.q₁ f.q₂, length-append f.q₁ (x ∷ f.q₂), ap length f.whole, h.size);
      pairs = t.1;
      once = once_split f.q₁ x f.q₂ (subst NoneTwice f.whole h.once);
    },
  )
    where
      t : PairOk p next x × All (PairOk p next) (f.q₁ ++ f.q₂)
      t = All-split (PairOk p next) f.q₁ x f.q₂ (subst (All (PairOk p next)) f.whole h.pairs)

-- ROOMS
pub distinct_each : (g : Machine → Machine) → Keeps g → (rs : Rooms) → Distinct rs → Distinct (each g rs)
distinct_each g k [] h = tt
distinct_each g k (none ∷ rs) h = distinct_each g k rs h
distinct_each g k (some m ∷ rs) h = (ap (λ n. find n (each g rs)) (k m) ∙ each_find g k m.this rs ∙ rw h.0, distinct_each g k rs h.1)

-- a machine that is not found is not found after a deletion
still_none : (i j : ℕ) (rs : Rooms) → find j rs ≡ none → find j (map (gone i) rs) ≡ none
still_none i j rs h = dite (ℕ_discrete i j) (λ e. rw e (find_gone j rs)) (λ e. find_gone_other j i rs e ∙ h)

distinct_gone : (i : ℕ) (rs : Rooms) → Distinct rs → Distinct (map (gone i) rs)
distinct_gone i [] h = tt
distinct_gone i (none ∷ rs) h = distinct_gone i rs h
distinct_gone i (some m ∷ rs) h = go (is_at i m) (distinct_gone i rs h.1)
  where
    go : (b : Bool) → Distinct (map (gone i) rs) → Distinct (cond b none (some m) ∷ map (gone i) rs)
    go true d = d
    go false d = (still_none i m.this rs h.0, d)

-- a new machine in the lowest free room
module _ (P : Option Machine → Type 0) where
  fill_all : (m : Machine) (rs ts : Rooms) → P (some m) → fill m rs ≡ some ts → All P rs → All P ts
  fill_all m [] ts o e h = absurd (none-ne-some _ e)
  fill_all m (none ∷ rs) ts o e h = rw (← some-injective _ _ e) (o, h.1)
  fill_all m (some n ∷ rs) ts o e h = go (fill m rs) refl (λ us q. fill_all m rs us o q h.1) e
    where
      go : (x : Option Rooms) → fill m rs ≡ x → ((us : Rooms) → fill m rs ≡ some us → All P us) → Option.map (λ us. some n ∷ us) x ≡ some ts → All P ts
      go none q ih e = absurd (none-ne-some _ e)
      go (some us) q ih e = rw (← some-injective _ _ e) (h.0, ih us q)

fill_length : (m : Machine) (rs ts : Rooms) → fill m rs ≡ some ts → length ts ≡ length rs
fill_length m [] ts e = absurd (none-ne-some _ e)
fill_length m (none ∷ rs) ts e = rw (← some-injective _ _ e)
fill_length m (some n ∷ rs) ts e = go (fill m rs) refl (fill_length m rs) e
  where
    go : (x : Option Rooms) → fill m rs ≡ x → ((us : Rooms) → fill m rs ≡ some us → length us ≡ length rs) → Option.map (λ us. some n ∷ us) x ≡ some ts → length ts ≡ suc (length rs)
    go none q ih e = absurd (none-ne-some _ e)
    go (some us) q ih e = rw (← some-injective _ _ e) (ap suc (ih us q))

-- live numbers below next
abbrev Low : ℕ → Option Machine → Type 0
Low next none = Unit {0}
Low next (some m) = m.this < next

low_rooms : (p : Program) (next : ℕ) (g : Machine → Machine) → Keeps g → (rs : Rooms) → All (RoomOk p next) rs → All (Low next) (each g rs)
low_rooms p next g k [] h = tt
low_rooms p next g k (none ∷ rs) h = (tt, low_rooms p next g k rs h.1)
low_rooms p next g k (some m ∷ rs) h = (rw (k m) h.0.high, low_rooms p next g k rs h.1)

low_none : (next : ℕ) (rs : Rooms) → All (Low next) rs → find next rs ≡ none
low_none next [] h = refl
low_none next (none ∷ rs) h = low_none next rs h.1
low_none next (some m ∷ rs) h = let e = ne_eqb m.this next (λ q. omega (arith, h.0)) in rw e (low_none next rs h.1)

distinct_fill : (next : ℕ) (m : Machine) (rs ts : Rooms) → m.this ≡ next → All (Low next) rs → fill m rs ≡ some ts → Distinct rs → Distinct ts
distinct_fill next m [] ts t a e h = absurd (none-ne-some _ e)
distinct_fill next m (none ∷ rs) ts t a e h = rw (← some-injective _ _ e) (ap (λ n. find n rs) t ∙ low_none next rs a.1, h)
distinct_fill next m (some n ∷ rs) ts t a e h = go (fill m rs) refl (λ us q. distinct_fill next m rs us t a.1 q h.1) e
  where
    go : (x : Option Rooms) → fill m rs ≡ x → ((us : Rooms) → fill m rs ≡ some us → Distinct us) → Option.map (λ us. some n ∷ us) x ≡ some ts → Distinct ts
    go none q ih e = absurd (none-ne-some _ e)
    go (some us) q ih e = rw (← some-injective _ _ e) (find_fill n.this m rs us (λ z. omega (arith, a.0)) q ∙ h.0, ih us q)

module _ (p : Program) (next : ℕ) where
  -- every machine that g does not change stays, and what it makes of machine i is accepted
  each_ok : (i : ℕ) (f : Machine → Machine) (rs : Rooms) → ((m : Machine) → m.this ≡ i → MachineOk p next m → MachineOk p next (f m)) → All (RoomOk p next) rs → All (RoomOk p next) (each (on i f) rs)
  each_ok i f [] k h = tt
  each_ok i f (none ∷ rs) k h = (tt, each_ok i f rs k h.1)
  each_ok i f (some m ∷ rs) k h = (go (is_at i m) refl, each_ok i f rs k h.1)
    where
      go : (b : Bool) → is_at i m ≡ b → MachineOk p next (cond b (f m) m)
      go true e = k m (eqb-true m.this i e) h.0
      go false e = h.0

  gone_ok : (i : ℕ) (rs : Rooms) → All (RoomOk p next) rs → All (RoomOk p next) (map (gone i) rs)
  gone_ok i [] h = tt
  gone_ok i (none ∷ rs) h = (tt, gone_ok i rs h.1)
  gone_ok i (some m ∷ rs) h = (go (is_at i m), gone_ok i rs h.1)
    where
      go : (b : Bool) → RoomOk p next (cond b none (some m))
      go true = tt
      go false = h.0

  rooms_more : (rs : Rooms) → All (RoomOk p next) rs → All (RoomOk p (suc next)) rs
  rooms_more [] h = tt
  rooms_more (none ∷ rs) h = (tt, rooms_more rs h.1)
  rooms_more (some m ∷ rs) h = (machine_more p next m h.0, rooms_more rs h.1)

  pub find_ok : (i : ℕ) (rs : Rooms) (m : Machine) → All (RoomOk p next) rs → find i rs ≡ some m → MachineOk p next m × (m.this ≡ i)
  find_ok i [] m h e = absurd (none-ne-some _ e)
  find_ok i (none ∷ rs) m h e = find_ok i rs m h.1 e
  find_ok i (some n ∷ rs) m h e = go (is_at i n) refl e (find_ok i rs m h.1)
    where
      go : (b : Bool) → is_at i n ≡ b → cond b (some n) (find i rs) ≡ some m → (find i rs ≡ some m → MachineOk p next m × (m.this ≡ i)) → MachineOk p next m × (m.this ≡ i)
      go true f e ih = rw (← some-injective _ _ e) (h.0, eqb-true n.this i f)
      go false f e ih = ih e

  pub with_local_lem : {m : Machine} {l : Local} → MachineOk p next m → LocalOk p next l → MachineOk p next (set_local l m)
  with_local_lem h o = record { low = h.low; high = h.high; loc_ok = o; queue_ok = h.queue_ok }

  pub with_queue_lem : {m : Machine} {q : List Pair} → MachineOk p next m → QueueOk p next q → MachineOk p next (set_queue q m)
  with_queue_lem h o = record { low = h.low; high = h.high; loc_ok = h.loc_ok; queue_ok = o }

-- THE SECOND STOREY
module _ (p : Program) (founded : Founded p) where
  local_accepted : (c : Config) (i : ℕ) (l : Local) → Accepted p c → LocalOk p c.next l → Accepted p (with_local i l c)
  local_accepted c i l h o = record {
    rooms_32 = length-map c.rooms _ ∙ h.rooms_32;
    each_room = each_ok p c.next i (set_local l) c.rooms (λ m e k. with_local_lem p c.next k o) h.each_room;
    distinct = distinct_each (on i (set_local l)) (keeps_local i l) c.rooms h.distinct;
    next_low = h.next_low;
    next_high = h.next_high;
  }

  queue_accepted : (c : Config) (i : ℕ) (q : List Pair) → Accepted p c → QueueOk p c.next q → Accepted p (with_queue i q c)
  queue_accepted c i q h o = record {
    rooms_32 = length-map c.rooms _ ∙ h.rooms_32;
    each_room = each_ok p c.next i (set_queue q) c.rooms (λ m e k. with_queue_lem p c.next k o) h.each_room;
    distinct = distinct_each (on i (set_queue q)) (keeps_queue i q) c.rooms h.distinct;
    next_low = h.next_low;
    next_high = h.next_high;
  }

  abbrev Keeping : Outcome → Type 0
  Keeping = Each (λ R d. Accepted p d) (λ a. Unit {0})

  perform_ok : (c : Config) (i : ℕ) (m : Machine) (a : Act) → Accepted p c → MachineOk p c.next m → m.this ≡ i → ActOk p founded c.next a → Keeping (perform p c i m a)
  perform_ok c i m (alone R l) h o t k = local_accepted c i l h k
  perform_ok c i m (creates f l) h o t k = spent (ltb c.next SPENT) refl
    where
      rs : Rooms
      rs = (with_local i (f c.next) c).rooms

      moved_on : All (RoomOk p (suc c.next)) rs
      moved_on = each_ok p (suc c.next) i (set_local (f c.next)) c.rooms (λ m e x. with_local_lem p (suc c.next) x k.0) (rooms_more p c.next c.rooms h.each_room)

      rooms : (x : Option Rooms) → fill (born c l) rs ≡ x → c.next < SPENT → Keeping (on_opt x (refused NoRoom) (λ ts. took Rule.NEW (record { rooms = ts; next = suc c.next })))
      rooms none e b = tt
      rooms (some ts) e b = record {
        rooms_32 = fill_length (born c l) rs ts e ∙ length-map c.rooms _ ∙ h.rooms_32;
        each_room = fill_all (RoomOk p (suc c.next)) (born c l) rs ts (record { low = h.next_low; high = omega arith; loc_ok = k.1; queue_ok = record { size = omega arith; pairs = tt; once = tt } }) e moved_on;
        distinct = distinct_fill c.next (born c l) rs ts refl (low_rooms p c.next (on i (set_local (f c.next))) (keeps_local i (f c.next)) c.rooms h.each_room) e
            (distinct_each (on i (set_local (f c.next))) (keeps_local i (f c.next)) c.rooms h.distinct);
        next_low = omega arith;
        next_high = omega arith;
      }

      spent : (b : Bool) → ltb c.next SPENT ≡ b → Keeping (cond b (on_opt (fill (born c l) rs) (refused NoRoom) (λ ts. took Rule.NEW (record { rooms = ts; next = suc c.next }))) (refused NoRoom))
      spent true b = rooms (fill (born c l) rs) refl (ltb-true c.next SPENT b)
      spent false b = tt
  perform_ok c i m deletes h o t k = record {
    rooms_32 = length-map c.rooms _ ∙ h.rooms_32;
    each_room = gone_ok p c.next i c.rooms h.each_room;
    distinct = distinct_gone i c.rooms h.distinct;
    next_low = h.next_low;
    next_high = h.next_high;
  }
  perform_ok c i m (sends j none l) h o t k = go (find j c.rooms)
    where
      go : (x : Option Machine) → Keeping (on_opt x (refused SendToNotLive) (λ n. refused WrongType))
      go none = tt
      go (some n) = tt
  perform_ok c i m (sends j (some y) l) h o t k = go (find j c.rooms) refl
    where
      full : (n : Machine) → MachineOk p c.next n → (x : Option (List Pair)) → put n.queue y ≡ x → Keeping (on_opt x (refused QueueFull) (λ q. took Rule.SEND (with_queue j q (with_local i l c))))
      full n a none e = tt
      full n a (some q) e = queue_accepted (with_local i l c) j q (local_accepted c i l h k.1) (put_ok p c.next n.queue y q a.queue_ok k.0 e)

      go : (x : Option Machine) → find j c.rooms ≡ x → Keeping (on_opt x (refused SendToNotLive) (λ n. on_opt (put n.queue y) (refused QueueFull) (λ q. took Rule.SEND (with_queue j q (with_local i l c)))))
      go none e = tt
      go (some n) e = full n (find_ok p c.next j c.rooms n h.each_room e).0 (put n.queue y) refl
  perform_ok c i m dequeues h o t k = stacks m.loc.stack refl
    where
      pairs : (f : Frame) → FrameOk p m.loc.kind f → (x : Option (Pair × List Pair)) → pull p f.state f.map m.queue ≡ x →
          Keeping (on_opt (Option.map (taken p m.loc f) x) (refused UnableToStep) (λ t. took Rule.DEQUEUE (with_queue i t.1 (with_local i t.0 c))))
      pairs f g none e = tt
      pairs f g (some (x, q)) e = let d = first_ok p c.next f.state f.map m.queue x q (pulled p f.state f.map m.queue x q e) o.queue_ok in
          queue_accepted (with_local i (taken p m.loc f (x, q)).0 c) i q (local_accepted c i (taken p m.loc f (x, q)).0 h (raised_ok p founded c.next m.loc o.loc_ok f x.event x.value g d.0)) d.1

      stacks : (γ : List Frame) → m.loc.stack ≡ γ → Keeping (on_opt (takes p m.loc γ m.queue) (refused UnableToStep) (λ t. took Rule.DEQUEUE (with_queue i t.1 (with_local i t.0 c))))
      stacks [] e = tt
      stacks (f ∷ γ) e = pairs f (subst (All (FrameOk p m.loc.kind)) e o.loc_ok.frames).0 (pull p f.state f.map m.queue) refl
  perform_ok c i m (refuses a) h o t k = tt

  -- EVERY STEP KEEPS ACCEPTANCE
  step_ok : (c : Config) (x : Choice) → Accepted p c → Keeping (step p c x)
  unfolding step
  step_ok c x h = go (find x.machine c.rooms) refl
    where
      go : (o : Option Machine) → find x.machine c.rooms ≡ o → Keeping (on_opt o (refused UnableToStep) (λ m. perform p c x.machine m (act p x.machine m.loc x.bits)))
      go none e = tt
      go (some m) e = let f = find_ok p c.next x.machine c.rooms m h.each_room e in
          perform_ok c x.machine m (act p x.machine m.loc x.bits) h f.0 f.1
          (act_ok p founded c.next x.machine m.loc x.bits (subst (λ i. 1 ≤ i) f.1 f.0.low) (subst (λ i. i < c.next) f.1 f.0.high) f.0.loc_ok)

  pub step_keeps : (c d : Config) (x : Choice) (R : Rule) → Accepted p c → step p c x ≡ took R d → Accepted p d
  step_keeps c d x R h e = subst Keeping e (step_ok c x h)

  pub run_keeps : (c : Config) (l : List Choice) → Accepted p c → Accepted p (run (step p) c l).config
  run_keeps c [] h = h
  run_keeps c (x ∷ l) h = go (step p c x) (step_ok c x h) (λ d. run_keeps d l)
    where
      go : (o : Outcome) → Keeping o → ((d : Config) → Accepted p d → Accepted p (run (step p) d l).config) →
          Accepted p (on_out o (λ R d. later 1 (run (step p) d l)) (λ a. record { config = c; answer = a; steps = 0 })).config
      go (took R d) k ih = ih d k
      go (refused a) k ih = h

  -- THE START CONFIGURATION IS ACCEPTED
  pub start_accepted : Accepted p (start_config p)
  unfolding start_config
  start_accepted = record {
    rooms_32 = refl;
    each_room = (
      record {
        low = omega arith;
        high = omega arith;
        loc_ok = created_ok p founded 2 p.start (blank p p.start) founded.start_there (blank_typed p 2 (variables_of p p.start));
        queue_ok = record { size = omega arith; pairs = tt; once = tt };
      },
      empty 31,
    );
    distinct = (nobody 31, nobodies 31);
    next_low = omega arith;
    next_high = omega arith;
  }
    where
      empty : (n : ℕ) → All (RoomOk p 2) (replicate n none)
      empty zero = tt
      empty (suc n) = (tt, empty n)

      nobody : (n : ℕ) → find 1 (replicate n none) ≡ none
      nobody zero = refl
      nobody (suc n) = nobody n

      nobodies : (n : ℕ) → Distinct (replicate n none)
      nobodies zero = tt
      nobodies (suc n) = nobodies n
