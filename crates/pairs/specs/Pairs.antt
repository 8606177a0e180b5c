-- Document 01: "From the start configuration, pairs appended equal pairs dequeued, plus pairs waiting, plus pairs held by machines when deleted."
use Rattle.std.specs.Prelude.{ℕ, ◌+◌, ◌≡◌, Bool, true, false, cond, List, [], ◌∷◌, ◌++◌, map, ltb, length}
use Rattle.std.proofs.Math.Path.{refl, ap}
use Rattle.std.proofs.Common.{◌∙◌, subst, arith, eqb-true, length-append}
use Rattle.std.proofs.Math.Option
use Rattle.std.proofs.Math.Option.{Option, none, some, none-ne-some, some-injective}
use Rattle.lists.specs.Lists.{on_opt, total}
use Rattle.programs.specs.Sizes.{QUEUE}
use Rattle.programs.specs.Program.{Program, send}
use Rattle.runs.specs.Outcome.{took, refused, on_out}
use Rattle.runs.specs.Run.{later, run}
use Rattle.machines.specs.Config.{Frame, Pair, Local, Machine, Config, Choice}
use Rattle.machines.specs.Rooms.{Rooms, is_at, find, set_local, set_queue, on, each, gone, fill, born, with_local, with_queue}
use Rattle.machines.specs.RoomLaws.{keeps_local, on_loc_queue, each_find, each_none, gone_none}
use Rattle.machines.specs.Queue.{waits, put}
use Rattle.rules.specs.declared.Rule.{Rule}
use Rattle.rules.specs.declared.Rule.TheVariants.{ASSIGN, NEW, DELETE, ASSERT, SEQ, IF, WHILE, SEND, RAISE, LEAVE, RETURN, DEQUEUE, STEP, ACTION, CALL, POP1, POP2}
use Rattle.rules.specs.Act.{Act, alone, creates, deletes, sends, dequeues, refuses, does, in_state, on_stack, act}
use Rattle.rules.specs.Step.{Outcome, step, start_config}
use Rattle.rules.specs.Rules.{At, Takes}
use Rattle.rules.proofs.Match.{step_is}
use Rattle.soundness.specs.Sound.{Sound}
use Rattle.acceptance.specs.Accepted.{Distinct, Accepted}
use Rattle.kept.specs.Kept.{distinct_each}
use Rattle.kept.specs.Theorem.{start_accepted, step_keeps}

-- THE COUNTS
-- pairs waiting in all queues
abbrev pub held : Option Machine → ℕ
held none = 0
held (some m) = length m.queue

-- "pairs waiting"
abbrev pub waiting : Config → ℕ
waiting c = total held c.rooms

-- of one step: pairs appended, dequeued, and held by a machine when deleted
pub record Tally : Type 0 where
  pub appended : ℕ
  pub dequeued : ℕ
  pub dropped : ℕ

-- a tally of three counts
abbrev tally : ℕ → ℕ → ℕ → Tally
tally a d h = record { appended = a; dequeued = d; dropped = h }

-- a pair that its target does not hold is appended by its send (⊙)
abbrev pub appends : Config → Act → ℕ
appends c (alone R l) = 0
appends c (creates f l) = 0
appends c deletes = 0
appends c (sends t none l) = 0
appends c (sends t (some x) l) = on_opt (find t c.rooms) 0 (λ n. cond (waits x n.queue) 0 1)
appends c dequeues = 0
appends c (refuses a) = 0

-- of the step that choice x takes by rule R
abbrev pub tally_of : Program → Config → Choice → Rule → Tally
tally_of p c x ASSIGN = tally 0 0 0
tally_of p c x NEW = tally 0 0 0
tally_of p c x DELETE = tally 0 0 (held (find x.machine c.rooms))
tally_of p c x ASSERT = tally 0 0 0
tally_of p c x SEQ = tally 0 0 0
tally_of p c x IF = tally 0 0 0
tally_of p c x WHILE = tally 0 0 0
tally_of p c x SEND = tally (on_opt (find x.machine c.rooms) 0 (λ m. appends c (act p x.machine m.loc x.bits))) 0 0
tally_of p c x RAISE = tally 0 0 0
tally_of p c x LEAVE = tally 0 0 0
tally_of p c x RETURN = tally 0 0 0
tally_of p c x DEQUEUE = tally 0 1 0
tally_of p c x STEP = tally 0 0 0
tally_of p c x ACTION = tally 0 0 0
tally_of p c x CALL = tally 0 0 0
tally_of p c x POP1 = tally 0 0 0
tally_of p c x POP2 = tally 0 0 0

-- two tallies together
abbrev pub plus : Tally → Tally → Tally
plus s t = tally (s.appended + t.appended) (s.dequeued + t.dequeued) (s.dropped + t.dropped)

-- of a run
abbrev pub tallies : Program → Config → List Choice → Tally
tallies p c [] = tally 0 0 0
tallies p c (x ∷ l) = on_out (step p c x) (λ R d. plus (tally_of p c x R) (tallies p d l)) (λ a. tally 0 0 0)

-- WHAT A STEP DOES TO THE QUEUES
held_local : (i : ℕ) (l : Local) (rs : Rooms) → total held (each (on i (set_local l)) rs) ≡ total held rs
held_local i l [] = refl
held_local i l (none ∷ rs) = ap (λ n. 0 + n) (held_local i l rs)
held_local i l (some m ∷ rs) = rw (held_local i l rs) (go (is_at i m))
  where
    go : (b : Bool) → length (cond b (set_local l m) m).queue + total held rs ≡ length m.queue + total held rs
    go true = refl
    go false = refl

held_queue : (i : ℕ) (q : List Pair) (n : Machine) (rs : Rooms) → Distinct rs → find i rs ≡ some n → total held (each (on i (set_queue q)) rs) + length n.queue ≡ total held rs + length q
held_queue i q n [] d h = absurd (none-ne-some _ h)
held_queue i q n (none ∷ rs) d h = omega (arith, held_queue i q n rs d h)
held_queue i q n (some m ∷ rs) d h = go (is_at i m) refl h (held_queue i q n rs d.1)
  where
    go : (b : Bool) → is_at i m ≡ b → cond b (some m) (find i rs) ≡ some n → (find i rs ≡ some n → total held (each (on i (set_queue q)) rs) + length n.queue ≡ total held rs + length q) →
        length (cond b (set_queue q m) m).queue + total held (each (on i (set_queue q)) rs) + length n.queue ≡ length m.queue + total held rs + length q
    go true b e k = rw (each_none i (set_queue q) rs (subst (λ j. find j rs ≡ none) (eqb-true m.this i b) d.0), ← some-injective _ _ e) (omega arith)
    go false b e k = omega (arith, k e)

held_gone : (i : ℕ) (n : Machine) (rs : Rooms) → Distinct rs → find i rs ≡ some n → total held (map (gone i) rs) + length n.queue ≡ total held rs
held_gone i n [] d h = absurd (none-ne-some _ h)
held_gone i n (none ∷ rs) d h = omega (arith, held_gone i n rs d h)
held_gone i n (some m ∷ rs) d h = go (is_at i m) refl h (held_gone i n rs d.1)
  where
    go : (b : Bool) → is_at i m ≡ b → cond b (some m) (find i rs) ≡ some n → (find i rs ≡ some n → total held (map (gone i) rs) + length n.queue ≡ total held rs) →
        held (cond b none (some m)) + total held (map (gone i) rs) + length n.queue ≡ length m.queue + total held rs
    go true b e k = rw (gone_none i rs (subst (λ j. find j rs ≡ none) (eqb-true m.this i b) d.0), ← some-injective _ _ e) (omega arith)
    go false b e k = omega (arith, k e)

held_fill : (m : Machine) (rs ts : Rooms) → m.queue ≡ [] → fill m rs ≡ some ts → total held ts ≡ total held rs
held_fill m [] ts q e = absurd (none-ne-some _ e)
held_fill m (none ∷ rs) ts q e = rw (← some-injective _ _ e, q)
held_fill m (some n ∷ rs) ts q e = go (fill m rs) refl (λ us. held_fill m rs us q) e
  where
    go : (x : Option Rooms) → fill m rs ≡ x → ((us : Rooms) → fill m rs ≡ some us → total held us ≡ total held rs) → Option.map (λ us. some n ∷ us) x ≡ some ts → total held ts ≡ length n.queue + total held rs
    go none f k e = absurd (none-ne-some _ e)
    go (some us) f k e = rw (← some-injective _ _ e) (ap (λ t. length n.queue + t) (k us f))

distinct_local : (i : ℕ) (l : Local) (rs : Rooms) → Distinct rs → Distinct (each (on i (set_local l)) rs)
distinct_local i l rs d = distinct_each (on i (set_local l)) (keeps_local i l) rs d

-- a local change of i and then another queue of j
held_both : (i : ℕ) (l : Local) (j : ℕ) (q : List Pair) (n : Machine) (c : Config) → Distinct c.rooms → find j c.rooms ≡ some n →
    waiting (with_queue j q (with_local i l c)) + length n.queue ≡ waiting c + length q
held_both i l j q n c d h = omega (arith, held_queue j q (on i (set_local l) n) (each (on i (set_local l)) c.rooms) (distinct_local i l c.rooms d) found, held_local i l c.rooms, ap length (on_loc_queue i l n))
  where
    found : find j (each (on i (set_local l)) c.rooms) ≡ some (on i (set_local l) n)
    found = each_find (on i (set_local l)) (keeps_local i l) j c.rooms ∙ rw h

put_length : (q : List Pair) (x : Pair) (r : List Pair) → put q x ≡ some r → length r ≡ length q + cond (waits x q) 0 1
put_length q x r e = go (waits x q) e
  where
    room : (b : Bool) → cond b (some (q ++ x ∷ [])) none ≡ some r → length r ≡ length q + 1
    room true e = rw (← some-injective _ _ e) (length-append q (x ∷ []))
    room false e = absurd (none-ne-some _ e)

    go : (b : Bool) → cond b (some q) (cond (ltb (length q) QUEUE) (some (q ++ x ∷ [])) none) ≡ some r → length r ≡ length q + cond b 0 1
    go true e = rw (← some-injective _ _ e) (omega arith)
    go false e = room (ltb (length q) QUEUE) e

module _ (p : Program) (c : Config) (i w : ℕ) (d : Distinct c.rooms) where
  -- the count of one step
  abbrev Balanced : Rule → Config → Type 0
  Balanced R e = waiting c + (tally_of p c (record { machine = i; bits = w }) R).appended ≡ (tally_of p c (record { machine = i; bits = w }) R).dequeued + waiting e + (tally_of p c (record { machine = i; bits = w }) R).dropped

  -- a private rule
  quiet : (l : Local) → waiting c + 0 ≡ 0 + waiting (with_local i l c) + 0
  quiet l = omega (arith, held_local i l c.rooms)

  creating : (l l' : Local) (rs : Rooms) → fill (born c l') (with_local i l c).rooms ≡ some rs → waiting c + 0 ≡ 0 + total held rs + 0
  creating l l' rs o = omega (arith, held_fill (born c l') (with_local i l c).rooms rs refl o, held_local i l c.rooms)

  sending : (l : Local) (j : ℕ) (n : Machine) (x : Pair) (q : List Pair) → find j c.rooms ≡ some n → put n.queue x ≡ some q →
      waiting c + cond (waits x n.queue) 0 1 ≡ 0 + waiting (with_queue j q (with_local i l c)) + 0
  sending l j n x q g o = omega (arith, held_both i l j q n c d g, put_length n.queue x q o)

  taking : (l : Local) (m : Machine) (q₁ q₂ : List Pair) (x : Pair) → find i c.rooms ≡ some m → m.queue ≡ q₁ ++ x ∷ q₂ → waiting c + 0 ≡ 1 + waiting (with_queue i (q₁ ++ q₂) (with_local i l c)) + 0
  taking l m q₁ q₂ x g h = omega (arith, held_both i l i (q₁ ++ q₂) m c d g, ap length h, length-append q₁ (x ∷ q₂), length-append q₁ q₂)

  sent_is : {m : Machine} {f : Frame} {γ : List Frame} {s t e a : ℕ} {r : List ℕ} → At p c i m f γ s r (send t e a) → act p i m.loc w ≡ does p i m.loc w f.state f.map s r (send t e a)
  unfolding act
  sent_is {m} {f} {γ} {s} {t} {e} {a} {r} h = ap (λ u. on_stack p i m.loc w u) h.top ∙ ap (λ u. in_state p i m.loc w f γ u) h.head ∙ ap (λ u. does p i m.loc w f.state f.map s r u) h.is

  balanced : {R : Rule} {e : Config} → Takes p c i w R e → Balanced R e
  balanced (Takes.ASSIGN a v h) = quiet _
  balanced (Takes.NEW {rs = rs} a v b o) = creating _ _ rs o
  balanced (Takes.DELETE {m = m} a) = rw a.found (omega (arith, held_gone i m c.rooms d a.found))
  balanced (Takes.ASSERT-PASS a v) = quiet _
  balanced (Takes.SEQ a) = quiet _
  balanced (Takes.IF-THEN a v) = quiet _
  balanced (Takes.IF-ELSE a v) = quiet _
  balanced (Takes.WHILE-ITERATE a v) = quiet _
  balanced (Takes.WHILE-DONE a v) = quiet _
  balanced (Takes.SEND {m = m} {m' = m'} {i' = i'} {q = q} a t g v h o) = rw (a.found, sent_is a, t, v, h, g) (sending _ i' m' _ q g o)
  balanced (Takes.RAISE a v h) = quiet _
  balanced (Takes.LEAVE a) = quiet _
  balanced (Takes.RETURN a) = quiet _
  balanced (Takes.DEQUEUE {m = m} q₁ q₂ e v b h k n) = taking _ m q₁ q₂ (record { event = e; value = v }) b.found h
  balanced (Takes.STEP b h) = quiet _
  balanced (Takes.ACTION b h k o) = quiet _
  balanced (Takes.CALL b h k r) = quiet _
  balanced (Takes.POP1 b h) = quiet _
  balanced (Takes.POP2 b) = quiet _

module _ (p : Program) (sound : Sound p) where
  -- from any accepted configuration
  pub pairs : (c : Config) (l : List Choice) → Accepted p c →
      waiting c + (tallies p c l).appended ≡ (tallies p c l).dequeued + waiting (run (step p) c l).config + (tallies p c l).dropped
  pairs c [] h = omega arith
  pairs c (x ∷ l) h = go (step p c x) refl (λ d. pairs d l)
    where
      go : (o : Outcome) → step p c x ≡ o → ((d : Config) → Accepted p d → waiting d + (tallies p d l).appended ≡ (tallies p d l).dequeued + waiting (run (step p) d l).config + (tallies p d l).dropped) →
          waiting c + (on_out o (λ R d. plus (tally_of p c x R) (tallies p d l)) (λ a. tally 0 0 0)).appended
          ≡ (on_out o (λ R d. plus (tally_of p c x R) (tallies p d l)) (λ a. tally 0 0 0)).dequeued
          + waiting (on_out o (λ R d. later 1 (run (step p) d l)) (λ a. record { config = c; answer = a; steps = 0 })).config
          + (on_out o (λ R d. plus (tally_of p c x R) (tallies p d l)) (λ a. tally 0 0 0)).dropped
      go (took R d) e ih = omega (arith, balanced p c x.machine x.bits h.distinct ((step_is p c x.machine x.bits).0 e), ih d (step_keeps p sound c d x R h e))
      go (refused a) e ih = omega arith

  none_waits : waiting (start_config p) ≡ 0
  unfolding start_config
  none_waits = refl

  -- "From the start configuration"
  pub pairs_start : (l : List Choice) →
      (tallies p (start_config p) l).appended ≡ (tallies p (start_config p) l).dequeued + waiting (run (step p) (start_config p) l).config + (tallies p (start_config p) l).dropped
  pairs_start l = omega (arith, pairs (start_config p) l (start_accepted p sound), none_waits)
