-- AFTER A CALL AND THE MATCHING POP THE CALLER'S OWN MAP IS ON TOP AGAIN: so what only the callee's map held back is held back no longer.
-- Document 01: "STEP keeps the map. A pop brings back the caller's own", and among the misreadings to shut out: "Restoring the callee's map on a pop."
use Rattle.std.specs.Prelude.{ℕ, suc, ◌<◌, ◌≡◌, refl, ◌⊎◌, Bool, true, false, ◌&&◌, List, [], ◌∷◌, ◌++◌, ltb, length}
use Rattle.std.proofs.Common.{sym, ap, ◌∙◌, subst, inl, inr, true≢false, arith, ltb-true, length-append}
use Rattle.std.proofs.Math.Option
use Rattle.std.proofs.Math.Option.{Option, none, some, some-injective}
use Rattle.lists.specs.Lists.{on_opt, All}
use Rattle.lists.specs.Facts.{and_parts}
use Rattle.programs.specs.Program.{Program}
use Rattle.runs.specs.Outcome.{took, refused, on_out}
use Rattle.runs.specs.Run.{later, run}
use Rattle.machines.specs.Config.{Frame, idle, raising, Pair, Local, Machine, Config, Choice}
use Rattle.machines.specs.Locals.{remains, stacked}
use Rattle.machines.specs.Maps.{held_back}
use Rattle.machines.specs.Rooms.{find, set_local, set_queue, with_local, with_queue}
use Rattle.rules.specs.declared.Rule.{Rule}
use Rattle.rules.specs.declared.Rule.TheVariants.{DEQUEUE, CALL, POP1, POP2}
use Rattle.rules.specs.Step.{Outcome, taken, step}
use Rattle.rules.specs.Rules.{Bare, Takes}
use Rattle.rules.proofs.Match.{step_is}
use Rattle.acceptance.specs.Accepted.{Accepted}
use Rattle.machines.specs.RoomLaws.{find_own}
use Rattle.kept.specs.Kept.{find_ok}
use Rattle.deferral.specs.Stacks.{stack_of, depth, After, stack_own, after_step}

-- A run from c to d inside a call of machine i: each choice takes a step, of any machine and by any rule, and before each of them machine i has more
-- than n frames on its stack.
pub data Inside (p : Program) (i n : ℕ) : Config → List Choice → Config → Type 0 where
  over : {c : Config} → Inside p i n c [] c
  goes : {c d e : Config} {x : Choice} {l : List Choice} {R : Rule} → n < depth i c → step p c x ≡ took R d → Inside p i n d l e → Inside p i n c (x ∷ l) e

-- A test for it, of a run of choices.
abbrev pub runs_inside : Program → ℕ → ℕ → Config → List Choice → Bool
runs_inside p i n c [] = true
runs_inside p i n c (x ∷ l) = ltb n (depth i c) && on_out (step p c x) (λ R d. runs_inside p i n d l) (λ a. false)

-- A run that passes the test is one inside a call.
pub runs_inside_lem : (p : Program) (i n : ℕ) (c : Config) (l : List Choice) → runs_inside p i n c l ≡ true → Inside p i n c l (run (step p) c l).config
runs_inside_lem p i n c [] h = Inside.over
runs_inside_lem p i n c (x ∷ l) h = let k = and_parts (ltb n (depth i c)) _ h in go (step p c x) refl (ltb-true n (depth i c) k.0) k.1 (λ d. runs_inside_lem p i n d l)
  where
    go : (o : Outcome) → step p c x ≡ o → n < depth i c → on_out o (λ R d. runs_inside p i n d l) (λ a. false) ≡ true →
        ((d : Config) → runs_inside p i n d l ≡ true → Inside p i n d l (run (step p) d l).config) →
        Inside p i n c (x ∷ l) (on_out o (λ R d. later 1 (run (step p) d l)) (λ a. record { config = c; answer = a; steps = 0 })).config
    go (took R d) s deep h ih = Inside.goes deep s (ih d h)
    go (refused a) s deep h ih = absurd (true≢false (sym h))

-- A call of machine i in c, and its return, which ends in d: after the CALL its stack is deeper than it was in c, until it is as deep as in c again.
-- The step that makes it so is the matching pop.
pub record Return (p : Program) (i : ℕ) (c d : Config) : Type 0 where
  pub bits : ℕ
  pub called : Config
  pub calls : step p c (record { machine = i; bits = bits }) ≡ took CALL called
  pub choices : List Choice
  pub inside : Inside p i (depth i c) called choices d
  pub back : depth i d ≡ depth i c

-- The events that a machine with a given stack holds back: those that its top frame does.
abbrev holds : Program → Option (List Frame) → ℕ → Bool
holds p none e = false
holds p (some []) e = false
holds p (some (f ∷ γ)) e = held_back p f.state f.map e

-- Machine i of c holds the event e back: DEQUEUE passes over its pairs.
abbrev pub holds_back : Program → ℕ → Config → ℕ → Bool
holds_back p i c e = holds p (stack_of i c) e

-- The next step of machine i in c, under the bits w, takes the pair x from its queue and leaves q there; x is then the pending raise.
pub record TakesOut (p : Program) (c : Config) (i w : ℕ) (x : Pair) (q : List Pair) : Type 0 where
  pub after : Config
  pub dequeues : step p c (record { machine = i; bits = w }) ≡ took DEQUEUE after
  pub machine : Machine
  pub found : find i after.rooms ≡ some machine
  pub raised : machine.loc.pending ≡ raising x.event x.value
  pub left : machine.queue ≡ q

-- The run of l from c to d ends in machine i's own POP1 or POP2, and all before that step is inside the call.
pub record EndsInPop (p : Program) (i n : ℕ) (c : Config) (l : List Choice) (d : Config) : Type 0 where
  pub earlier : List Choice
  pub last : Choice
  pub whole : l ≡ earlier ++ last ∷ []
  pub before : Config
  pub inside : Inside p i n c earlier before
  pub own : last.machine ≡ i
  pub pop : (step p before last ≡ took POP1 d) ⊎ (step p before last ≡ took POP2 d)

-- What a CALL from c to d does to machine i, which is m: it has a frame f, the caller's, and gets another on top of it.
record Caller (i : ℕ) (c d : Config) : Type 0 where
  m : Machine
  found : find i c.rooms ≡ some m
  f : Frame
  γ : List Frame
  before : stack_of i c ≡ some (f ∷ γ)
  callee : Frame
  after : stack_of i d ≡ some (callee ∷ f ∷ γ)

-- That is what the rule CALL does.
caller : {p : Program} {c : Config} {i w : ℕ} {d : Config} → Takes p c i w CALL d → Caller i c d
caller {c = c} {i = i} (Takes.CALL {m = m} {f = f} {γ = γ} b h k r) = record {
  m = m;
  found = b.found;
  f = f;
  γ = γ;
  before = ap (Option.map (λ m. m.loc.stack)) b.found ∙ ap some b.top;
  callee = _;
  after = stack_own i _ m c b.found;
}

-- A stack of at least one frame has a top.
top_of : (o : Option (List Frame)) → 0 < on_opt o 0 length → (f : Frame) × (γ : List Frame) × (o ≡ some (f ∷ γ))
top_of none h = absurd (omega arith)
top_of (some []) h = absurd (omega arith)
top_of (some (f ∷ γ)) h = (f, γ, refl)

module _ (p : Program) (i : ℕ) where
  -- The rule is a pop and the machine is i.
  abbrev PopOf : ℕ → Rule → Type 0
  PopOf j R = (j ≡ i) × ((R ≡ POP1) ⊎ (R ≡ POP2))

  -- A step after which the stack has fewer frames, and not none, is the machine's own pop.
  fewer : {j : ℕ} {f : Frame} {γ : List Frame} {R : Rule} (o : Option (List Frame)) → 0 < on_opt o 0 length → on_opt o 0 length < suc (length γ) →
      After p i j f γ R o → PopOf j R
  fewer o some_left h After.same = absurd (omega arith)
  fewer o some_left h (After.stepped n j) = absurd (omega arith)
  fewer o some_left h (After.called n j) = absurd (omega arith)
  fewer o some_left h (After.popped1 j) = (j, inl refl)
  fewer o some_left h (After.popped2 j) = (j, inr refl)
  fewer o some_left h (After.deleted j) = absurd (omega arith)

  -- Machine i's stack has base below some frames, or it has been deleted.
  abbrev Above : List Frame → Option (List Frame) → Type 0
  Above base o = (o ≡ none) ⊎ ((δ : List Frame) × (o ≡ some (δ ++ base)))

  -- What a step makes of a stack with base below its top frame has base below.
  above : {j : ℕ} {f : Frame} {R : Rule} (γ base : List Frame) (o : Option (List Frame)) → After p i j f (γ ++ base) R o → Above base o
  above {f = f} γ base o After.same = inr (f ∷ γ, refl)
  above γ base o (After.stepped n j) = inr (_ ∷ γ, refl)
  above {f = f} γ base o (After.called n j) = inr (_ ∷ f ∷ γ, refl)
  above γ base o (After.popped1 j) = inr (γ, refl)
  above γ base o (After.popped2 j) = inr (γ, refl)
  above γ base o (After.deleted j) = inl refl

  -- So a step from a stack deeper than base keeps base below.
  keeps : (base : List Frame) (c d : Config) (x : Choice) (R : Rule) → i < c.next → Above base (stack_of i c) → length base < depth i c → step p c x ≡ took R d →
      Above base (stack_of i d) × (i < d.next)
  keeps base c d x R given a deep s = go a
    where
      by : (δ : List Frame) → stack_of i c ≡ some (δ ++ base) → length base < length (δ ++ base) → Above base (stack_of i d) × (i < d.next)
      by [] e h = absurd (omega arith)
      by (f ∷ δ) e h = let k = after_step p i x.machine x.bits c f (δ ++ base) given e ((step_is p c x.machine x.bits).0 s) in
          (above δ base (stack_of i d) k.0, k.1)

      go : Above base (stack_of i c) → Above base (stack_of i d) × (i < d.next)
      go (inl e) = absurd (omega (arith, ap (λ o. on_opt o 0 length) e))
      go (inr (δ, e)) = by δ e (subst (λ o. length base < on_opt o 0 length) e deep)

  -- A stack with base below it that is no deeper than base, and not empty, is base.
  is_base : (base : List Frame) (o : Option (List Frame)) → 0 < length base → Above base o → on_opt o 0 length ≡ length base → o ≡ some base
  is_base base o h (inl e) k = absurd (omega (arith, ap (λ o. on_opt o 0 length) e))
  is_base base o h (inr ([], e)) k = e
  is_base base o h (inr (f ∷ δ, e)) k = absurd (omega (arith, ap (λ o. on_opt o 0 length) e, length-append δ base))

  -- THE CALLER'S FRAME STAYS BELOW in a run inside a call, and is the top again when the stack is as deep as before.
  stays : (base : List Frame) {c d : Config} {l : List Choice} → 0 < length base → i < c.next → Above base (stack_of i c) → Inside p i (length base) c l d →
      depth i d ≡ length base → stack_of i d ≡ some base
  stays base {c} h given a Inside.over e = is_base base (stack_of i c) h a e
  stays base {c} h given a (Inside.goes {d = d} {x = x} {R = R} deep s r) e = let k = keeps base c d x R given a deep s in stays base h k.1 k.0 r e

  -- A run that ends in a pop does so with one more step before it.
  one_more : {n : ℕ} {l : List Choice} {d e : Config} (c : Config) (x : Choice) (R : Rule) → n < depth i c → step p c x ≡ took R d → EndsInPop p i n d l e →
      EndsInPop p i n c (x ∷ l) e
  one_more c x R deep s k = record {
    earlier = x ∷ k.earlier;
    last = k.last;
    whole = ap (λ t. x ∷ t) k.whole;
    before = k.before;
    inside = Inside.goes deep s k.inside;
    own = k.own;
    pop = k.pop;
  }

  -- A single step from a stack of more than n frames to one of n, and not none, is the machine's own pop.
  single : (n : ℕ) (c d : Config) (x : Choice) (R : Rule) → 0 < n → i < c.next → n < depth i c → step p c x ≡ took R d → depth i d ≡ n → EndsInPop p i n c (x ∷ []) d
  single n c d x R h given deep s e = go (top_of (stack_of i c) (omega arith))
    where
      by : (R ≡ POP1) ⊎ (R ≡ POP2) → (step p c x ≡ took POP1 d) ⊎ (step p c x ≡ took POP2 d)
      by (inl r) = inl (s ∙ ap (λ T. took T d) r)
      by (inr r) = inr (s ∙ ap (λ T. took T d) r)

      go : (f : Frame) × (γ : List Frame) × (stack_of i c ≡ some (f ∷ γ)) → EndsInPop p i n c (x ∷ []) d
      go (f, γ, t) = let k : PopOf x.machine R = fewer (stack_of i d) (omega arith) (let u = ap (λ o. on_opt o 0 length) t in omega arith)
          (after_step p i x.machine x.bits c f γ given t ((step_is p c x.machine x.bits).0 s)).0 in
          record { earlier = []; last = x; whole = refl; before = c; inside = Inside.over; own = k.0; pop = by k.1 }

  -- SO THE LAST STEP IS A POP of a run inside a call that ends with a stack as deep as before it.
  pops : (base : List Frame) {c d : Config} {l : List Choice} → 0 < length base → i < c.next → Above base (stack_of i c) → length base < depth i c →
      Inside p i (length base) c l d → depth i d ≡ length base → EndsInPop p i (length base) c l d
  pops base h given a deep Inside.over e = absurd (omega arith)
  pops base {c} h given a deep (Inside.goes {x = x} {R = R} k s (Inside.over {c = d})) e = single (length base) c d x R h given deep s e
  pops base {c} h given a deep (Inside.goes {d = d} {x = x} {R = R} k s (Inside.goes k' s' r)) e =
      let u = keeps base c d x R given a deep s in one_more c x R deep s (pops base h u.1 u.0 k' (Inside.goes k' s' r) e)

-- DEQUEUE: a machine with nothing else to do takes the first pair of its queue that its top frame does not hold back.
module _ (p : Program) (c : Config) (i w : ℕ) (m : Machine) (f : Frame) (γ : List Frame) (bare : Bare c i m f γ idle) (q₁ : List Pair) (x : Pair) (q₂ : List Pair) where
  -- The machine's local part then.
  abbrev raises : Local
  raises = (taken p m.loc f (x, q₁ ++ q₂)).0

  -- The step that takes x.
  takes_out : m.queue ≡ q₁ ++ x ∷ q₂ → All (λ y. held_back p f.state f.map y.event ≡ true) q₁ → held_back p f.state f.map x.event ≡ false →
      TakesOut p c i w x (q₁ ++ q₂)
  takes_out whole held free = record {
    after = with_queue i (q₁ ++ q₂) (with_local i raises c);
    dequeues = (step_is p c i w).1 (Takes.DEQUEUE q₁ q₂ x.event x.value bare whole held free);
    machine = set_queue (q₁ ++ q₂) (set_local raises m);
    found = find_own i (set_queue (q₁ ++ q₂)) (λ n. refl) (set_local raises m) (with_local i raises c).rooms (find_own i (set_local raises) (λ n. refl) m c.rooms bare.found);
    raised = refl;
    left = refl;
  }

-- POP2 leaves the machine with its queue, an empty row and nothing pending.
after-POP2 : {p : Program} {c : Config} {i w : ℕ} {d : Config} (m : Machine) → Takes p c i w POP2 d → find i c.rooms ≡ some m →
    (n : Machine) × (find i d.rooms ≡ some n) × (n.loc.row ≡ []) × (n.loc.pending ≡ idle) × (n.queue ≡ m.queue)
after-POP2 {p} {c} {i} m (Takes.POP2 {m = m'} {γ = γ} b) h =
    (set_local (remains p [] idle (stacked γ m'.loc)) m, find_own i (set_local _) (λ n. refl) m c.rooms h, refl, refl, refl)

-- Machine i calls in c and has returned in d.
module _ (p : Program) (i : ℕ) (c d : Config) (r : Return p i c d) where
  -- The CALL, as a rule.
  call : Takes p c i r.bits CALL r.called
  call = (step_is p c i r.bits).0 r.calls

  -- The caller, and the frames of its stack.
  abbrev known : Caller i c r.called
  known = caller call

  abbrev base : List Frame
  base = known.f ∷ known.γ

  as_deep : depth i c ≡ length base
  as_deep = ap (λ o. on_opt o 0 length) known.before

  -- The run inside the call, and the stack at its start.
  inside_base : Inside p i (length base) r.called r.choices d
  inside_base = subst (λ n. Inside p i n r.called r.choices d) as_deep r.inside

  above_base : Above p i base (stack_of i r.called)
  above_base = inr (known.callee ∷ [], known.after)

  deeper : length base < depth i r.called
  deeper = let e = ap (λ o. on_opt o 0 length) known.after in omega arith

  -- In an accepted configuration its number has been given out: what the theorem asks for below.
  pub given_out : Accepted p c → i < c.next
  given_out a = let h = find_ok p c.next i c.rooms known.m a.each_room known.found in subst (λ j. j < c.next) h.1 h.0.high

  module _ (given : i < c.next) where
    -- Its number is one that has been given out after the CALL too.
    still_given : i < r.called.next
    still_given = (after_step p i i r.bits c known.f known.γ given known.before call).1

    -- THE THEOREM. Its whole stack is what it was before the CALL: the state and the map on top are the caller's own.
    pub returned : stack_of i d ≡ stack_of i c
    returned = stays p i base (omega arith) still_given above_base inside_base (r.back ∙ as_deep) ∙ sym known.before

    -- The step that ended the call was its own POP1 or POP2.
    pub by_a_pop : EndsInPop p i (depth i c) r.called r.choices d
    by_a_pop = subst (λ n. EndsInPop p i n r.called r.choices d) (sym as_deep) (pops p i base (omega arith) still_given above_base deeper inside_base (r.back ∙ as_deep))

    -- It holds back exactly what it held back before the CALL, whatever the callee's map held back.
    pub holds_as_before : (e : ℕ) → holds_back p i d e ≡ holds_back p i c e
    holds_as_before e = ap (λ o. holds p o e) returned

    -- SO WHAT ONLY THE CALLEE'S MAP HELD BACK IS HELD BACK NO LONGER: once it has nothing else to do, the first pair of its queue that it did not hold
    -- back before the CALL is taken.
    pub held_no_longer : (w : ℕ) (m : Machine) (q₁ : List Pair) (x : Pair) (q₂ : List Pair) → find i d.rooms ≡ some m → m.loc.row ≡ [] → m.loc.pending ≡ idle →
        m.queue ≡ q₁ ++ x ∷ q₂ → All (λ y. holds_back p i c y.event ≡ true) q₁ → holds_back p i c x.event ≡ false → TakesOut p d i w x (q₁ ++ q₂)
    held_no_longer w m q₁ x q₂ found empty rest whole held free =
        takes_out p d i w m known.f known.γ (record { found = found; top = top; empty = empty; rest = rest }) q₁ x q₂ whole
        (subst (λ o. All (λ y. holds p o y.event ≡ true) q₁) known.before held) (subst (λ o. holds p o x.event ≡ false) known.before free)
      where
        top : m.loc.stack ≡ base
        top = some-injective _ _ (sym (ap (Option.map (λ m. m.loc.stack)) found) ∙ returned ∙ known.before)

    -- If the call ended in POP2 (and not in POP1, which leaves the raise to the caller), it has nothing else to do, so the pair is taken at once.
    pub at_once : (w b : ℕ) (e : Config) (m : Machine) (q₁ : List Pair) (x : Pair) (q₂ : List Pair) → step p e (record { machine = i; bits = b }) ≡ took POP2 d →
        find i e.rooms ≡ some m → m.queue ≡ q₁ ++ x ∷ q₂ → All (λ y. holds_back p i c y.event ≡ true) q₁ → holds_back p i c x.event ≡ false →
        TakesOut p d i w x (q₁ ++ q₂)
    at_once w b e m q₁ x q₂ pop found whole held free = let (n, found', empty, rest, same) = after-POP2 m ((step_is p e i b).0 pop) found in
        held_no_longer w n q₁ x q₂ found' empty rest (same ∙ whole) held free
