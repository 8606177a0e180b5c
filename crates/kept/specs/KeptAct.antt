-- What an act leaves is as it should be: acceptance of the local part, through every rule of the first storey.
use Rattle.std.specs.Prelude.{ℕ, zero, suc, ◌+◌, ◌≤◌, ◌<◌, ◌≡◌, Bool, true, false, cond, ◌&&◌, ◌||◌, eqb, ltb, length, get_or, set}
use Rattle.std.proofs.Math.Path.{refl}
use Rattle.std.proofs.Common.{sym, ap, ◌∙◌, subst, inl, inr, true≢false, arith, eqb-true, eq-eqb, ltb-true}
use Rattle.std.proofs.Math.Option.{Option, none, some, none-ne-some, some-injective}
use mathlib.Core.List.{List, [], ◌∷◌, map}
use Rattle.std.proofs.lemmas.List.{length-map}
use Rattle.lists.specs.Lists.{on_opt, is_some, any, All, There}
use Rattle.lists.specs.Facts.{or_left, or_right, and_parts, and_both, any_at, All-get_d, has, first_has, second_has}
use Rattle.answers.specs.declared.Answer.{Answer}
use Rattle.answers.specs.declared.Answer.TheVariants.{AssertionFalse, StackFull, WrongType}
use Rattle.values.specs.declared.Ty.{Ty}
use Rattle.values.specs.declared.Ty.TheVariants.{Event as event}
use Rattle.values.specs.declared.Value.{Value}
use Rattle.values.specs.declared.Value.TheVariants.{Undefined as undefined, Bool as vbool, Int as vint, Event as vevent, Id as vid}
use Rattle.values.specs.Values.{suits, id_of}
use Rattle.programs.specs.Sizes.{STACK}
use Rattle.programs.specs.Program.{Program, State, Move, Stmt, skip, assign, new, delete, send, raise, leave, return, assert, seq, if, while, stmt_at, state_at, action_at, variable_at, variables_of, event_type, first_of, Init, Entry, Exit, Body, Deferred, moved, Step, Call, ActionOf, Trans, place}
use Rattle.programs.specs.Statements.{parts, inside, by_action, by_state, serves}
use Rattle.programs.specs.Trees.{tree, stars}
use Rattle.programs.specs.declared.Leaf.TheVariants.{Msg as msg, Arg as arg}
use Rattle.machines.specs.Config.{Reply, action, deferred, nothing, Frame, Pending, idle, raising, returning, Local}
use Rattle.machines.specs.Eval.{value, eval}
use Rattle.machines.specs.Locals.{remains, moves_on, sets, told, stacked, created, blank}
use Rattle.machines.specs.Maps.{is_action, entry_at, Pop, exit_or_skip, inherits, inherits_from, call_map, inherits_length}
use Rattle.rules.specs.Act.{Act, alone, creates, deletes, sends, dequeues, refuses, on_bool, on_target, fits, inits, does, stepping, calling, acting, popping, pends, in_state, on_stack, act}
use Rattle.rules.specs.declared.Rule.TheVariants.{ASSERT, IF, WHILE, CALL}
use Rattle.rules.specs.Match.{fit_some}
use Rattle.soundness.specs.Founded.{VariableOf, Refers, Founded}
use Rattle.acceptance.specs.Accepted.{ValueOk, Typed, TypedAll, PairOk, PendingOk, ReplyOk, FrameOk, PartOk, counted, Heights, LocalOk}
use Rattle.kept.specs.KeptRow.{height_part, height_low, height_0, inside_self, part_refers, part_part, tidy_ok}
use Rattle.kept.specs.KeptValue.{typed_more, blank_typed, sets_typed, value_ok, local_more}

-- a move of a table, and what holds of it
moved_ok : (P : Move → Type 0) (n e m : ℕ) (l : List Move) → All P l → moved l n e ≡ some m → (t : Move) × P t × (t.from ≡ n) × (t.to ≡ m)
moved_ok P n e m [] h q = absurd (none-ne-some _ q)
moved_ok P n e m (t ∷ l) h q = go (eqb t.from n && eqb t.on e) refl q (moved_ok P n e m l h.1)
  where
    go : (b : Bool) → eqb t.from n && eqb t.on e ≡ b → cond b (some t.to) (moved l n e) ≡ some m → (moved l n e ≡ some m → (t : Move) × P t × (t.from ≡ n) × (t.to ≡ m)) →
        (t : Move) × P t × (t.from ≡ n) × (t.to ≡ m)
    go true b q ih = (t, h.0, eqb-true t.from n (and_parts _ _ b).0, some-injective _ _ q)
    go false b q ih = ih q

-- the first state of a kind that has one
first_of_lem : (k : ℕ) (d : State) (n : ℕ) (l : List State) → any (λ s. eqb s.of k) l ≡ true → (i : ℕ) × (i < length l) × (first_of k n l ≡ i + n) × ((get_or l i d).of ≡ k)
first_of_lem k d n [] h = absurd (true≢false (sym h))
first_of_lem k d n (s ∷ l) h = go (eqb s.of k) refl h (first_of_lem k d (suc n) l)
  where
    go : (b : Bool) → eqb s.of k ≡ b → b || any (λ s. eqb s.of k) l ≡ true →
        (any (λ s. eqb s.of k) l ≡ true → (i : ℕ) × (i < length l) × (first_of k (suc n) l ≡ i + suc n) × ((get_or l i d).of ≡ k)) →
        (i : ℕ) × (i < suc (length l)) × (cond b n (first_of k (suc n) l) ≡ i + n) × ((get_or (s ∷ l) i d).of ≡ k)
    go true e q ih = (0, omega arith, omega arith, eqb-true s.of k e)
    go false e q ih = let t = ih q in (suc t.0, omega (arith, t.1), omega (arith, t.2), t.3)

module _ (p : Program) (founded : Founded p) where
  -- STATES AND ACTIONS OF A KIND
  module _ (k : ℕ) where
    state_serves : (n s : ℕ) → There (length p.states) n → (state_at p n).of ≡ k → inside p s (Entry p n) || inside p s (Exit p n) ≡ true → serves p k s ≡ true
    unfolding serves
    state_serves n s t e h = or_right (any (by_action p k s) p.actions) (any (by_state p k s) p.states) (any_at (by_state p k s) (record { of = 0; defer = []; entry = 0; exit = 0 }) p.states n t.0 t.1
        (and_both (eqb (state_at p n).of k) (inside p s (Entry p n) || inside p s (Exit p n)) (eq-eqb (state_at p n).of k e) h))

    action_serves : (a s : ℕ) → There (length p.actions) a → (action_at p a).of ≡ k → inside p s (Body p a) ≡ true → serves p k s ≡ true
    unfolding serves
    action_serves a s t e h = or_left (any (by_action p k s) p.actions) (any (by_state p k s) p.states) (any_at (by_action p k s) (record { of = 0; body = 0 }) p.actions a t.0 t.1
        (and_both (eqb (action_at p a).of k) (inside p s (Body p a)) (eq-eqb (action_at p a).of k e) h))

    at_self : (n s : ℕ) → n ≡ s → inside p s n ≡ true
    at_self n s e = rw e (inside_self p founded s)

    pub entry_ok : (n : ℕ) → There (length p.states) n → (state_at p n).of ≡ k → PartOk p k (Entry p n)
    entry_ok n t e = go (Entry p n) refl
      where
        go : (s : ℕ) → Entry p n ≡ s → PartOk p k s
        go zero q = inl refl
        go (suc s) q = inr ((omega arith, omega (arith, q, (founded.states_there n t).entry_there)), state_serves n (suc s) t e (or_left (inside p (suc s) (Entry p n)) (inside p (suc s) (Exit p n)) (at_self _ _ q)))

    pub exit_ok : (n : ℕ) → There (length p.states) n → (state_at p n).of ≡ k → PartOk p k (Exit p n)
    exit_ok n t e = go (Exit p n) refl
      where
        go : (s : ℕ) → Exit p n ≡ s → PartOk p k s
        go zero q = inl refl
        go (suc s) q = inr ((omega arith, omega (arith, q, (founded.states_there n t).exit_there)), state_serves n (suc s) t e (or_right (inside p (suc s) (Entry p n)) (inside p (suc s) (Exit p n)) (at_self _ _ q)))

    pub body_ok : (a : ℕ) → There (length p.actions) a → (action_at p a).of ≡ k → PartOk p k (Body p a)
    body_ok a t e = go (Body p a) refl
      where
        go : (s : ℕ) → Body p a ≡ s → PartOk p k s
        go zero q = inl refl
        go (suc s) q = inr ((omega arith, omega (arith, q, founded.actions_there a t)), action_serves a (suc s) t e (at_self _ _ q))

    step_ok : (n e n' : ℕ) → (state_at p n).of ≡ k → Step p n e ≡ some n' → There (length p.states) n' × ((state_at p n').of ≡ k)
    step_ok n e n' h q = let t = moved_ok _ n e n' p.steps founded.steps_ok q in rw (← t.3) (t.1.0, t.1.1 ∙ ap (λ m. (state_at p m).of) t.2 ∙ h)

    call_ok : (n e n' : ℕ) → (state_at p n).of ≡ k → Call p n e ≡ some n' → There (length p.states) n' × ((state_at p n').of ≡ k)
    call_ok n e n' h q = let t = moved_ok _ n e n' p.calls founded.calls_ok q in rw (← t.3) (t.1.0, t.1.1 ∙ ap (λ m. (state_at p m).of) t.2 ∙ h)

    action_ok : (n e a : ℕ) → (state_at p n).of ≡ k → ActionOf p n e ≡ some a → There (length p.actions) a × ((action_at p a).of ≡ k)
    action_ok n e a h q = let t = moved_ok _ n e a p.acts founded.acts_ok q in rw (← t.3) (t.1.0, t.1.1 ∙ ap (λ m. (state_at p m).of) t.2 ∙ h)

    -- MAPS
    reply_ok : (n e : ℕ) (x : Reply) → (state_at p n).of ≡ k → ReplyOk p k x → ReplyOk p k (inherits p n e x)
    reply_ok n e x h o = trans (Trans p n e)
      where
        defers : (b : Bool) → ReplyOk p k (cond b deferred x)
        defers true = tt
        defers false = o

        acts : (y : Option ℕ) → ActionOf p n e ≡ y → ReplyOk p k (on_opt y (cond (Deferred p n e) deferred x) action)
        acts none q = defers (Deferred p n e)
        acts (some a) q = action_ok n e a h q

        trans : (b : Bool) → ReplyOk p k (cond b nothing (on_opt (ActionOf p n e) (cond (Deferred p n e) deferred x) action))
        trans true = tt
        trans false = acts (ActionOf p n e) refl

    replies_ok : (n e : ℕ) (α : List Reply) → (state_at p n).of ≡ k → All (ReplyOk p k) α → All (ReplyOk p k) (inherits_from p n e α)
    replies_ok n e [] h o = tt
    replies_ok n e (x ∷ α) h o = (reply_ok n e x h o.0, replies_ok n (suc e) α h o.1)

    nothings : (l : List Ty) → All (ReplyOk p k) (map (λ t. nothing) l)
    nothings [] = tt
    nothings (t ∷ l) = (tt, nothings l)

    mapped_ok : (α : List Reply) (e a : ℕ) → All (ReplyOk p k) α → is_action (entry_at α e) ≡ some a → There (length p.actions) a × ((action_at p a).of ≡ k)
    mapped_ok α e a h q = go (entry_at α e) (All-get_d (ReplyOk p k) nothing (nothing ∷ α) e tt (tt, h)) q
      where
        go : (x : Reply) → ReplyOk p k x → is_action x ≡ some a → There (length p.actions) a × ((action_at p a).of ≡ k)
        go (action b) o q = rw (← some-injective _ _ q) o
        go deferred o q = absurd (none-ne-some _ q)
        go nothing o q = absurd (none-ne-some _ q)

  -- A ROW OF ONE, with nothing or something pending
  one_part : (s : ℕ) (q : Pending) → Heights p (counted q) (s ∷ [])
  one_part s idle = (omega (arith, founded.low_enough s), tt)
  one_part s (raising e v) = (omega (arith, founded.low_enough s), tt)
  one_part s returning = (omega (arith, founded.low_enough s), tt)

  -- CHANGES OF THE LOCAL PART
  module _ (next : ℕ) (l : Local) (h : LocalOk p next l) where
    pub remains_ok : (r : List ℕ) (q : Pending) → All (PartOk p l.kind) r → Heights p (counted q) r → PendingOk p next q → LocalOk p next (remains p r q l)
    remains_ok r q a b o = record {
      kind_there = h.kind_there;
      depth = h.depth;
      frames = h.frames;
      vars = h.vars;
      msg_ok = h.msg_ok;
      arg_ok = h.arg_ok;
      row_ok = tidy_ok p founded l.kind r q a b;
      pending_ok = o;
    }

    -- one statement, with q pending
    pub alone_ok : (s : ℕ) (q : Pending) → PartOk p l.kind s → PendingOk p next q → LocalOk p next (remains p (s ∷ []) q l)
    alone_ok s q a o = remains_ok (s ∷ []) q (a, tt) (one_part s q) o

    pub none_ok : (q : Pending) → PendingOk p next q → LocalOk p next (remains p [] q l)
    none_ok q o = remains_ok [] q tt tt o

    pub sets_ok : (x : ℕ) (v : Value) → VariableOf p l.kind x → Typed p next (variable_at p x).type v → LocalOk p next (sets p x v l)
    sets_ok x v o t = record {
      kind_there = h.kind_there;
      depth = h.depth;
      frames = h.frames;
      vars = sets_typed p next l.kind x v l.variables o t h.vars;
      msg_ok = h.msg_ok;
      arg_ok = h.arg_ok;
      row_ok = h.row_ok;
      pending_ok = h.pending_ok;
    }

    pub told_ok : (e : ℕ) (v : Value) → There (length p.events) e → ValueOk p next v → LocalOk p next (told e v l)
    told_ok e v t o = record {
      kind_there = h.kind_there;
      depth = h.depth;
      frames = h.frames;
      vars = h.vars;
      msg_ok = (t, refl);
      arg_ok = o;
      row_ok = h.row_ok;
      pending_ok = h.pending_ok;
    }

    pub stacked_ok : (γ : List Frame) → length γ ≤ STACK → All (FrameOk p l.kind) γ → LocalOk p next (stacked γ l)
    stacked_ok γ d f = record {
      kind_there = h.kind_there;
      depth = d;
      frames = f;
      vars = h.vars;
      msg_ok = h.msg_ok;
      arg_ok = h.arg_ok;
      row_ok = h.row_ok;
      pending_ok = h.pending_ok;
    }

  -- RAISE and DEQUEUE
  pub raised_ok : (next : ℕ) (l : Local) → LocalOk p next l → (f : Frame) (e : ℕ) (v : Value) → FrameOk p l.kind f → PairOk p next (record { event = e; value = v }) →
      LocalOk p next (remains p (exit_or_skip p f.state f.map e ∷ []) (raising e v) (told e v l))
  raised_ok next l h f e v o a = alone_ok next (told e v l) (told_ok next l h e v a.0 a.1.0) (exit_or_skip p f.state f.map e) (raising e v)
      (either (Pop p f.state f.map e || is_some (Step p f.state e))) a
    where
      either : (b : Bool) → PartOk p l.kind (cond b (Exit p f.state) 0)
      either true = exit_ok l.kind f.state o.there o.suited
      either false = inl refl

  -- A NEW MACHINE
  pub created_ok : (next k : ℕ) (vs : List Value) → There p.machines k → TypedAll p next (variables_of p k) vs → LocalOk p next (created p k vs)
  created_ok next k vs t a = alone_ok next base ok (Entry p (Init p k)) idle (entry_ok k (Init p k) init.0 init.1) tt
    where
      init : There (length p.states) (Init p k) × ((state_at p (Init p k)).of ≡ k)
      init = go (first_of_lem k _ 1 p.states (founded.some_state k t))
        where
          go : (i : ℕ) × (i < length p.states) × (first_of k 1 p.states ≡ i + 1) × ((get_or p.states i (record { of = 0; defer = []; entry = 0; exit = 0 })).of ≡ k) →
              There (length p.states) (Init p k) × ((state_at p (Init p k)).of ≡ k)
          go (i, l, e, o) = let q : Init p k ≡ suc i = omega (arith, e) in ((omega arith, omega arith), ap (λ n. (state_at p n).of) q ∙ o)

      base : Local
      base = record {
        kind = k;
        stack = record { state = Init p k; map = map (λ t. nothing) p.events } ∷ [];
        variables = vs;
        msg = undefined;
        arg = undefined;
        row = [];
        pending = idle;
      }

      ok : LocalOk p next base
      ok = record {
        kind_there = t;
        depth = omega arith;
        frames = (record { there = init.0; suited = init.1; each_event = length-map p.events (λ t. nothing); replies = nothings k p.events }, tt);
        vars = a;
        msg_ok = (tt, refl);
        arg_ok = tt;
        row_ok = record { suited = tt; formed = tt; heights = tt };
        pending_ok = tt;
      }

  -- WHAT AN ACT HOLDS IS ACCEPTED
  abbrev pub ActOk : ℕ → Act → Type 0
  ActOk next (alone R l) = LocalOk p next l
  ActOk next (creates f l) = LocalOk p (suc next) (f next) × LocalOk p (suc next) l
  ActOk next deletes = Unit {0}
  ActOk next (sends t none l) = Unit {0}
  ActOk next (sends t (some x) l) = PairOk p next x × LocalOk p next l
  ActOk next dequeues = Unit {0}
  ActOk next (refuses a) = Unit {0}

  module _ (next i : ℕ) (l : Local) (w : ℕ) (low : 1 ≤ i) (high : i < next) (h : LocalOk p next l) where
    by_opt : {A : Type 0} (a : Answer) (o : Option A) (k : A → Act) → ((x : A) → o ≡ some x → ActOk next (k x)) → ActOk next (on_opt o (refuses a) k)
    by_opt a none k f = tt
    by_opt a (some x) k f = f x refl

    by_bool : (v : Value) (a b : Act) → ActOk next a → ActOk next b → ActOk next (on_bool v a b)
    by_bool undefined a b f g = tt
    by_bool (vbool true) a b f g = f
    by_bool (vbool false) a b f g = g
    by_bool (vint z) a b f g = tt
    by_bool (vevent e) a b f g = tt
    by_bool (vid j) a b f g = tt

    by_target : (v : Value) (k : ℕ → Act) → ((j : ℕ) → ActOk next (k j)) → ActOk next (on_target v k)
    by_target undefined k f = tt
    by_target (vbool b) k f = tt
    by_target (vint z) k f = tt
    by_target (vevent e) k f = tt
    by_target (vid j) k f = f j.0

    -- a value that fits its type
    fit_ok : (k e : ℕ) (t : Ty) (u : Value) → fits (eval p i l w k e) (suits t (eval p i l w k e)) ≡ some u → Typed p next t u
    fit_ok k e t u q = let d = fit_some (eval p i l w k e) u (suits t (eval p i l w k e)) q in rw (← d.0) (value_ok p next i l w low high h k (tree p e), d.1)

    inits_ok : (m : ℕ) (is : List (ℕ × ℕ)) (k : ℕ) (vs us : List Value) → All (λ xe. VariableOf p m xe.0) is → TypedAll p next (variables_of p m) vs →
        inits p i l w m is k vs ≡ some us → TypedAll p next (variables_of p m) us
    inits_ok m [] k vs us a t q = rw (← some-injective _ _ q) t
    inits_ok m (xe ∷ is) k vs us a t q = go (fits (eval p i l w k xe.1) (suits ty (eval p i l w k xe.1))) refl (λ k vs. inits_ok m is k vs us a.1) q
      where
        ty : Ty
        ty = (variable_at p xe.0).type

        go : (o : Option Value) → fits (eval p i l w k xe.1) (suits ty (eval p i l w k xe.1)) ≡ o →
            ((k : ℕ) (vs : List Value) → TypedAll p next (variables_of p m) vs → inits p i l w m is k vs ≡ some us → TypedAll p next (variables_of p m) us) →
            on_opt o none (λ v. inits p i l w m is (k + stars (tree p xe.1)) (set vs (place p m xe.0) v)) ≡ some us → TypedAll p next (variables_of p m) us
        go none e ih q = absurd (none-ne-some _ q)
        go (some v) e ih q = ih _ _ (sets_typed p next m xe.0 v vs a.0 (fit_ok k xe.1 ty v e) t) q

    module _ (f : Frame) (γ : List Frame) (top : l.stack ≡ f ∷ γ) where
      frame : All (FrameOk p l.kind) (f ∷ γ)
      frame = subst (All (FrameOk p l.kind)) top h.frames

      deep : length (f ∷ γ) ≤ STACK
      deep = subst (λ st. length st ≤ STACK) top h.depth

      module _ (s : ℕ) (r : List ℕ) (head : l.row ≡ s ∷ r) where
        suited : All (PartOk p l.kind) (s ∷ r)
        suited = subst (All (PartOk p l.kind)) head h.row_ok.suited

        heights : Heights p (counted l.pending) (s ∷ r)
        heights = subst (Heights p (counted l.pending)) head h.row_ok.heights

        refers : (t : Stmt) → stmt_at p s ≡ t → Refers p l.kind t
        refers t e = subst (Refers p l.kind) e (part_refers p founded l.kind s suited.0)

        -- S[skip]
        skip_row : Heights p (counted l.pending) (0 ∷ r)
        skip_row = (omega (arith, height_0 p founded, height_low p founded s, heights.0), heights.1)

        on_ok : (l' : Local) → l'.kind ≡ l.kind → l'.pending ≡ l.pending → LocalOk p next l' → LocalOk p next (moves_on p r l')
        on_ok l' e q o = remains_ok next l' o (0 ∷ r) l'.pending (subst (λ k. All (PartOk p k) (0 ∷ r)) (sym e) (inl refl, suited.1))
            (subst (λ q. Heights p (counted q) (0 ∷ r)) (sym q) skip_row) o.pending_ok

        -- a part of the head takes its place
        part_row : (t : ℕ) → has t (parts (stmt_at p s)) → LocalOk p next (remains p (t ∷ r) l.pending l)
        part_row t m = remains_ok next l h (t ∷ r) l.pending (part_part p founded l.kind s t m suited.0, suited.1) (omega (arith, height_part p founded s t m, heights.0), heights.1) h.pending_ok

        does_ok : (t : Stmt) → stmt_at p s ≡ t → ActOk next (does p i l w f.state f.map s r t)
        does_ok skip e = remains_ok next l h r l.pending suited.1 heights.1 h.pending_ok
        does_ok (assign x y) e = by_opt WrongType _ _ (λ v q. on_ok (sets p x v l) refl refl (sets_ok next l h x v (refers (assign x y) e) (fit_ok 0 y _ v q)))
        does_ok (new x m is) e = by_opt WrongType (inits p i l w m is 0 (blank p m)) (λ vs. creates (λ i'. moves_on p r (sets p x (id_of i') l)) (created p m vs)) (λ vs q. let t = refers (new x m is) e in
            (made t, created_ok (suc next) m vs t.2 (typed_more p next (variables_of p m) vs (inits_ok m is 0 (blank p m) vs t.3 (blank_typed p next (variables_of p m)) q))))
          where
            made : Refers p l.kind (new x m is) → LocalOk p (suc next) (moves_on p r (sets p x (id_of next) l))
            made t = remains_ok (suc next) (sets p x (id_of next) l) (sets_ok (suc next) l (local_more p next l h) x (id_of next) t.0 ((omega arith, omega arith), rw t.1))
                (0 ∷ r) l.pending (inl refl, suited.1) skip_row (local_more p next l h).pending_ok
        does_ok delete e = tt
        does_ok (send t ev a) e = by_target (eval p i l w 0 t) _ (λ j. load j (fits (eval p i l w (stars (tree p t)) a) (suits (event_type p ev) (eval p i l w (stars (tree p t)) a))) refl)
          where
            load : (j : ℕ) (o : Option Value) → fits (eval p i l w (stars (tree p t)) a) (suits (event_type p ev) (eval p i l w (stars (tree p t)) a)) ≡ o →
                ActOk next (sends j (on_opt o none (λ v. some (record { event = ev; value = v }))) (moves_on p r l))
            load j none q = tt
            load j (some v) q = ((refers (send t ev a) e, fit_ok (stars (tree p t)) a (event_type p ev) v q), on_ok l refl refl h)
        does_ok (raise ev a) e = by_opt WrongType _ _ (λ v q. raised_ok next l h f ev v frame.0 (refers (raise ev a) e, fit_ok 0 a (event_type p ev) v q))
        does_ok leave e = none_ok next l h idle tt
        does_ok return e = alone_ok next l h (Exit p f.state) returning (exit_ok l.kind f.state frame.0.there frame.0.suited) tt
        does_ok (assert y) e = by_bool (eval p i l w 0 y) (alone ASSERT (moves_on p r l)) (refuses AssertionFalse) (on_ok l refl refl h) tt
        does_ok (seq a b) e = tt
        does_ok (if y a b) e = by_bool (eval p i l w 0 y) (alone IF (remains p (a ∷ r) l.pending l)) (alone IF (remains p (b ∷ r) l.pending l)) (part_row a (rw e (first_has a (b ∷ [])))) (part_row b (rw e (second_has a b [])))
        does_ok (while y a) e = by_bool (eval p i l w 0 y) (alone WHILE (remains p (a ∷ s ∷ r) l.pending l)) (alone WHILE (moves_on p r l)) (iterate (rw e (first_has a []))) (on_ok l refl refl h)
          where
            iterate : has a (parts (stmt_at p s)) → LocalOk p next (remains p (a ∷ s ∷ r) l.pending l)
            iterate m = remains_ok next l h (a ∷ s ∷ r) l.pending (part_part p founded l.kind s a m suited.0, suited)
                (omega (arith, height_part p founded s a m, heights.0), heights) h.pending_ok

      pends_ok : (q : Pending) → l.pending ≡ q → ActOk next (pends p i l w f.state f.map γ q)
      pends_ok idle e = tt
      pends_ok (raising ev v) e = steps (Step p f.state ev) refl
        where
          acts : (a : ℕ) → There (length p.actions) a × ((action_at p a).of ≡ l.kind) → ActOk next (acting p i l w a)
          acts a o = alone_ok next l h (Body p a) idle (body_ok l.kind a o.0 o.1) tt

          pop : ActOk next (popping p i l w γ ev v)
          pop = none_ok next (stacked γ l) (stacked_ok next l h γ (omega (arith, deep)) frame.1) (raising ev v) (subst (PendingOk p next) e h.pending_ok)

          maps : (o : Option ℕ) → is_action (entry_at f.map ev) ≡ o → ActOk next (on_opt o (popping p i l w γ ev v) (acting p i l w))
          maps none q = pop
          maps (some a) q = acts a (mapped_ok l.kind f.map ev a frame.0.replies q)

          own : (o : Option ℕ) → ActionOf p f.state ev ≡ o → ActOk next (on_opt o (on_opt (is_action (entry_at f.map ev)) (popping p i l w γ ev v) (acting p i l w)) (acting p i l w))
          own none q = maps (is_action (entry_at f.map ev)) refl
          own (some a) q = acts a (action_ok l.kind f.state ev a frame.0.suited q)

          room : (n : ℕ) → There (length p.states) n × ((state_at p n).of ≡ l.kind) → (b : Bool) → ltb (length l.stack) STACK ≡ b →
              ActOk next (cond b (alone CALL (remains p (Entry p n ∷ []) idle (stacked (record { state = n; map = call_map p f.state f.map } ∷ f ∷ γ) l))) (refuses StackFull))
          room n o true b = alone_ok next (stacked (record { state = n; map = call_map p f.state f.map } ∷ f ∷ γ) l)
              (stacked_ok next l h _ (omega (arith, ltb-true (length (f ∷ γ)) STACK (ap (λ st. ltb (length st) STACK) (sym top) ∙ b)))
              (record { there = o.0; suited = o.1; each_event = inherits_length p f.state 1 f.map ∙ frame.0.each_event; replies = replies_ok l.kind f.state 1 f.map frame.0.suited frame.0.replies }, frame))
              (Entry p n) idle (entry_ok l.kind n o.0 o.1) tt
          room n o false b = tt

          calls : (o : Option ℕ) → Call p f.state ev ≡ o →
              ActOk next (on_opt o (on_opt (ActionOf p f.state ev) (on_opt (is_action (entry_at f.map ev)) (popping p i l w γ ev v) (acting p i l w)) (acting p i l w)) (calling p i l w f.state f.map γ))
          calls none q = own (ActionOf p f.state ev) refl
          calls (some n) q = room n (call_ok l.kind f.state ev n frame.0.suited q) (ltb (length l.stack) STACK) refl

          steps : (o : Option ℕ) → Step p f.state ev ≡ o →
              ActOk next (on_opt o (on_opt (Call p f.state ev) (on_opt (ActionOf p f.state ev) (on_opt (is_action (entry_at f.map ev)) (popping p i l w γ ev v) (acting p i l w)) (acting p i l w)) (calling p i l w f.state f.map γ))
              (stepping p i l w f.map γ))
          steps none q = calls (Call p f.state ev) refl
          steps (some n) q = let o = step_ok l.kind f.state ev n frame.0.suited q in
              alone_ok next (stacked (record { state = n; map = f.map } ∷ γ) l)
              (stacked_ok next l h _ deep (record { there = o.0; suited = o.1; each_event = frame.0.each_event; replies = frame.0.replies }, frame.1))
              (Entry p n) idle (entry_ok l.kind n o.0 o.1) tt
      pends_ok returning e = none_ok next (stacked γ l) (stacked_ok next l h γ (omega (arith, deep)) frame.1) idle tt

    -- THE FIRST STOREY KEEPS ACCEPTANCE
    pub act_ok : ActOk next (act p i l w)
    unfolding act
    act_ok = stacks l.stack refl
      where
        rows : (f : Frame) (γ : List Frame) → l.stack ≡ f ∷ γ → (r : List ℕ) → l.row ≡ r → ActOk next (in_state p i l w f γ r)
        rows f γ t [] e = pends_ok f γ t l.pending refl
        rows f γ t (s ∷ r) e = does_ok f γ t s r e (stmt_at p s) refl

        stacks : (γ : List Frame) → l.stack ≡ γ → ActOk next (on_stack p i l w γ)
        stacks [] e = tt
        stacks (f ∷ γ) e = rows f γ e l.row refl
