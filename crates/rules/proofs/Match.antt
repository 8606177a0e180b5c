-- The step takes exactly what the printed rules say, and refuses exactly as the document says. So the rules are deterministic.
use Rattle.std.specs.Prelude.{ℕ, suc, ◌≡◌, ◌↔◌, Bool, true, false, not, cond, ◌&&◌, List, [], ◌∷◌, ltb, length}
use Rattle.std.proofs.Math.Path.{refl, ap}
use Rattle.std.proofs.Common.{sym, ◌∙◌, subst, inl, inr, true≢false, arith}
use Rattle.std.proofs.Math.Option
use Rattle.std.proofs.Math.Option.{Option, none, some}
use Rattle.lists.specs.Lists.{on_opt, is_some}
use Rattle.answers.specs.declared.Answer.{Answer}
use Rattle.answers.specs.declared.Answer.TheVariants.{NoRoom, NotABool, QueueFull, SendToNotLive, SendToUndefined, StackFull, UnableToStep, WrongType}
use Rattle.values.specs.declared.Value.{Value}
use Rattle.values.specs.declared.Value.TheVariants.{Undefined as undefined, Bool as vbool, Int as vint, Event as vevent, Id as vid}
use Rattle.values.specs.Values.{suits, id_of}
use Rattle.values.specs.declared.Ty.{Ty}
use Rattle.programs.specs.Sizes.{STACK, SPENT}
use Rattle.programs.specs.Program.{Program, Stmt, skip, assign, new, delete, send, raise, leave, return, assert, seq, if, while, stmt_at, variable_at, event_type, Entry, Step, Call, ActionOf}
use Rattle.programs.specs.Trees.{tree, stars}
use Rattle.runs.specs.Outcome.{took, refused}
use Rattle.machines.specs.Config.{Frame, Pending, idle, raising, returning, Pair, Local, Machine, Config}
use Rattle.machines.specs.Eval.{eval}
use Rattle.machines.specs.Locals.{remains, stacked, created, blank, moves_on, sets}
use Rattle.machines.specs.Maps.{call_map, is_action, entry_at, Pop}
use Rattle.machines.specs.Queue.{put, pull}
use Rattle.machines.specs.Rooms.{with_queue, find, fill, born, with_local}
use Rattle.rules.specs.declared.Rule.{Rule}
use Rattle.rules.specs.Act.{Act, alone, refuses, fits, on_bool, on_target, stepping, calling, acting, popping, inits, does, pends, in_state, on_stack, act}
use Rattle.rules.specs.Step.{Outcome, taken, takes, perform, step}
use Rattle.rules.specs.Rules.{At, Bare, Takes, Fails, NoBool, NoId}
use Rattle.rules.specs.Match.{Each, fit_some, fit_none, pulled, pull_first, pull_none, none_pulled}

module _ (p : Program) (c : Config) (i w : ℕ) where
  abbrev Good : Outcome → Type 0
  Good = Each (Takes p c i w) (Fails p c i w)

  abbrev dequeued : Machine → Option (Local × List Pair) → Outcome
  dequeued m o = on_opt o (refused UnableToStep) (λ t. took Rule.DEQUEUE (with_queue i t.1 (with_local i t.0 c)))

  module _ (m : Machine) (found : find i c.rooms ≡ some m) where
    abbrev Done : Act → Type 0
    Done a = Good (perform p c i m a)

    module _ (f : Frame) (γ : List Frame) (top : m.loc.stack ≡ f ∷ γ) where
      by_opt : {A : Type 0} (a : Answer) (o : Option A) (k : A → Act) → (o ≡ none → Fails p c i w a) → ((x : A) → o ≡ some x → Done (k x)) → Done (on_opt o (refuses a) k)
      by_opt a none k n h = n refl
      by_opt a (some x) k n h = h x refl

      by_bool : (v : Value) (a b : Act) → (NoBool v → Fails p c i w NotABool) → (v ≡ vbool true → Done a) → (v ≡ vbool false → Done b) → Done (on_bool v a b)
      by_bool undefined a b n h k = n (λ x e. let z : ◌≡◌ {A = ℕ} 0 1 = cc in omega arith)
      by_bool (vbool true) a b n h k = h refl
      by_bool (vbool false) a b n h k = k refl
      by_bool (vint z) a b n h k = n (λ x e. let z : ◌≡◌ {A = ℕ} 0 1 = cc in omega arith)
      by_bool (vevent e') a b n h k = n (λ x e. let z : ◌≡◌ {A = ℕ} 0 1 = cc in omega arith)
      by_bool (vid j) a b n h k = n (λ x e. let z : ◌≡◌ {A = ℕ} 0 1 = cc in omega arith)

      by_target : (v : Value) (k : ℕ → Act) → (v ≡ undefined → Fails p c i w SendToUndefined) → ((v ≡ undefined → ⊥) → NoId v → Fails p c i w WrongType) → ((j : ℕ) → v ≡ id_of j → Done (k j)) → Done (on_target v k)
      by_target undefined k u n h = u refl
      by_target (vbool b) k u n h = n (λ e. let z : ◌≡◌ {A = ℕ} 0 1 = cc in omega arith) (λ x e. let z : ◌≡◌ {A = ℕ} 0 1 = cc in omega arith)
      by_target (vint y) k u n h = n (λ e. let z : ◌≡◌ {A = ℕ} 0 1 = cc in omega arith) (λ x e. let z : ◌≡◌ {A = ℕ} 0 1 = cc in omega arith)
      by_target (vevent y) k u n h = n (λ e. let z : ◌≡◌ {A = ℕ} 0 1 = cc in omega arith) (λ x e. let z : ◌≡◌ {A = ℕ} 0 1 = cc in omega arith)
      by_target (vid j) k u n h = h j.0 refl

      module _ (s : ℕ) (r : List ℕ) (head : m.loc.row ≡ s ∷ r) where
        abbrev here : (t : Stmt) → stmt_at p s ≡ t → At p c i m f γ s r t
        here t e = record { found = found; top = top; head = head; is = e }

        -- the statement at the head
        stmt_case : (t : Stmt) → stmt_at p s ≡ t → Done (does p i m.loc w f.state f.map s r t)
        stmt_case skip e = Takes.SEQ (here skip e)
        stmt_case (assign x y) e = by_opt WrongType (fits v (suits ty v)) _ (λ n. Fails.ASSIGN-15 (here (assign x y) e) (fit_none v (suits ty v) n))
            (λ u h. let g = fit_some v u (suits ty v) h in Takes.ASSIGN (here (assign x y) e) g.0 (rw (← g.0) g.1))
          where
            v : Value
            v = eval p i m.loc w 0 y

            ty : Ty
            ty = (variable_at p x).type
        stmt_case (new x k is) e = by_opt WrongType (inits p i m.loc w k is 0 (blank p k)) _ (λ n. Fails.INIT-15 (here (new x k is) e) n) (λ vs h. spent vs h (ltb c.next SPENT) refl)
          where
            room : (vs : List Value) → inits p i m.loc w k is 0 (blank p k) ≡ some vs → ltb c.next SPENT ≡ true → (o : Option (List (Option Machine))) →
                fill (born c (created p k vs)) (with_local i (moves_on p r (sets p x (id_of c.next) m.loc)) c).rooms ≡ o →
                Good (on_opt o (refused NoRoom) (λ rs. took Rule.NEW (record { rooms = rs; next = suc c.next })))
            room vs h b none o = Fails.ROOM-18 (here (new x k is) e) h b o
            room vs h b (some rs) o = Takes.NEW (here (new x k is) e) h b o

            spent : (vs : List Value) → inits p i m.loc w k is 0 (blank p k) ≡ some vs → (b : Bool) → ltb c.next SPENT ≡ b →
                Good (cond b (on_opt (fill (born c (created p k vs)) (with_local i (moves_on p r (sets p x (id_of c.next) m.loc)) c).rooms) (refused NoRoom)
                (λ rs. took Rule.NEW (record { rooms = rs; next = suc c.next }))) (refused NoRoom))
            spent vs h true b = room vs h b _ refl
            spent vs h false b = Fails.SPENT-18 (here (new x k is) e) h b
        stmt_case delete e = Takes.DELETE (here delete e)
        stmt_case (send t ev a) e = by_target (eval p i m.loc w 0 t) _ (Fails.SEND-FAIL1 at) (Fails.TARGET-15 at) (λ j h. live j h (find j c.rooms) refl)
          where
            at : At p c i m f γ s r (send t ev a)
            at = here (send t ev a) e

            v : Value
            v = eval p i m.loc w (stars (tree p t)) a

            ty : Ty
            ty = event_type p ev

            l : Local
            l = moves_on p r m.loc

            full : (j : ℕ) → eval p i m.loc w 0 t ≡ id_of j → (n : Machine) → find j c.rooms ≡ some n → (u : Value) → fits v (suits ty v) ≡ some u → (o : Option (List Pair)) →
                put n.queue (record { event = ev; value = u }) ≡ o → Good (on_opt o (refused QueueFull) (λ q. took Rule.SEND (with_queue j q (with_local i l c))))
            full j h n g u k none o = let d = fit_some v u (suits ty v) k in Fails.SEND-16 at h g d.0 (rw (← d.0) d.1) o
            full j h n g u k (some q) o = let d = fit_some v u (suits ty v) k in Takes.SEND at h g d.0 (rw (← d.0) d.1) o

            load : (j : ℕ) → eval p i m.loc w 0 t ≡ id_of j → (n : Machine) → find j c.rooms ≡ some n → (o : Option Value) → fits v (suits ty v) ≡ o →
                Good (on_opt (on_opt o none (λ v. some (record { event = ev; value = v }))) (refused WrongType)
                (λ x. on_opt (put n.queue x) (refused QueueFull) (λ q. took Rule.SEND (with_queue j q (with_local i l c)))))
            load j h n g none o = Fails.SEND-15 at h g (fit_none v (suits ty v) o)
            load j h n g (some u) o = full j h n g u o _ refl

            live : (j : ℕ) → eval p i m.loc w 0 t ≡ id_of j → (o : Option Machine) → find j c.rooms ≡ o →
                Good (on_opt o (refused SendToNotLive) (λ n. on_opt (on_opt (fits v (suits ty v)) none (λ v. some (record { event = ev; value = v }))) (refused WrongType)
                (λ x. on_opt (put n.queue x) (refused QueueFull) (λ q. took Rule.SEND (with_queue j q (with_local i l c))))))
            live j h none g = Fails.SEND-FAIL2 at h g
            live j h (some n) g = load j h n g _ refl
        stmt_case (raise ev a) e = by_opt WrongType (fits v (suits ty v)) _ (λ n. Fails.RAISE-15 (here (raise ev a) e) (fit_none v (suits ty v) n))
            (λ u h. let g = fit_some v u (suits ty v) h in Takes.RAISE (here (raise ev a) e) g.0 (rw (← g.0) g.1))
          where
            v : Value
            v = eval p i m.loc w 0 a

            ty : Ty
            ty = event_type p ev
        stmt_case leave e = Takes.LEAVE (here leave e)
        stmt_case return e = Takes.RETURN (here return e)
        stmt_case (assert y) e = by_bool (eval p i m.loc w 0 y) _ _ (Fails.ASSERT-14 (here (assert y) e)) (Takes.ASSERT-PASS (here (assert y) e)) (Fails.ASSERT-FAIL (here (assert y) e))
        stmt_case (seq a b) e = Fails.SEQ-20 (here (seq a b) e)
        stmt_case (if y a b) e = by_bool (eval p i m.loc w 0 y) _ _ (Fails.IF-14 (here (if y a b) e)) (Takes.IF-THEN (here (if y a b) e)) (Takes.IF-ELSE (here (if y a b) e))
        stmt_case (while y a) e = by_bool (eval p i m.loc w 0 y) _ _ (Fails.WHILE-14 (here (while y a) e)) (Takes.WHILE-ITERATE (here (while y a) e)) (Takes.WHILE-DONE (here (while y a) e))

      module _ (empty : m.loc.row ≡ []) where
        -- what is pending
        pend_case : (q : Pending) → m.loc.pending ≡ q → Done (pends p i m.loc w f.state f.map γ q)
        pend_case idle e = subst (λ st. Good (dequeued m (takes p m.loc st m.queue))) (sym top) (go (pull p f.state f.map m.queue) refl)
          where
            bare : Bare c i m f γ idle
            bare = record { found = found; top = top; empty = empty; rest = e }

            go : (o : Option (Pair × List Pair)) → pull p f.state f.map m.queue ≡ o → Good (dequeued m (Option.map (taken p m.loc f) o))
            go none o = Fails.WAIT-19 bare (none_pulled p f.state f.map m.queue o)
            go (some (x, q)) o = let d = pulled p f.state f.map m.queue x q o in rw d.left (Takes.DEQUEUE d.q₁ d.q₂ x.event x.value bare d.whole d.held d.free)
        pend_case (raising ev v) e = go (Step p f.state ev) refl
          where
            bare : Bare c i m f γ (raising ev v)
            bare = record { found = found; top = top; empty = empty; rest = e }

            pop : Act
            pop = popping p i m.loc w γ ev v

            acts : ℕ → Act
            acts = acting p i m.loc w

            pops : Step p f.state ev ≡ none → Call p f.state ev ≡ none → ActionOf p f.state ev ≡ none → is_action (entry_at f.map ev) ≡ none → Pop p f.state f.map ev ≡ true
            pops a b c d = rw (a, b, c, d)

            maps : Step p f.state ev ≡ none → Call p f.state ev ≡ none → ActionOf p f.state ev ≡ none → (o : Option ℕ) → is_action (entry_at f.map ev) ≡ o → Done (on_opt o pop acts)
            maps x y z none o = Takes.POP1 bare (pops x y z o)
            maps x y z (some a) o = Takes.ACTION bare x y (inl (o, z))

            own : Step p f.state ev ≡ none → Call p f.state ev ≡ none → (o : Option ℕ) → ActionOf p f.state ev ≡ o → Done (on_opt o (on_opt (is_action (entry_at f.map ev)) pop acts) acts)
            own x y none o = maps x y o _ refl
            own x y (some a) o = Takes.ACTION bare x y (inr o)

            room : (n : ℕ) → Step p f.state ev ≡ none → Call p f.state ev ≡ some n → (b : Bool) → ltb (length m.loc.stack) STACK ≡ b →
                Done (cond b (alone Rule.CALL (remains p (Entry p n ∷ []) idle (stacked (record { state = n; map = call_map p f.state f.map } ∷ f ∷ γ) m.loc))) (refuses StackFull))
            room n x y true b = Takes.CALL bare y x (rw top at b)
            room n x y false b = Fails.CALL-17 bare y x (rw top at b)

            call : Step p f.state ev ≡ none → (o : Option ℕ) → Call p f.state ev ≡ o →
                Done (on_opt o (on_opt (ActionOf p f.state ev) (on_opt (is_action (entry_at f.map ev)) pop acts) acts) (calling p i m.loc w f.state f.map γ))
            call x none o = own x o _ refl
            call x (some n) o = room n x o _ refl

            go : (o : Option ℕ) → Step p f.state ev ≡ o →
                Done (on_opt o (on_opt (Call p f.state ev) (on_opt (ActionOf p f.state ev) (on_opt (is_action (entry_at f.map ev)) pop acts) acts) (calling p i m.loc w f.state f.map γ))
                (stepping p i m.loc w f.map γ))
            go none o = call o _ refl
            go (some n) o = Takes.STEP bare o
        pend_case returning e = Takes.POP2 (record { found = found; top = top; empty = empty; rest = e })

    row_case : (f : Frame) (γ : List Frame) → m.loc.stack ≡ f ∷ γ → (r : List ℕ) → m.loc.row ≡ r → Done (in_state p i m.loc w f γ r)
    row_case f γ top [] e = pend_case f γ top e m.loc.pending refl
    row_case f γ top (s ∷ r) e = stmt_case f γ top s r e (stmt_at p s) refl

    stack_case : (γ : List Frame) → m.loc.stack ≡ γ → Done (on_stack p i m.loc w γ)
    stack_case [] e = Fails.POP-FAIL found e
    stack_case (f ∷ γ) e = row_case f γ e m.loc.row refl

  -- EVERY OUTCOME IS AS THE RULES SAY
  good : Good (step p c (record { machine = i; bits = w }))
  unfolding step act
  good = go (find i c.rooms) refl
    where
      go : (o : Option Machine) → find i c.rooms ≡ o → Good (on_opt o (refused UnableToStep) (λ m. perform p c i m (act p i m.loc w)))
      go none e = Fails.LIVE-19 e
      go (some m) e = stack_case m e m.loc.stack refl

-- AND THE RULES ARE AS THE STEP DOES
module _ (p : Program) (c : Config) (i w : ℕ) where
  abbrev chosen : Outcome
  chosen = step p c (record { machine = i; bits = w })

  to_stmt : {m : Machine} {f : Frame} {γ : List Frame} {s : ℕ} {r : List ℕ} {t : Stmt} → At p c i m f γ s r t →
      chosen ≡ perform p c i m (does p i m.loc w f.state f.map s r t)
  unfolding step act
  to_stmt {m} {f} {γ} {s} {r} {t} a = rw a.found (ap (λ u. perform p c i m (on_stack p i m.loc w u)) a.top
      ∙ ap (λ u. perform p c i m (in_state p i m.loc w f γ u)) a.head ∙ ap (λ u. perform p c i m (does p i m.loc w f.state f.map s r u)) a.is)

  to_bare : {m : Machine} {f : Frame} {γ : List Frame} {q : Pending} → Bare c i m f γ q → chosen ≡ perform p c i m (pends p i m.loc w f.state f.map γ q)
  unfolding step act
  to_bare {m} {f} {γ} {q} a = rw a.found (ap (λ u. perform p c i m (on_stack p i m.loc w u)) a.top
      ∙ ap (λ u. perform p c i m (in_state p i m.loc w f γ u)) a.empty ∙ ap (λ u. perform p c i m (pends p i m.loc w f.state f.map γ u)) a.rest)

  room_for : (m : Machine) {f : Frame} {γ : List Frame} {b : Bool} → m.loc.stack ≡ f ∷ γ → ltb (length (f ∷ γ)) STACK ≡ b → ltb (length m.loc.stack) STACK ≡ b
  room_for m t h = ap (λ u. ltb (length u) STACK) t ∙ h

  pop_parts : (a b d e : Option ℕ) → not (is_some a) && not (is_some b) && not (is_some d) && not (is_some e) ≡ true → (a ≡ none) × (b ≡ none) × (d ≡ none) × (e ≡ none)
  pop_parts none none none none h = (refl, refl, refl, refl)
  pop_parts none none none (some x) h = absurd (true≢false (sym h))
  pop_parts none none (some x) e h = absurd (true≢false (sym h))
  pop_parts none (some x) d e h = absurd (true≢false (sym h))
  pop_parts (some x) b d e h = absurd (true≢false (sym h))

  takes_step : {R : Rule} {d : Config} → Takes p c i w R d → chosen ≡ took R d
  takes_step (Takes.ASSIGN a e h) = to_stmt a ∙ rw (e, h)
  takes_step (Takes.NEW a e b o) = to_stmt a ∙ rw (e, b, o)
  takes_step (Takes.DELETE a) = to_stmt a
  takes_step (Takes.ASSERT-PASS a e) = to_stmt a ∙ rw e
  takes_step (Takes.SEQ a) = to_stmt a
  takes_step (Takes.IF-THEN a e) = to_stmt a ∙ rw e
  takes_step (Takes.IF-ELSE a e) = to_stmt a ∙ rw e
  takes_step (Takes.WHILE-ITERATE a e) = to_stmt a ∙ rw e
  takes_step (Takes.WHILE-DONE a e) = to_stmt a ∙ rw e
  takes_step (Takes.SEND a t g e h o) = to_stmt a ∙ rw (t, g, e, h, o)
  takes_step (Takes.RAISE a e h) = to_stmt a ∙ rw (e, h)
  takes_step (Takes.LEAVE a) = to_stmt a
  takes_step (Takes.RETURN a) = to_stmt a
  takes_step (Takes.DEQUEUE {m = m} {f = f} q₁ q₂ e v b h k n) = to_bare b ∙ ap (λ u. dequeued p c i w m (takes p m.loc u m.queue)) b.top
      ∙ ap (λ o. dequeued p c i w m (Option.map (taken p m.loc f) o)) (ap (pull p f.state f.map) h ∙ pull_first p f.state f.map q₁ _ q₂ k n)
  takes_step (Takes.STEP b h) = to_bare b ∙ rw h
  takes_step (Takes.ACTION b h k (inl (o, n))) = to_bare b ∙ rw (h, k, n, o)
  takes_step (Takes.ACTION b h k (inr o)) = to_bare b ∙ rw (h, k, o)
  takes_step (Takes.CALL {m = m} b h k r) = to_bare b ∙ rw (k, h, room_for m b.top r)
  takes_step (Takes.POP1 {f = f} {e = e} b h) = let n = pop_parts (Step p f.state e) (Call p f.state e) (ActionOf p f.state e) (is_action (entry_at f.map e)) h in to_bare b ∙ rw (n.0, n.1, n.2, n.3)
  takes_step (Takes.POP2 b) = to_bare b

  not_bool : (v : Value) (a b : Act) → NoBool v → on_bool v a b ≡ refuses NotABool
  not_bool undefined a b n = refl
  not_bool (vbool x) a b n = absurd (n x refl)
  not_bool (vint z) a b n = refl
  not_bool (vevent e) a b n = refl
  not_bool (vid j) a b n = refl

  not_id : (v : Value) (k : ℕ → Act) → (v ≡ undefined → ⊥) → NoId v → on_target v k ≡ refuses WrongType
  not_id undefined k u n = absurd (u refl)
  not_id (vbool x) k u n = refl
  not_id (vint z) k u n = refl
  not_id (vevent e) k u n = refl
  not_id (vid j) k u n = absurd (n j.0 refl)

  fails_step : {a : Answer} → Fails p c i w a → chosen ≡ refused a
  unfolding step act
  fails_step (Fails.ASSERT-FAIL a e) = to_stmt a ∙ rw e
  fails_step (Fails.SEND-FAIL1 a e) = to_stmt a ∙ rw e
  fails_step (Fails.SEND-FAIL2 a e h) = to_stmt a ∙ rw (e, h)
  fails_step (Fails.POP-FAIL {m = m} h e) = rw h (ap (λ u. perform p c i m (on_stack p i m.loc w u)) e)
  fails_step (Fails.IF-14 {m = m} a n) = to_stmt a ∙ ap (perform p c i m) (not_bool _ _ _ n)
  fails_step (Fails.WHILE-14 {m = m} a n) = to_stmt a ∙ ap (perform p c i m) (not_bool _ _ _ n)
  fails_step (Fails.ASSERT-14 {m = m} a n) = to_stmt a ∙ ap (perform p c i m) (not_bool _ _ _ n)
  fails_step (Fails.ASSIGN-15 a h) = to_stmt a ∙ rw h
  fails_step (Fails.INIT-15 a h) = to_stmt a ∙ rw h
  fails_step (Fails.TARGET-15 {m = m} a u n) = to_stmt a ∙ ap (perform p c i m) (not_id _ _ u n)
  fails_step (Fails.SEND-15 a e h n) = to_stmt a ∙ rw (e, h, n)
  fails_step (Fails.RAISE-15 a h) = to_stmt a ∙ rw h
  fails_step (Fails.SEND-16 a t g e h o) = to_stmt a ∙ rw (t, g, e, h, o)
  fails_step (Fails.CALL-17 {m = m} b h k r) = to_bare b ∙ rw (k, h, room_for m b.top r)
  fails_step (Fails.ROOM-18 a e b o) = to_stmt a ∙ rw (e, b, o)
  fails_step (Fails.SPENT-18 a e b) = to_stmt a ∙ rw (e, b)
  fails_step (Fails.LIVE-19 h) = rw h
  fails_step (Fails.WAIT-19 {m = m} {f = f} b k) = to_bare b ∙ ap (λ u. dequeued p c i w m (takes p m.loc u m.queue)) b.top
      ∙ ap (λ o. dequeued p c i w m (Option.map (taken p m.loc f) o)) (pull_none p f.state f.map m.queue k)
  fails_step (Fails.SEQ-20 a) = to_stmt a

  -- THE STEP IS THE RULES, and THE REFUSALS ARE THE ANSWERS
  pub step_is : {R : Rule} {d : Config} → (chosen ≡ took R d) ↔ Takes p c i w R d
  step_is {R} {d} = ((λ e. subst Good' e (good p c i w)), takes_step)
    where
      Good' : Outcome → Type 0
      Good' = Each (Takes p c i w) (Fails p c i w)

  pub refusal_is : {a : Answer} → (chosen ≡ refused a) ↔ Fails p c i w a
  refusal_is {a} = ((λ e. subst Good' e (good p c i w)), fails_step)
    where
      Good' : Outcome → Type 0
      Good' = Each (Takes p c i w) (Fails p c i w)

  pub deterministic : {R S : Rule} {d e : Config} → Takes p c i w R d → Takes p c i w S e → (R ≡ S) × (d ≡ e)
  deterministic {R} {S} {d} {e} a b = let h = takes_step a in let k = takes_step b in (cc, cc)

  pub one_answer : {a b : Answer} → Fails p c i w a → Fails p c i w b → a ≡ b
  one_answer {a} {b} h k = let e = fails_step h in let f = fails_step k in cc

  -- no choice both takes a step and is refused
  pub exclusive : {R : Rule} {d : Config} {a : Answer} → Takes p c i w R d → Fails p c i w a → ⊥
  exclusive h k = let e = takes_step h in let f = fails_step k in let z : ◌≡◌ {A = ℕ} 0 1 = cc in omega arith
