-- What the functions on event maps are lent: tables that say what the program says, and the maps of all frames in one flat array. Laws of a look into
-- them, and of the map that a call hands on.
use Rattle.std.specs.Prelude.{ℕ, zero, suc, ◌+◌, ◌-◌, ◌≤◌, ◌<◌, ◌≡◌, refl, Bool, true, false, not, cond, ◌&&◌, ◌||◌, List, [], ◌∷◌, map, eqb, length, take, get_or, set}
use Rattle.std.proofs.Common.{ap, sym, ◌∙◌, inl, arith, eq-eqb, ne_eqb, get_or-take, length-take-le}
use Rattle.std.proofs.Math.Option.{Option, none, some}
use Rattle.std.proofs.Math.Logic.{dite}
use Rattle.std.proofs.Math.Decide.{ℕ_discrete}
use Rattle.std.proofs.lemmas.List.{length-map}
use Rattle.std.proofs.Math.ListN.{get_or-map, get_or-eq_default}
use Rattle.lists.specs.Lists.{on_opt, is_some, at, There, any}
use Rattle.rows.specs.Pad.{pad, pad_length, pad_take, pad_get}
use Rattle.rows.specs.Part.{part, put, part_get, part_length, part_put}
use Rattle.rows.specs.Fill.{filled, filled_off, filled_more}
use Rattle.programs.specs.Sizes.{EVENTS, STATES, ACTIONS}
use Rattle.programs.specs.Program.{Program, Step, Call, ActionOf, Trans, Exit, Deferred}
use Rattle.tables.specs.Decode.{states_of, no_state}
use Rattle.index.specs.declared.Line.{Line}
use Rattle.index.specs.Index.{Says, said_at, or_zero, line_at, line_here}
use Rattle.machines.specs.Config.{Reply, action, deferred, nothing}
use Rattle.machines.specs.Maps.{is_deferred, is_action, entry_at, Pop, exit_or_skip, held_back, inherits, inherits_from, call_map, inherits_length}
use Rattle.configs.specs.Decode.{reply_of}
use Rattle.configs.specs.Encode.{reply_code}
use Rattle.configs.proofs.RoundTrip.{code_back}

-- WHAT IS LENT
-- `says` is the program's, and what a line leads to is numbered from 1: a 0 in `says` is for no line
pub record Moves (p : Program) (says : List ℕ) : Type 0 where
  pub told : Says p says
  pub step_from_1 : (n e t : ℕ) → Step p n e ≡ some t → 1 ≤ t
  pub call_from_1 : (n e t : ℕ) → Call p n e ≡ some t → 1 ≤ t
  pub act_there : (n e a : ℕ) → ActionOf p n e ≡ some a → There ACTIONS a

-- the tables: `says`, and the states' own
pub record Tables (p : Program) (says kinds entries exits flags : List ℕ) : Type 0 where
  pub lines : Moves p says
  pub states : p.states ≡ states_of kinds entries exits flags

-- the map whose 64 places begin at b
abbrev pub map_at : Program → ℕ → List ℕ → List Reply
map_at p b maps = map reply_of (take (length p.events) (part b EVENTS maps))

-- LOOKING UP
-- something is there where its number is not 0
some_there : (o : Option ℕ) (x : ℕ) → x ≡ or_zero o → ((t : ℕ) → o ≡ some t → 1 ≤ t) → is_some o ≡ not (eqb x 0)
some_there none x q f = rw (eq-eqb x 0 q)
some_there (some t) x q f = rw (ne_eqb x 0 (λ z. omega (arith, f t refl)))

-- the state has a transition for the event, by the numbers of its step and its call
abbrev pub moves : List ℕ → ℕ → ℕ → Bool
moves says n e = not (eqb (get_or says (said_at n e) 0) 0) || not (eqb (get_or says (said_at n e + 1) 0) 0)

-- a transition or an action
abbrev pub owns : List ℕ → ℕ → ℕ → Bool
owns says n e = moves says n e || not (eqb (get_or says (said_at n e + 2) 0) 0)

module _ (p : Program) (says : List ℕ) (l : Moves p says) (n e : ℕ) (hn : n ≤ STATES) (he : e ≤ EVENTS) where
  -- a step is there where its number is not 0,
  step_said : is_some (Step p n e) ≡ not (eqb (get_or says (said_at n e) 0) 0)
  step_said = some_there (Step p n e) _ (l.told.step n e hn he) (l.step_from_1 n e)

  -- and so is a transition,
  moves_said : Trans p n e ≡ moves says n e
  moves_said = rw (step_said, some_there (Call p n e) _ (l.told.call n e hn he) (l.call_from_1 n e))

  -- and one of the three.
  owns_said : owns says n e ≡ (Trans p n e || is_some (ActionOf p n e))
  owns_said = sym (rw (moves_said, some_there (ActionOf p n e) _ (l.told.act n e hn he) (λ a q. (l.act_there n e a q).0)))

-- what the accessors say of the states is what the program says
module _ (p : Program) (says kinds entries exits flags : List ℕ) (t : Tables p says kinds entries exits flags) where
  pub deferred_said : (n e : ℕ) → Deferred p n e ≡ any (eqb e) (at no_state (states_of kinds entries exits flags) n).defer
  deferred_said n e = rw t.states

  pub exit_said : (n : ℕ) → Exit p n ≡ (at no_state (states_of kinds entries exits flags) n).exit
  exit_said n = rw t.states

-- THE MAP
-- Entry j from 0 of the map at b,
entry_get : (p : Program) (b : ℕ) (maps : List ℕ) (j : ℕ) → j < length p.events → j < EVENTS → get_or (map_at p b maps) j nothing ≡ reply_of (get_or maps (b + j) 0)
entry_get p b maps j h k =
    get_or-map reply_of (take (length p.events) (part b EVENTS maps)) j 0
    ∙ ap reply_of (get_or-take (length p.events) (part b EVENTS maps) j 0 h ∙ part_get b EVENTS maps j 0 k)

-- and the one of event e.
pub entry_at_lem : (p : Program) (b : ℕ) (maps : List ℕ) (e : ℕ) → There (length p.events) e → e ≤ EVENTS → entry_at (map_at p b maps) e ≡ reply_of (get_or maps (b + (e - 1)) 0)
entry_at_lem p b maps zero h k = absurd (omega arith)
entry_at_lem p b maps (suc e) h k = let q : suc e - 1 ≡ e = omega arith in rw q (entry_get p b maps e (omega arith) (omega arith))

-- An entry is ⊤ where its number is 255,
deferred_code : (x : ℕ) → is_deferred (reply_of x) ≡ eqb x 255
deferred_code x = dite (ℕ_discrete x 0) (λ q. rw q) (λ z. rw (ne_eqb x 0 z) (top (eqb x 255)))
  where
    top : (b : Bool) → is_deferred (cond b deferred (action x)) ≡ b
    top true = refl
    top false = refl

-- and no action where it is 0 or 255.
action_code : (x : ℕ) → not (is_some (is_action (reply_of x))) ≡ (eqb x 0 || eqb x 255)
action_code x = by (eqb x 0) (eqb x 255)
  where
    by : (a b : Bool) → not (is_some (is_action (cond a nothing (cond b deferred (action x))))) ≡ (a || b)
    by true b = refl
    by false true = refl
    by false false = refl

-- THE ANSWERS, by the numbers
-- what is asked: 64 places from b on, a state and an event
pub record Asked (b n e : ℕ) : Type 0 where
  pub inside : b + EVENTS ≤ 16384
  pub state : n ≤ STATES
  pub from_1 : 1 ≤ e
  pub event : e ≤ EVENTS

module _ (p : Program) (says maps : List ℕ) (l : Moves p says) (b n e : ℕ) (q : Asked b n e) (hp : e ≤ length p.events) where
  -- what is held back
  pub held_is : held_back p n (map_at p b maps) e ≡ cond (owns says n e) false (eqb (get_or maps (b + (e - 1)) 0) 255 || Deferred p n e)
  held_is = rw (entry_at_lem p b maps e (q.from_1, hp) q.event, deferred_code, owns_said p says l n e q.state q.event) (unless _ (Trans p n e || is_some (ActionOf p n e)))
    where
      unless : (a b : Bool) → (a && not b) ≡ cond b false a
      unless true true = refl
      unless true false = refl
      unless false true = refl
      unless false false = refl

  -- what pops
  pub pop_is : Pop p n (map_at p b maps) e ≡ ((eqb (get_or maps (b + (e - 1)) 0) 0 || eqb (get_or maps (b + (e - 1)) 0) 255) && not (owns says n e))
  pop_is = rw (entry_at_lem p b maps e (q.from_1, hp) q.event, action_code, owns_said p says l n e q.state q.event) (nots (is_some (Step p n e)) (is_some (Call p n e)) (is_some (ActionOf p n e)) _)
    where
      nots : (a b c d : Bool) → (not a && not b && not c && d) ≡ (d && not ((a || b) || c))
      nots true b c true = refl
      nots true b c false = refl
      nots false true c true = refl
      nots false true c false = refl
      nots false false true true = refl
      nots false false true false = refl
      nots false false false true = refl
      nots false false false false = refl

  -- what is put before a pending raise, where r is whether the event pops
  pub exit_is : (r : Bool) → r ≡ Pop p n (map_at p b maps) e → exit_or_skip p n (map_at p b maps) e ≡ cond (not (eqb (get_or says (said_at n e) 0) 0)) (Exit p n) (cond r (Exit p n) 0)
  exit_is r pop = ap (λ (c : Bool). cond (c || is_some (Step p n e)) (Exit p n) 0) (sym pop)
      ∙ either r (is_some (Step p n e)) ∙ ap (λ (c : Bool). cond c (Exit p n) (cond r (Exit p n) 0)) (step_said p says l n e q.state q.event)
    where
      either : (a b : Bool) → cond (a || b) (Exit p n) 0 ≡ cond b (Exit p n) (cond a (Exit p n) 0)
      either true true = refl
      either true false = refl
      either false b = refl

-- THE CALLEE'S MAP
-- the action's number where there is one
act_or : (o : Option ℕ) (x : ℕ) (r : Reply) → x ≡ or_zero o → ((a : ℕ) → o ≡ some a → There ACTIONS a) → reply_code (on_opt o r action) ≡ cond (eqb x 0) (reply_code r) x
act_or none x r q f = rw (eq-eqb x 0 q)
act_or (some a) x r q f = rw (ne_eqb x 0 (λ z. omega (arith, f a refl))) (sym q)

-- an entry, by the numbers
pub inherits_is : (p : Program) (says : List ℕ) (l : Moves p says) (n e old : ℕ) → n ≤ STATES → e ≤ EVENTS
    → reply_code (inherits p n e (reply_of old)) ≡ cond (moves says n e) 0 (cond (eqb (get_or says (said_at n e + 2) 0) 0) (cond (Deferred p n e) 255 old) (get_or says (said_at n e + 2) 0))
inherits_is p says l n e old hn he =
    rw (moves_said p says l n e hn he)
    (unless (moves says n e) _
    ∙ ap (cond (moves says n e) 0)
    (act_or (ActionOf p n e) _ _ (l.told.act n e hn he) (l.act_there n e)
    ∙ ap (λ (x : ℕ). cond (eqb (get_or says (said_at n e + 2) 0) 0) x (get_or says (said_at n e + 2) 0)) (own (Deferred p n e))))
  where
    unless : (c : Bool) (r : Reply) → reply_code (cond c nothing r) ≡ cond c 0 (reply_code r)
    unless true r = refl
    unless false r = refl

    own : (d : Bool) → reply_code (cond d deferred (reply_of old)) ≡ cond d 255 old
    own true = refl
    own false = code_back old

-- the same by the line that is looked up
pub inherits_line : (p : Program) (says : List ℕ) (l : Moves p says) (n e old : ℕ) (hn : n ≤ STATES) (he : e ≤ EVENTS) (line : Line) → line ≡ line_at says n e
    → reply_code (inherits p n e (reply_of old)) ≡ cond (moves says n e) 0 (cond (eqb line.act 0) (cond (Deferred p n e) 255 old) line.act)
inherits_line p says l n e old hn he line is = rw (is ∙ line_here says n e hn he) (inherits_is p says l n e old hn he)

-- the callee's map as it is stored: an entry for each event, then zeros
abbrev pub called : Program → ℕ → List Reply → List ℕ
called p n α = pad 0 EVENTS (map reply_code (call_map p n α))

-- entry j from 0, of the list that begins at event e
inherits_get : (p : Program) (n e : ℕ) (α : List Reply) (j : ℕ) → j < length α → get_or (inherits_from p n e α) j nothing ≡ inherits p n (e + j) (get_or α j nothing)
inherits_get p n e [] j h = absurd (omega arith)
inherits_get p n e (x ∷ α) zero h = let q : e + 0 ≡ e = omega arith in rw q
inherits_get p n e (x ∷ α) (suc j) h = let q : e + suc j ≡ suc e + j = omega arith in rw q (inherits_get p n (suc e) α j (omega arith))

module _ (p : Program) (n from : ℕ) (maps₀ : List ℕ) (few : length p.events ≤ EVENTS) (inside : from + 128 ≤ length maps₀) where
  -- as many entries as events,
  entries : length (call_map p n (map_at p from maps₀)) ≡ length p.events
  entries = inherits_length p n 1 (map_at p from maps₀) ∙ length-map (take (length p.events) (part from EVENTS maps₀)) reply_of
      ∙ length-take-le (length p.events) (part from EVENTS maps₀) (omega (arith, part_length from EVENTS maps₀ (omega arith)))

  -- in 64 places:
  pub called_length : length (called p n (map_at p from maps₀)) ≡ 64
  called_length = pad_length 0 EVENTS (map reply_code (call_map p n (map_at p from maps₀))) (omega (arith, entries, length-map (call_map p n (map_at p from maps₀)) reply_code))

  -- entry k,
  called_get : (k : ℕ) → k < length p.events → get_or (called p n (map_at p from maps₀)) k 0 ≡ reply_code (inherits p n (k + 1) (reply_of (get_or maps₀ (from + k) 0)))
  called_get k h =
      let c : 1 + k ≡ k + 1 = omega arith in
      pad_get 0 EVENTS (map reply_code (call_map p n (map_at p from maps₀))) k ∙ get_or-map reply_code (call_map p n (map_at p from maps₀)) k nothing
      ∙ ap reply_code (inherits_get p n 1 (map_at p from maps₀) k (omega (arith, entries, inherits_length p n 1 (map_at p from maps₀))))
      ∙ rw (c, entry_get p from maps₀ k h (omega arith))

  -- and a zero behind them.
  called_past : (k : ℕ) → length p.events ≤ k → get_or (called p n (map_at p from maps₀)) k 0 ≡ 0
  called_past k h = pad_get 0 EVENTS (map reply_code (call_map p n (map_at p from maps₀))) k
      ∙ get_or-eq_default (map reply_code (call_map p n (map_at p from maps₀))) 0 (omega (arith, entries, length-map (call_map p n (map_at p from maps₀)) reply_code))

  -- The loops: of the 64 places the first k are stored
  module _ (maps : List ℕ) (k : ℕ) (inv : maps ≡ filled (from + 64) 64 (called p n (map_at p from maps₀)) maps₀ k) where
    -- one more entry,
    pub call_more : (x : ℕ) → k < length p.events → x ≡ reply_code (inherits p n (k + 1) (reply_of (get_or maps (from + k) 0)))
        → set maps (from + 64 + k) x ≡ filled (from + 64) 64 (called p n (map_at p from maps₀)) maps₀ (k + 1)
    call_more x h q =
        let o : get_or maps (from + k) 0 ≡ get_or maps₀ (from + k) 0 =
        ap (λ (m : List ℕ). get_or m (from + k) 0) inv
        ∙ filled_off 0 (from + 64) 64 (called p n (map_at p from maps₀)) maps₀ (omega arith) called_length k (from + k) (inl (omega arith)) in
        let v : x ≡ get_or (called p n (map_at p from maps₀)) k 0 = q ∙ rw o (sym (called_get k h)) in
        rw (inv, v) (filled_more 0 (from + 64) 64 (called p n (map_at p from maps₀)) maps₀ (omega arith) called_length k (omega arith))

    -- one more zero.
    pub call_zero : length p.events ≤ k → k < 64 → set maps (from + 64 + k) 0 ≡ filled (from + 64) 64 (called p n (map_at p from maps₀)) maps₀ (k + 1)
    call_zero h b =
        rw inv (rw (called_past k h) at (filled_more 0 (from + 64) 64 (called p n (map_at p from maps₀)) maps₀ (omega arith) called_length k b))

-- READ BACK
module _ (p : Program) (says : List ℕ) (l : Moves p says) where
  -- an entry of the callee's map
  reply_back : (n e x : ℕ) → reply_of (reply_code (inherits p n e (reply_of x))) ≡ inherits p n e (reply_of x)
  reply_back n e x = moved (Trans p n e)
    where
      own : (d : Bool) → reply_of (reply_code (cond d deferred (reply_of x))) ≡ cond d deferred (reply_of x)
      own true = refl
      own false = rw (code_back x)

      acts : (o : Option ℕ) → ((a : ℕ) → o ≡ some a → There ACTIONS a)
          → reply_of (reply_code (on_opt o (cond (Deferred p n e) deferred (reply_of x)) action)) ≡ on_opt o (cond (Deferred p n e) deferred (reply_of x)) action
      acts none f = own (Deferred p n e)
      acts (some a) f = rw (ne_eqb a 0 (λ z. omega (arith, f a refl)), ne_eqb a 255 (λ z. omega (arith, f a refl)))

      moved : (c : Bool)
          → reply_of (reply_code (cond c nothing (on_opt (ActionOf p n e) (cond (Deferred p n e) deferred (reply_of x)) action)))
          ≡ cond c nothing (on_opt (ActionOf p n e) (cond (Deferred p n e) deferred (reply_of x)) action)
      moved true = refl
      moved false = acts (ActionOf p n e) (l.act_there n e)

  -- all of them
  replies_back : (n e : ℕ) (xs : List ℕ) → map reply_of (map reply_code (inherits_from p n e (map reply_of xs))) ≡ inherits_from p n e (map reply_of xs)
  replies_back n e [] = refl
  replies_back n e (x ∷ xs) = rw (reply_back n e x, replies_back n (suc e) xs)

  -- THE MAP THAT A CALL STORES is the callee's
  pub called_read : (n from : ℕ) (maps : List ℕ) → length p.events ≤ EVENTS → from + 128 ≤ length maps
      → map_at p (from + 64) (put (from + 64) (called p n (map_at p from maps)) maps) ≡ call_map p n (map_at p from maps)
  called_read n from maps few inside =
      let k : length p.events ≡ length (map reply_code (call_map p n (map_at p from maps))) =
      sym (length-map (call_map p n (map_at p from maps)) reply_code ∙ entries p n from maps few inside) in
      ap (λ (r : List ℕ). map reply_of (take (length p.events) r)) (part_put 0 (from + 64) 64 (called p n (map_at p from maps)) maps (called_length p n from maps few inside) (omega arith))
      ∙ ap (λ (m : ℕ). map reply_of (take m (called p n (map_at p from maps)))) k
      ∙ ap (map reply_of) (pad_take 0 EVENTS (map reply_code (call_map p n (map_at p from maps))))
      ∙ replies_back n 1 (take (length p.events) (part from EVENTS maps))
