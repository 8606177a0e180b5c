-- The values of a machine that stands in a room, 19 numbers of the flat list: which value each is, what an expression gives of them, and what a store of one
-- makes of them.
use Rattle.std.specs.Prelude.{ℕ, zero, suc, ◌+◌, ◌-◌, ◌*◌, ◌/◌, ◌%◌, ◌^◌, ◌≤◌, ◌<◌, ◌≡◌, refl, Bool, true, false, List, [], ◌∷◌, ◌++◌, map, length, get_or, set, take}
use Rattle.std.proofs.Common.{sym, ap, ◌∙◌, inl, inr, ⊎_elim, true≢false, arith, eq-eqb, length-set, get_or-append-add}
use Rattle.std.proofs.lemmas.List.{length-map, set-append_left}
use Rattle.std.proofs.Math.ListN.{get_or-map, get_or-append}
use Rattle.lists.specs.Lists.{keep, push, All, There, there}
use Rattle.lists.specs.Tells.{there_is}
use Rattle.lists.specs.Facts.{All-get_d, All-places, has}
use Rattle.lists.specs.Keep.{map_set}
use Rattle.rows.specs.Pad.{pad, pad_length, pad_get, pad_set, below?}
use Rattle.rows.specs.Part.{part, part_get, row_set}
use Rattle.values.specs.declared.Value.{Value}
use Rattle.values.specs.declared.Value.TheVariants.{Undefined as undefined, Event as vevent}
use Rattle.values.specs.Values.{id_of}
use Rattle.programs.specs.Program.{Program, stmt_at, variable_at, variables_of, is_of, place}
use Rattle.programs.specs.Statements.{exprs_of, serves}
use Rattle.programs.specs.Trees.{tree, stars}
use Rattle.soundness.specs.Asked.{refers}
use Rattle.soundness.specs.Sound.{Sound}
use Rattle.soundness.specs.Lines.{variable_meets}
use Rattle.soundness.specs.Founded.{VariableOf}
use Rattle.machines.specs.Config.{Machine}
use Rattle.machines.specs.Eval.{store_of, eval}
use Rattle.machines.specs.Locals.{sets, told}
use Rattle.machines.specs.Rooms.{set_local}
use Rattle.acceptance.specs.Accepted.{ValueOk, PartOk}
use Rattle.acceptance.specs.Typed.{typed_length, typed_values}
use Rattle.kept.specs.KeptValue.{value_ok}
use Rattle.codes.specs.Codes.{code_of, value_of, Holdable, Canonical}
use Rattle.codes.specs.Laws.{value_code, code_small, code_canonical}
use Rattle.tables.specs.Decode as decode
use Rattle.index.specs.Index.{Places}
use Rattle.evaluation.specs.Evaluated.{store_in, REST, evaluated, Readable}
use Rattle.evaluation.specs.Own.{Agree, own_tree, evaluated_is}
use Rattle.configs.specs.Encode.{taken}
use Rattle.configs.proofs.RoundTrip.{holdable, value_back}
use Rattle.configs.specs.declared.Flat.{Flat}
use Rattle.engine.specs.Engine.{Stands}

-- LISTS
module _ {A : Type 0} where
  -- of the elements that pass, fewer stand before one that does
  kept_before : (f : A → Bool) (d : A) (l : List A) (i : ℕ) → i < length l → f (get_or l i d) ≡ true → length (keep f (take i l)) < length (keep f l)
  kept_before f d [] i h e = absurd (omega arith)
  kept_before f d (x ∷ l) zero h e = rw e (omega arith)
  kept_before f d (x ∷ l) (suc i) h e = go (f x) (kept_before f d l i (omega arith) e)
    where
      go : (b : Bool) → length (keep f (take i l)) < length (keep f l) → length (push b x (keep f (take i l))) < length (push b x (keep f l))
      go true q = omega arith
      go false q = q

  -- a store behind a list
  set_behind : (xs ys : List A) (i : ℕ) (v : A) → set (xs ++ ys) (length xs + i) v ≡ xs ++ set ys i v
  set_behind [] ys i v = let e : 0 + i ≡ i = omega arith in rw e
  set_behind (x ∷ xs) ys i v = let e : suc (length xs) + i ≡ suc (length xs + i) = omega arith in rw (e, set_behind xs ys i v)

-- PLACES
module _ (p : Program) (sound : Sound p) (places : List ℕ) (here : Places p places) where
  -- a variable of kind k has its place,
  pub place_own : (k x : ℕ) → VariableOf p k x → get_or places x 0 ≡ place p k x
  place_own k x o = here.place x o.0 ∙ ap (λ (i : ℕ). length (keep (is_of i) (take (x - 1) p.variables))) o.1

  -- which is one of its kind's
  pub place_there : (k x : ℕ) → VariableOf p k x → place p k x < length (variables_of p k)
  place_there k zero o = absurd (omega (arith, o.0.0))
  place_there k (suc x) o = let e : suc x - 1 ≡ x = omega arith in rw e (kept_before (is_of k) _ p.variables x (omega (arith, o.0.1)) (eq-eqb _ k o.1))

  -- every place is one of 16
  pub place_16 : (x : ℕ) → get_or places x 0 < 16
  place_16 x = by_there (there (length p.variables) x) refl
    where
      by_there : (b : Bool) → there (length p.variables) x ≡ b → get_or places x 0 < 16
      by_there true e =
          let t = (there_is (length p.variables) x).holds e in
          let of : There p.machines (variable_at p x).of = variable_meets p (refers p) sound.all_refer x t in
          omega (arith, place_own (variable_at p x).of x (t, refl), place_there (variable_at p x).of x (t, refl), sound.is_sized.1.1.0 (variable_at p x).of of)
      by_there false e = rw (here.none x (λ t. true≢false (sym ((there_is (length p.variables) x).test t) ∙ e))) (omega arith)

  pub places_small : All (λ n. n < 16) places
  places_small = All-places (λ n. n < 16) 0 places (λ i h. place_16 i)

-- THE VALUES OF A MACHINE
module _ (p : Program) (f : Flat) (k : ℕ) (m : Machine) (sound : Sound p) (s : Stands p f k m) where
  -- as many as its kind has variables,
  pub variables_count : length m.loc.variables ≡ length (variables_of p m.loc.kind)
  variables_count = typed_length p f.next (variables_of p m.loc.kind) m.loc.variables s.ok.loc_ok.vars

  -- which are at most 16:
  pub variables_16 : length m.loc.variables ≤ 16
  variables_16 = omega (arith, variables_count, sound.is_sized.1.1.0 m.loc.kind s.ok.loc_ok.kind_there)

  -- with zeros behind them they take 16 places
  width : length (pad 0 16 (map code_of m.loc.variables)) ≡ 16
  width = pad_length 0 16 (map code_of m.loc.variables) (omega (arith, variables_16, length-map m.loc.variables code_of))

  -- the number at place j
  place_is : (j : ℕ) → j < 19 → get_or f.values (k * 19 + j) 0 ≡ get_or (taken m).values j 0
  place_is j h = sym (part_get (k * 19) 19 f.values j 0 h) ∙ ap (λ r. get_or r.values j 0) s.holds

  -- THE 19 NUMBERS: the variables',
  pub variable_is : (j : ℕ) → j < 16 → get_or f.values (k * 19 + j) 0 ≡ code_of (get_or m.loc.variables j undefined)
  variable_is j h = place_is j (omega arith) ∙ get_or-append (pad 0 16 (map code_of m.loc.variables)) _ 0 j (omega (arith, width))
      ∙ pad_get 0 16 (map code_of m.loc.variables) j ∙ get_or-map code_of m.loc.variables j undefined

  -- behind them
  behind_is : (j : ℕ) → j < 3 → get_or f.values (k * 19 + (16 + j)) 0 ≡ get_or (code_of (id_of m.this) ∷ code_of m.loc.msg ∷ code_of m.loc.arg ∷ []) j 0
  behind_is j h = place_is (16 + j) (omega arith) ∙ ap (λ (n : ℕ). get_or (taken m).values (n + j) 0) (sym width)
      ∙ get_or-append-add (pad 0 16 (map code_of m.loc.variables)) _ j 0

  -- that of `this`,
  pub this_is : get_or f.values (k * 19 + 16) 0 ≡ code_of (id_of m.this)
  this_is = behind_is 0 (omega arith)

  -- of msg,
  pub msg_is : get_or f.values (k * 19 + 17) 0 ≡ code_of m.loc.msg
  msg_is = behind_is 1 (omega arith)

  -- and of arg
  pub arg_is : get_or f.values (k * 19 + 18) 0 ≡ code_of m.loc.arg
  arg_is = behind_is 2 (omega arith)

  -- a variable's value is one
  variable_ok : (j : ℕ) → ValueOk p f.next (get_or m.loc.variables j undefined)
  variable_ok j = All-get_d (ValueOk p f.next) undefined m.loc.variables j tt (typed_values p f.next (variables_of p m.loc.kind) m.loc.variables s.ok.loc_ok.vars)

  -- and so is `this`
  this_ok : ValueOk p f.next (id_of m.this)
  this_ok = (s.ok.low, s.ok.high)

  -- the number of a value of the machine is some value's
  code_own : (n : ℕ) (v : Value) → n ≡ code_of v → ValueOk p f.next v → Canonical n
  code_own n v e h = rw e (code_canonical v (holdable p f.next sound s.spent v h))

  -- each of the 19 is
  pub places_canonical : (j : ℕ) → j < 19 → Canonical (get_or f.values (k * 19 + j) 0)
  places_canonical j h = ⊎_elim
      (λ (b : j < 16). code_own _ (get_or m.loc.variables j undefined) (variable_is j b) (variable_ok j))
      (λ (b : 16 ≤ j). ⊎_elim
      (λ (c : j < 17). let e : j ≡ 16 = omega arith in rw e (code_own _ (id_of m.this) this_is this_ok))
      (λ (c : 17 ≤ j). ⊎_elim
      (λ (d : j < 18). let e : j ≡ 17 = omega arith in rw e (code_own _ m.loc.msg msg_is s.ok.loc_ok.msg_ok.0))
      (λ (d : 18 ≤ j). let e : j ≡ 18 = omega arith in rw e (code_own _ m.loc.arg arg_is s.ok.loc_ok.arg_ok))
      (below? j 18))
      (below? j 17))
      (below? j 16)

  -- WHAT EVALUATION IS ASKED
  pub readable : (places : List ℕ) → Places p places → Readable places f.values (k * 19)
  readable places here = record {
    places_length = here.size;
    places_small = places_small p sound places here;
    values_length = s.sized.values_608;
    room = omega (arith, s.room);
    canonical = places_canonical;
  }

  -- a value read back
  back : (n : ℕ) (v : Value) → n ≡ code_of v → ValueOk p f.next v → value_of n ≡ v
  back n v e h = ap value_of e ∙ value_back p f.next sound s.spent v h

  -- the store that the list holds is the machine's
  pub agrees : (places : List ℕ) → Places p places → Agree (VariableOf p m.loc.kind) (store_in places f.values (k * 19)) (store_of p m.this m.loc)
  agrees places here = record {
    variable = λ x o.
        let e = place_own p sound places here m.loc.kind x o in
        let b : place p m.loc.kind x < 16 = omega (arith, place_there p sound places here m.loc.kind x o, variables_count, variables_16) in
        rw e (back _ _ (variable_is (place p m.loc.kind x) b) (variable_ok (place p m.loc.kind x)));
    this = back _ _ this_is this_ok;
    msg = back _ _ msg_is s.ok.loc_ok.msg_ok.0;
    arg = back _ _ arg_is s.ok.loc_ok.arg_ok;
  }

  -- an expression's value is one of the machine's
  pub eval_ok : (w j e : ℕ) → ValueOk p f.next (eval p m.this m.loc w j e)
  eval_ok w j e = value_ok p f.next m.this m.loc w s.ok.low s.ok.high s.ok.loc_ok j (tree p e)

  -- and can be held
  pub eval_held : (w j e : ℕ) → Holdable (eval p m.this m.loc w j e)
  eval_held w j e = holdable p f.next sound s.spent (eval p m.this m.loc w j e) (eval_ok w j e)

  -- THE HEAD'S EXPRESSIONS
  module _ (exprs places : List ℕ) (same : p.exprs ≡ decode.exprs_of exprs) (here : Places p places) (h : ℕ) (r : List ℕ) (head : m.loc.row ≡ h ∷ r) (e : ℕ) (of : has e (exprs_of (stmt_at p h))) where
    -- the head serves the machine's kind
    pub head_serves : serves p m.loc.kind h ≡ true
    head_serves = go (head_ok m.loc.row head s.ok.loc_ok.row_ok.suited)
      where
        head_ok : (l : List ℕ) → l ≡ h ∷ r → All (PartOk p m.loc.kind) l → PartOk p m.loc.kind h
        head_ok l q a = (rw q at a).0

        go : PartOk p m.loc.kind h → serves p m.loc.kind h ≡ true
        go (inl z) = absurd (true≢false (sym (rw z at of)))
        go (inr z) = z.1

    module _ (w j u : ℕ) (bits : u ≡ w / 2 ^ j) where
      -- WHAT `eval` GIVES, where the j lowest of the choice's bits w are taken
      pub evaluates : evaluated exprs places f.values (k * 19) e u ≡ code_of (eval p m.this m.loc w j e) + (w / 2 ^ (j + stars (tree p e))) * REST
      evaluates = evaluated_is p exprs places f.values (k * 19) m.this m.loc m.loc.kind e w j (sym same) (agrees places here)
          (own_tree p m.loc.kind sound h e head_serves of) bits

      -- below, the number of the definition's value
      pub gives_code : evaluated exprs places f.values (k * 19) e u % REST ≡ code_of (eval p m.this m.loc w j e)
      gives_code = rw evaluates (omega (arith, code_small (eval p m.this m.loc w j e) (eval_held w j e)))

      -- so the value
      pub gives_value : value_of (evaluated exprs places f.values (k * 19) e u % REST) ≡ eval p m.this m.loc w j e
      gives_value = ap value_of gives_code ∙ value_code (eval p m.this m.loc w j e) (eval_held w j e)

      -- above, the bits that are left
      pub gives_rest : evaluated exprs places f.values (k * 19) e u / REST ≡ w / 2 ^ (j + stars (tree p e))
      gives_rest = rw evaluates (omega (arith, code_small (eval p m.this m.loc w j e) (eval_held w j e)))

  -- STORES
  -- the values with one of the 19 stored
  stored_at : (j v : ℕ) → j < 19 → part (k * 19) 19 (set f.values (k * 19 + j) v) ≡ set (taken m).values j v
  stored_at j v h = row_set 0 19 k f.values (omega (arith, s.sized.values_608, s.room)) j v h ∙ ap (λ r. set r.values j v) s.holds

  -- σ[x := v]
  pub variable_set : (places : List ℕ) → Places p places → (x : ℕ) → VariableOf p m.loc.kind x → (v : Value)
      → part (k * 19) 19 (set f.values (k * 19 + get_or places x 0) (code_of v)) ≡ (taken (set_local (sets p x v m.loc) m)).values
  variable_set places here x o v =
      let e = place_own p sound places here m.loc.kind x o in
      let b : place p m.loc.kind x < length (map code_of m.loc.variables) = omega (arith, place_there p sound places here m.loc.kind x o, variables_count, length-map m.loc.variables code_of) in
      rw e (stored_at (place p m.loc.kind x) (code_of v) (omega (arith, variables_16, length-map m.loc.variables code_of))
      ∙ set-append_left (pad 0 16 (map code_of m.loc.variables)) _ (place p m.loc.kind x) (code_of v) (omega (arith, width, variables_16, length-map m.loc.variables code_of))
      ∙ ap (λ (l : List ℕ). l ++ code_of (id_of m.this) ∷ code_of m.loc.msg ∷ code_of m.loc.arg ∷ [])
      (pad_set 0 16 (map code_of m.loc.variables) (place p m.loc.kind x) (code_of v) b ∙ ap (pad 0 16) (sym (map_set code_of m.loc.variables (place p m.loc.kind x) v))))

  -- σ[msg := e][arg := v]
  pub told_set : (e : ℕ) (v : Value) → part (k * 19) 19 (set (set f.values (k * 19 + 17) (code_of (vevent e))) (k * 19 + 18) (code_of v)) ≡ (taken (set_local (told e v m.loc) m)).values
  told_set e v =
      row_set 0 19 k (set f.values (k * 19 + 17) (code_of (vevent e))) (omega (arith, length-set f.values (k * 19 + 17) (code_of (vevent e)), s.sized.values_608, s.room)) 18 (code_of v) (omega arith)
      ∙ ap (λ (l : List ℕ). set l 18 (code_of v)) (stored_at 17 (code_of (vevent e)) (omega arith)) ∙ behind
    where
      at : (i v : ℕ) (l : List ℕ) → set (pad 0 16 (map code_of m.loc.variables) ++ l) (16 + i) v ≡ pad 0 16 (map code_of m.loc.variables) ++ set l i v
      at i v l = ap (λ (n : ℕ). set (pad 0 16 (map code_of m.loc.variables) ++ l) (n + i) v) (sym width) ∙ set_behind (pad 0 16 (map code_of m.loc.variables)) l i v

      behind : set (set (taken m).values 17 (code_of (vevent e))) 18 (code_of v) ≡ (taken (set_local (told e v m.loc) m)).values
      behind = ap (λ (l : List ℕ). set l 18 (code_of v)) (at 1 (code_of (vevent e)) _) ∙ at 2 (code_of v) _
