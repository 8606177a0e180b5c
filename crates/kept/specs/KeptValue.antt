-- Values stay values: what an expression gives, what a variable holds; and all of it as the next live number grows.
use Rattle.std.specs.Prelude.{ℕ, zero, suc, ◌+◌, ◌-◌, ◌≤◌, ◌<◌, ◌≡◌, refl, Bool, true, false, List, [], ◌∷◌, map, ℤ, length, get_or, set, take}
use Rattle.std.proofs.Common.{sym, ◌∙◌, true≢false, arith, eq-eqb}
use Rattle.lists.specs.Lists.{keep, push}
use Rattle.lists.specs.Facts.{All-map, All-get_d}
use Rattle.values.specs.declared.Value.{Value}
use Rattle.values.specs.declared.Value.TheVariants.{Undefined as undefined, Bool as vbool, Int as vint, Event as vevent, Id as vid}
use Rattle.values.specs.Values.{checked, apply1, apply2}
use Rattle.values.specs.Given.{checked_given, apply1_given, apply2_given}
use Rattle.values.specs.declared.Unary.{Unary}
use Rattle.values.specs.declared.Binary.{Binary}
use Rattle.programs.specs.Program.{Program, Variable, variable_at, variables_of, is_of, place}
use Rattle.programs.specs.declared.Leaf.{Leaf}
use Rattle.programs.specs.declared.Leaf.TheVariants.{Int as int_val, Bool as bool_val, Var as var, This as this, Msg as msg, Arg as arg, Bot as bot, Star as star}
use Rattle.programs.specs.Trees.{Tree, tip, one, two, stars}
use Rattle.machines.specs.Config.{Pending, idle, raising, returning, Pair, Local, Machine}
use Rattle.machines.specs.Eval.{store_of, value}
use Rattle.soundness.specs.Founded.{VariableOf}
use Rattle.acceptance.specs.Accepted.{ValueOk, Typed, TypedAll, PairOk, PendingOk, LocalOk, MachineOk}
use Rattle.acceptance.specs.Typed.{typed_values}

module _ (p : Program) (next : ℕ) where
  -- OPERATORS
  checked_ok : (z : ℤ) → ValueOk p next (checked z)
  checked_ok = checked_given (ValueOk p next) tt (λ b. tt) (λ z h. h)

  apply1_ok : (o : Unary) (x : Value) → ValueOk p next (apply1 o x)
  apply1_ok = apply1_given (ValueOk p next) tt (λ b. tt) (λ z h. h)

  apply2_ok : (o : Binary) (x y : Value) → ValueOk p next (apply2 o x y)
  apply2_ok = apply2_given (ValueOk p next) tt (λ b. tt) (λ z h. h)

  -- VARIABLES
  pub blank_typed : (xs : List Variable) → TypedAll p next xs (map (λ v. undefined) xs)
  blank_typed [] = tt
  blank_typed (x ∷ xs) = ((tt, refl), blank_typed xs)

  module _ (k : ℕ) (d : Variable) (v : Value) where
    set_typed : (l : List Variable) (i : ℕ) (vs : List Value) → i < length l → (get_or l i d).of ≡ k → Typed p next (get_or l i d).type v →
        TypedAll p next (keep (is_of k) l) vs → TypedAll p next (keep (is_of k) l) (set vs (length (keep (is_of k) (take i l))) v)
    set_typed [] i vs h e t a = absurd (omega arith)
    set_typed (x ∷ l) zero vs h e t a = go (is_of k x) refl vs a
      where
        go : (b : Bool) → is_of k x ≡ b → (vs : List Value) → TypedAll p next (push b x (keep (is_of k) l)) vs → TypedAll p next (push b x (keep (is_of k) l)) (set vs 0 v)
        go true f [] a = absurd a
        go true f (u ∷ vs) a = (t, a.1)
        go false f vs a = absurd (true≢false (sym (eq-eqb x.of k e) ∙ f))
    set_typed (x ∷ l) (suc i) vs h e t a = go (is_of k x) vs (λ vs. set_typed l i vs (omega arith) e t) a
      where
        go : (b : Bool) (vs : List Value) → ((vs : List Value) → TypedAll p next (keep (is_of k) l) vs → TypedAll p next (keep (is_of k) l) (set vs (length (keep (is_of k) (take i l))) v)) →
            TypedAll p next (push b x (keep (is_of k) l)) vs → TypedAll p next (push b x (keep (is_of k) l)) (set vs (length (push b x (keep (is_of k) (take i l)))) v)
        go true [] ih a = absurd a
        go true (u ∷ vs) ih a = (a.0, ih vs a.1)
        go false vs ih a = ih vs a

  -- a value of its type, put into a variable of the kind
  pub sets_typed : (k x : ℕ) (v : Value) (vs : List Value) → VariableOf p k x → Typed p next (variable_at p x).type v → TypedAll p next (variables_of p k) vs →
      TypedAll p next (variables_of p k) (set vs (place p k x) v)
  sets_typed k zero v vs h t a = absurd (omega (arith, h.0.0))
  sets_typed k (suc i) v vs h t a = let e : suc i - 1 ≡ i = omega arith in rw e (set_typed k _ v p.variables i vs (omega (arith, h.0.1)) h.1 t a)

  -- EXPRESSIONS
  module _ (i : ℕ) (l : Local) (w : ℕ) (low : 1 ≤ i) (high : i < next) (h : LocalOk p next l) where
    leaf_ok : (k : ℕ) (x : Leaf) → ValueOk p next (value (store_of p i l) w k (tip x))
    unfolding value
    leaf_ok k (int_val z) = checked_ok z
    leaf_ok k (bool_val b) = tt
    leaf_ok k (var x) = All-get_d (ValueOk p next) undefined l.variables (place p l.kind x) tt (typed_values p next (variables_of p l.kind) l.variables h.vars)
    leaf_ok k this = (low, high)
    leaf_ok k msg = h.msg_ok.0
    leaf_ok k arg = h.arg_ok
    leaf_ok k bot = tt
    leaf_ok k star = tt

    pub value_ok : (k : ℕ) (t : Tree) → ValueOk p next (value (store_of p i l) w k t)
    unfolding value
    value_ok k (tip x) = leaf_ok k x
    value_ok k (one o t) = apply1_ok o (value (store_of p i l) w k t)
    value_ok k (two o s t) = apply2_ok o (value (store_of p i l) w k s) (value (store_of p i l) w (k + stars s) t)

  -- THE NEXT NUMBER GROWS
  value_more : (v : Value) → ValueOk p next v → ValueOk p (suc next) v
  value_more undefined h = tt
  value_more (vbool b) h = tt
  value_more (vint z) h = h
  value_more (vevent e) h = h
  value_more (vid i) h = (h.0, omega (arith, h.1))

  pub typed_more : (xs : List Variable) (vs : List Value) → TypedAll p next xs vs → TypedAll p (suc next) xs vs
  typed_more [] [] h = tt
  typed_more [] (v ∷ vs) h = absurd h
  typed_more (x ∷ xs) [] h = absurd h
  typed_more (x ∷ xs) (v ∷ vs) h = ((value_more v h.0.0, h.0.1), typed_more xs vs h.1)

  pair_more : (x : Pair) → PairOk p next x → PairOk p (suc next) x
  pair_more x h = (h.0, (value_more x.value h.1.0, h.1.1))

  pending_more : (q : Pending) → PendingOk p next q → PendingOk p (suc next) q
  pending_more idle h = tt
  pending_more (raising e v) h = pair_more (record { event = e; value = v }) h
  pending_more returning h = tt

  pub local_more : (l : Local) → LocalOk p next l → LocalOk p (suc next) l
  local_more l h = record {
    kind_there = h.kind_there;
    depth = h.depth;
    frames = h.frames;
    vars = typed_more (variables_of p l.kind) l.variables h.vars;
    msg_ok = (value_more l.msg h.msg_ok.0, h.msg_ok.1);
    arg_ok = value_more l.arg h.arg_ok;
    row_ok = h.row_ok;
    pending_ok = pending_more l.pending h.pending_ok;
  }

  pub machine_more : (m : Machine) → MachineOk p next m → MachineOk p (suc next) m
  machine_more m h = record {
    low = h.low;
    high = omega (arith, h.high);
    loc_ok = local_more m.loc h.loc_ok;
    queue_ok = record { size = h.queue_ok.size; pairs = All-map _ _ m.queue pair_more h.queue_ok.pairs; once = h.queue_ok.once };
  }
