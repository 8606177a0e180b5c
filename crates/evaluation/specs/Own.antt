-- What `eval` gives is what the definition has for a machine: an expression of a statement names only variables of the kind that the statement serves, and
-- two stores that agree on those give it one value. Assumes nothing.
use Prim.Native.Nat.{ℕ, zero, suc, ◌+◌, ◌*◌, ◌/◌, ◌^◌, ◌<◌}
use Rattle.std.specs.Prelude.{◌≡◌, Bool, ◌&&◌, ◌||◌, List, [], ◌∷◌, ltb, length, get_or}
use Rattle.std.proofs.Math.Path.{refl}
use Rattle.std.proofs.Common.{sym, true≢false, arith, add-zero, ltb-true, ltb-false, shr-shr}
use Rattle.std.proofs.Math.Bool.{true, false}
use Rattle.std.proofs.Math.Numerals.{add-one}
use Rattle.std.proofs.Math.Dec.{eqb}
use Rattle.soundness.specs.SoundFounded.{served_there}
use Rattle.lists.specs.Lists.{any, There}
use Rattle.lists.specs.Down.{below, downward, below_is}
use Rattle.lists.specs.Facts.{eqb_same, or_left, or_right, and_both, at_any, has, any_has}
use Rattle.programs.specs.declared.Leaf.{Leaf}
use Rattle.programs.specs.declared.Leaf.TheVariants.{Bot as bot, Int as int_val, Bool as bool_val, Var as var, This as this, Msg as msg, Arg as arg, Star as star}
use Rattle.programs.specs.declared.Expr.{Expr}
use Rattle.programs.specs.declared.Expr.TheVariants.{Leaf as leaf, Unary as unary, Binary as binary}
use Rattle.programs.specs.Program.{Program, Stmt, skip, expr_at, stmt_at}
use Rattle.programs.specs.Trees.{Tree, tip, one, two, tree, stars, operands, expr_inside}
use Rattle.programs.specs.Statements.{exprs_of, serves, holds, serves_from, expr_serves}
use Rattle.machines.specs.Config.{Local}
use Rattle.machines.specs.Eval.{Store, store_of, value, eval}
use Rattle.soundness.specs.Asked.{refers, own, leaf_refers, expr_refers, leaf_own, expr_own}
use Rattle.soundness.specs.Sound.{Sound}
use Rattle.soundness.specs.Founded.{VariableOf}
use Rattle.soundness.specs.Lines.{expr_meets}
use Rattle.codes.specs.Codes.{code_of}
use Rattle.tables.specs.Decode as decode
use Rattle.evaluation.specs.Evaluated.{store_in, REST, packed, evaluated, tree_exprs}
use Rattle.evaluation.specs.Laws.{part_of, part_lower, part_other, tree_leaf, tree_one, tree_two, value_shift}

-- THE VARIABLES OF A TREE
module _ (P : ℕ → Type 0) where
  -- P of the variable that a leaf is
  abbrev pub LeafNames : Leaf → Type 0
  LeafNames bot = Unit
  LeafNames (int_val z) = Unit
  LeafNames (bool_val b) = Unit
  LeafNames (var x) = P x
  LeafNames this = Unit
  LeafNames msg = Unit
  LeafNames arg = Unit
  LeafNames star = Unit

  -- P of every variable that a tree names
  abbrev pub Names : Tree → Type 0
  Names (tip l) = LeafNames l
  Names (one o t) = Names t
  Names (two o s t) = Names s × Names t

  -- P of the variable that an expression itself names: its parts answer for themselves
  abbrev ExprNames : Expr → Type 0
  ExprNames (leaf l) = LeafNames l
  ExprNames (unary o a) = Unit
  ExprNames (binary o a b) = Unit

-- TWO STORES that agree on this, msg, arg and the variables of which P holds
pub record Agree (P : ℕ → Type 0) (σ τ : Store) : Type 0 where
  pub variable : (x : ℕ) → P x → σ.variable x ≡ τ.variable x
  pub this : σ.this ≡ τ.this
  pub msg : σ.msg ≡ τ.msg
  pub arg : σ.arg ≡ τ.arg

-- give a tree that names no other variables one value
module _ (P : ℕ → Type 0) (σ τ : Store) (a : Agree P σ τ) (w : ℕ) where
  pub value_agrees : (k : ℕ) (t : Tree) → Names P t → value σ w k t ≡ value τ w k t
  unfolding value
  value_agrees k (tip bot) h = refl
  value_agrees k (tip (int_val z)) h = refl
  value_agrees k (tip (bool_val b)) h = refl
  value_agrees k (tip (var x)) h = a.variable x h
  value_agrees k (tip this) h = a.this
  value_agrees k (tip msg) h = a.msg
  value_agrees k (tip arg) h = a.arg
  value_agrees k (tip star) h = refl
  value_agrees k (one o t) h = rw (value_agrees k t h)
  value_agrees k (two o s t) h = rw (value_agrees k s h.0, value_agrees (k + stars s) t h.1)

module _ (p : Program) (k : ℕ) where
  -- THE EXPRESSIONS INSIDE ONE
  -- each is inside itself,
  inside_self : (n : ℕ) → expr_inside p n n ≡ true
  unfolding expr_inside downward
  inside_self n = or_left (eqb n n) _ (eqb_same n)

  -- and what is inside a lower operand is inside the whole.
  inside_part : (n a x : ℕ) → a < n → has a (operands (expr_at p n)) → expr_inside p x a ≡ true → expr_inside p x n ≡ true
  unfolding expr_inside downward
  inside_part n a x l h i =
      or_right (eqb n x) _
      (any_has a (below false (λ f m. eqb m x || any f (operands (expr_at p m))) n) (operands (expr_at p n)) h
      (rw (below_is false (λ f m. eqb m x || any f (operands (expr_at p m))) n a l) i))

  -- WHAT SERVES kind k: expression n and all inside it
  abbrev Serving : ℕ → Type 0
  Serving n = (x : ℕ) → expr_inside p x n ≡ true → expr_serves p k x ≡ true

  -- an expression that a statement holds serves what the statement serves
  serves_from_lem : (x : ℕ) (l : List Stmt) (n i : ℕ) → i < length l → holds p x (get_or l i skip) ≡ true → serves p k (i + n) ≡ true → serves_from p k x n l ≡ true
  serves_from_lem x [] n i b h v = absurd (omega arith)
  serves_from_lem x (s ∷ l) n zero b h v =
      let e : 0 + n ≡ n = omega arith in
      or_left (holds p x s && serves p k n) _ (and_both (holds p x s) (serves p k n) h (rw e at v))
  serves_from_lem x (s ∷ l) n (suc i) b h v =
      let e : suc i + n ≡ i + suc n = omega arith in
      or_right (holds p x s && serves p k n) _ (serves_from_lem x l (suc n) i (omega arith) h (rw e at v))

  -- so do all the expressions inside one of its own
  pub statement_serves : (s e : ℕ) → serves p k s ≡ true → has e (exprs_of (stmt_at p s)) → (x : ℕ) → expr_inside p x e ≡ true → expr_serves p k x ≡ true
  unfolding expr_serves
  statement_serves s e v h x i = at_any (λ t. has e (exprs_of t) → expr_serves p k x ≡ true) skip p.stmts s (λ z. absurd (true≢false (sym z))) (go s v) h
    where
      go : (s : ℕ) → serves p k s ≡ true → There (length p.stmts) s → has e (exprs_of (stmt_at p s)) → expr_serves p k x ≡ true
      go zero v t h = absurd (omega (arith, t.0))
      go (suc j) v t h = serves_from_lem x p.stmts 1 j (omega (arith, t.1)) (any_has e (expr_inside p x) (exprs_of (stmt_at p (suc j))) h i) (rw add-one v)

  module _ (sound : Sound p) (here : There p.machines k) where
    -- ONE EXPRESSION that serves kind k names only its variables: a leaf,
    leaf_own_lem : (n : ℕ) (l : Leaf) → expr_serves p k n ≡ true → (leaf_refers p l).Holds → (leaf_own p n l).Holds → LeafNames (VariableOf p k) l
    leaf_own_lem n bot v h o = tt
    leaf_own_lem n (int_val z) v h o = tt
    leaf_own_lem n (bool_val b) v h o = tt
    leaf_own_lem n (var x) v h o = (h, o k here v)
    leaf_own_lem n this v h o = tt
    leaf_own_lem n msg v h o = tt
    leaf_own_lem n arg v h o = tt
    leaf_own_lem n star v h o = tt

    -- any expression,
    expr_own_lem : (n : ℕ) (x : Expr) → expr_serves p k n ≡ true → (expr_refers p x).Holds → (expr_own p n x).Holds → ExprNames (VariableOf p k) x
    expr_own_lem n (leaf l) v h o = leaf_own_lem n l v h o
    expr_own_lem n (unary u a) v h o = tt
    expr_own_lem n (binary u a b) v h o = tt

    -- of a number that is not there too.
    line_own : (n : ℕ) → expr_serves p k n ≡ true → ExprNames (VariableOf p k) (expr_at p n)
    line_own n v = at_any (ExprNames (VariableOf p k)) (leaf bot) p.exprs n tt
        (λ t. expr_own_lem n (expr_at p n) v (expr_meets p (refers p) sound.all_refer n t) (expr_meets p (own p) sound.all_own n t))

    -- ITS TREE: of a part, from the lower ones
    part_own : (n a : ℕ) → ((m : ℕ) → m < n → Serving m → Names (VariableOf p k) (tree p m)) → Serving n → has a (operands (expr_at p n)) → Names (VariableOf p k) (part_of p n a)
    part_own n a ih s h = go (ltb a n) refl
      where
        go : (b : Bool) → ltb a n ≡ b → Names (VariableOf p k) (part_of p n a)
        go true b = let l = ltb-true a n b in rw (part_lower p n a l) (ih a l (λ x i. s x (inside_part n a x l h i)))
        go false b = rw (part_other p n a (ltb-false a n b)) tt

    -- of the whole, by its form
    step_own : (n : ℕ) → ((m : ℕ) → m < n → Serving m → Names (VariableOf p k) (tree p m)) → Serving n → Names (VariableOf p k) (tree p n)
    step_own n ih s = go (expr_at p n) refl
      where
        go : (x : Expr) → expr_at p n ≡ x → Names (VariableOf p k) (tree p n)
        go (leaf l) e = rw (tree_leaf p n l e) (rw e at (line_own n (s n (inside_self n))))
        go (unary o a) e = rw (tree_one p n o a e) (part_own n a ih s (rw (e, eqb_same a)))
        go (binary o a b) e = rw (tree_two p n o a b e) (part_own n a ih s (rw (e, eqb_same a)), part_own n b ih s (rw e (or_right (eqb b a) _ (rw (eqb_same b)))))

    -- of every expression below m
    below_own : (m n : ℕ) → n < m → Serving n → Names (VariableOf p k) (tree p n)
    below_own zero n h = absurd (omega arith)
    below_own (suc m) n h = step_own n (λ a l. below_own m a (omega arith))

    -- THE EXPRESSIONS OF A STATEMENT that serves kind k name only variables of kind k
    held_own : (s e : ℕ) → serves p k s ≡ true → has e (exprs_of (stmt_at p s)) → Names (VariableOf p k) (tree p e)
    held_own s e v h = below_own (suc e) e (omega arith) (statement_serves s e v h)

  -- and a kind that a statement serves is there
  pub own_tree : Sound p → (s e : ℕ) → serves p k s ≡ true → has e (exprs_of (stmt_at p s)) → Names (VariableOf p k) (tree p e)
  own_tree sound s e v = held_own sound (served_there p sound k s v) s e v

-- THE JOIN: of an expression whose variables the arrays hold as the machine has them, `eval` gives the value of the definition. Its first star is number
-- j of the statement's where the j lowest of the choice's bits w are taken.
pub evaluated_is : (p : Program) (exprs places values : List ℕ) (at i : ℕ) (l : Local) (k e w j : ℕ) {u : ℕ} → decode.exprs_of exprs ≡ p.exprs
    → Agree (VariableOf p k) (store_in places values at) (store_of p i l) → Names (VariableOf p k) (tree p e) → u ≡ w / 2 ^ j
    → evaluated exprs places values at e u ≡ code_of (eval p i l w j e) + (w / 2 ^ (j + stars (tree p e))) * REST
unfolding packed
evaluated_is p exprs places values at i l k e w j q a h d =
    rw (
      q,
      ← tree_exprs p e,
      d,
      value_agrees (VariableOf p k) (store_in places values at) (store_of p i l) a (w / 2 ^ j) 0 (tree p e) h,
      value_shift (store_of p i l) w j 0 (tree p e),
      add-zero j,
      shr-shr w j (stars (tree p e)),
    )
