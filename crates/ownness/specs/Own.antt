-- Answer 4 again, as tables tell it: "A foreign variable is the fault of the line naming it". A variable that a line names is of each kind that the line
-- serves, and those of an init list are of the kind that is created.
use Prim.Native.Nat.{ℕ, zero, suc, ◌+◌, ◌-◌, ◌*◌, ◌≤◌, ◌<◌, min}
use Rattle.std.specs.Prelude.{◌≡◌, refl, Bool, true, false, not, ◌&&◌, ◌||◌, List, [], ◌∷◌, eqb, get_or}
use Rattle.std.specs.List.{list_all, range_with_len}
use Rattle.std.proofs.Common.{ap, sym, ◌∙◌, ⊎_elim, eq-eqb, ne_eqb}
use native.Mathlib.Omega.{arith}
use Rattle.lists.specs.Lists.{at, all, up_to, There}
use Rattle.lists.specs.Check.{equals, each}
use Rattle.rows.specs.Pad.{below?}
use Rattle.rows.specs.Seek.{table}
use Rattle.programs.specs.declared.Leaf.{Leaf}
use Rattle.programs.specs.declared.Leaf.TheVariants.{Bot as bot, Int as int_val, Bool as bool_val, Var as var, This as this, Msg as msg, Arg as arg, Star as star}
use Rattle.programs.specs.declared.Expr.{Expr}
use Rattle.programs.specs.declared.Expr.TheVariants.{Leaf as leaf, Unary as unary, Binary as binary}
use Rattle.programs.specs.Sizes.{KINDS, EVENTS, VARIABLES, EXPRS, STMTS}
use Rattle.programs.specs.Program.{Program, Variable, skip, variable_at}
use Rattle.programs.specs.Statements.{serves, expr_serves}
use Rattle.tables.specs.declared.Kind.{Kind}
use Rattle.tables.specs.declared.Head.{Head}
use Rattle.tables.specs.declared.Head.TheVariants.{Skip, Assign, New, Delete, Send, Raise, Leave, Return, Assert, Seq, If, While}
use Rattle.tables.specs.Decode.{count, no_variable, variable_in, variables_of, exprs_of, head_at, pair_in, pairs_of, stmt_of, PAIRS}
use Rattle.tables.specs.Numbered.{at_row, at_past}
use Rattle.tables.specs.Tables.{stmt_head}
use Rattle.soundness.specs.Asked.{own, expr_own, stmt_own}
use Rattle.soundness.specs.Sound.{lines, first_fault}
use Rattle.faults.specs.Faults.{onward, joined, row_fault}
use Rattle.faults.specs.First.{first_bad, table_bad}
use Rattle.faults.specs.Asking.{Told, told_exprs, told_stmts, front_is, terms_fault}
use Rattle.marks.specs.Marks.{Served}
use Rattle.marks.specs.Sheet.{says_at}
use Rattle.marks.specs.Flow.{on}
use Rattle.expr_marks.specs.Naming.{ExprServed}

-- the kind of variable x; 0 for what is absent
abbrev pub kind_in : List ℕ → ℕ → ℕ
kind_in variable_of x = (at no_variable (variables_of variable_of []) x).of

-- what kind `of` a variable is, against a mark of kind k
abbrev pub own_kind : List ℕ → ℕ → ℕ → ℕ → Bool
own_kind marks n of k = not (on marks (k * 1025) n) || eqb of k

-- a variable of kind `of` in line n is of each kind that the line serves
abbrev pub own_at : List ℕ → ℕ → ℕ → ℕ → Bool
own_at marks kinds n of = up_to kinds (own_kind marks n of)

-- a leaf names no foreign variable
abbrev pub own_leaf : List ℕ → ℕ → List ℕ → ℕ → Leaf → Bool
own_leaf marks kinds variable_of n bot = true
own_leaf marks kinds variable_of n (int_val z) = true
own_leaf marks kinds variable_of n (bool_val b) = true
own_leaf marks kinds variable_of n (var x) = own_at marks kinds n (kind_in variable_of x)
own_leaf marks kinds variable_of n this = true
own_leaf marks kinds variable_of n msg = true
own_leaf marks kinds variable_of n arg = true
own_leaf marks kinds variable_of n star = true

-- nor does an expression
abbrev pub own_tree : List ℕ → ℕ → List ℕ → ℕ → Expr → Bool
own_tree marks kinds variable_of n (leaf l) = own_leaf marks kinds variable_of n l
own_tree marks kinds variable_of n (unary o a) = true
own_tree marks kinds variable_of n (binary o a b) = true

-- expression n
abbrev pub own_expr : List ℕ → ℕ → List ℕ → List ℕ → ℕ → Bool
own_expr marks kinds variable_of exprs n = own_tree marks kinds variable_of n (at (leaf bot) (exprs_of exprs) n)

-- a pair of an init list names a variable of the kind that is created
abbrev pub own_pair : List ℕ → ℕ → ℕ × ℕ → Bool
own_pair variable_of m xe = eqb (kind_in variable_of xe.0) m

-- a statement names no foreign variable
abbrev pub own_head : List ℕ → ℕ → List ℕ → List ℕ → ℕ → Head → Bool
own_head served kinds variable_of inits n Skip = true
own_head served kinds variable_of inits n (Assign x e) = own_at served kinds n (kind_in variable_of x)
own_head served kinds variable_of inits n (New x m i c) = own_at served kinds n (kind_in variable_of x) && all (own_pair variable_of m.0) (pairs_of inits i c)
own_head served kinds variable_of inits n Delete = true
own_head served kinds variable_of inits n (Send t e a) = true
own_head served kinds variable_of inits n (Raise e a) = true
own_head served kinds variable_of inits n Leave = true
own_head served kinds variable_of inits n Return = true
own_head served kinds variable_of inits n (Assert e) = true
own_head served kinds variable_of inits n (Seq a b) = true
own_head served kinds variable_of inits n (If e a b) = true
own_head served kinds variable_of inits n (While e a) = true

-- statement n
abbrev pub own_stmt : List ℕ → ℕ → List ℕ → List ℕ → List ℕ → ℕ → Bool
own_stmt served kinds variable_of stmts inits n = own_head served kinds variable_of inits n (head_at stmts n)

-- the types say nothing of the kinds
of_same : (kinds t u : List ℕ) (x : ℕ) → (at no_variable (variables_of kinds t) x).of ≡ (at no_variable (variables_of kinds u) x).of
unfolding variables_of
of_same kinds t u zero = refl
of_same kinds t u (suc x) = ⊎_elim
    (λ (h : suc x < 1 + count (KINDS * VARIABLES) kinds).
    ap (λ (v : Variable). v.of) (at_row (variable_in kinds t) no_variable {e = suc x} refl (omega arith) (omega arith))
    ∙ sym (ap (λ (v : Variable). v.of) (at_row (variable_in kinds u) no_variable {e = suc x} refl (omega arith) (omega arith))))
    (λ (h : 1 + count (KINDS * VARIABLES) kinds ≤ suc x).
    ap (λ (v : Variable). v.of) (at_past (variable_in kinds t) no_variable {e = suc x} refl (omega arith))
    ∙ sym (ap (λ (v : Variable). v.of) (at_past (variable_in kinds u) no_variable {e = suc x} refl (omega arith))))
    (below? (suc x) (1 + count (KINDS * VARIABLES) kinds))

-- tests of kinds that agree
up_ext : (f g : ℕ → Bool) (n : ℕ) → ((k : ℕ) → 1 ≤ k → k ≤ n → f k ≡ g k) → up_to n f ≡ up_to n g
up_ext f g zero h = refl
up_ext f g (suc n) h = rw (h (suc n) (omega arith) (omega arith), up_ext f g n (λ k a b. h k a (omega arith)))

module _ (types : List ℕ) (kinds : ℕ) (variable_of exprs stmts inits served marks : List ℕ) (p : Program) (told : Told types kinds variable_of exprs stmts inits p) (few : kinds ≤ 16)
    (h : Served p served) (m : ExprServed p marks) where
  -- a variable's kind
  kind_is : (x : ℕ) → (variable_at p x).of ≡ kind_in variable_of x
  kind_is x = ap (λ vs. (at no_variable vs x).of) told.fronted.same_variables ∙ of_same variable_of told.fronted.variable_types [] x

  -- a variable in a line that serves what the marks say
  of_kinds : (served : ℕ → Bool) (l : List ℕ) (n x : ℕ) → ((k : ℕ) → 1 ≤ k → k ≤ kinds → served k ≡ on l (k * 1025) n)
      → up_to p.machines (λ k. not (served k) || eqb (variable_at p x).of k) ≡ own_at l kinds n (kind_in variable_of x)
  of_kinds served l n x f =
      rw (told.fronted.same_kinds, kind_is x)
      (up_ext (λ k. not (served k) || eqb (kind_in variable_of x) k) (own_kind l n (kind_in variable_of x)) kinds (λ k a b. rw (f k a b)))

  -- a leaf's test
  leaf_test : (n : ℕ) → There (count EXPRS exprs) n → (l : Leaf) → (expr_own p n (leaf l)).test ≡ own_leaf marks kinds variable_of n l
  leaf_test n b bot = refl
  leaf_test n b (int_val z) = refl
  leaf_test n b (bool_val c) = refl
  leaf_test n b (var x) = of_kinds (λ k. expr_serves p k n) marks n x (λ k i j. sym (says_at m k n i (omega arith) (omega (arith, b.1)) (omega (arith, b.1, told_exprs told))))
  leaf_test n b this = refl
  leaf_test n b msg = refl
  leaf_test n b arg = refl
  leaf_test n b star = refl

  -- an expression's
  tree_test : (n : ℕ) → There (count EXPRS exprs) n → (x : Expr) → (expr_own p n x).test ≡ own_tree marks kinds variable_of n x
  tree_test n b (leaf l) = leaf_test n b l
  tree_test n b (unary o c) = refl
  tree_test n b (binary o c d) = refl

  -- an init list's
  pairs_test : (j : ℕ) (l : List (ℕ × ℕ)) → (each (λ xe. equals (variable_at p xe.0).of j) l).test ≡ all (own_pair variable_of j) l
  pairs_test j [] = refl
  pairs_test j (xe ∷ l) = rw (kind_is xe.0, pairs_test j l)

  -- a variable of a statement
  stmt_kinds : (n : ℕ) → There (count STMTS stmts) n → (x : ℕ) → up_to p.machines (λ k. not (serves p k n) || eqb (variable_at p x).of k) ≡ own_at served kinds n (kind_in variable_of x)
  stmt_kinds n b x = of_kinds (λ k. serves p k n) served n x (λ k i j. sym (says_at h k n i (omega arith) (omega (arith, b.1)) (omega (arith, b.1, told_stmts told))))

  -- a statement's
  head_test : (n : ℕ) → There (count STMTS stmts) n → (t : Head) → (stmt_own p n (stmt_of inits t)).test ≡ own_head served kinds variable_of inits n t
  head_test n b Skip = refl
  head_test n b (Assign x e) = stmt_kinds n b x
  head_test n b (New x j i c) = rw (stmt_kinds n b x, pairs_test j.0 (pairs_of inits i c))
  head_test n b Delete = refl
  head_test n b (Send t e x) = refl
  head_test n b (Raise e x) = refl
  head_test n b Leave = refl
  head_test n b Return = refl
  head_test n b (Assert e) = refl
  head_test n b (Seq x y) = refl
  head_test n b (If e x y) = refl
  head_test n b (While e x) = refl

  -- the first expression at fault
  exprs_fault : row_fault (own p).expr p.exprs ≡ first_bad (own_expr marks kinds variable_of exprs) (count EXPRS exprs)
  exprs_fault = table_bad (own p).expr (leaf bot) (own_expr marks kinds variable_of exprs) p.exprs (count EXPRS exprs) (told_exprs told)
      (λ n b. tree_test n b (at (leaf bot) p.exprs n) ∙ ap (λ xs. own_tree marks kinds variable_of n (at (leaf bot) xs n)) told.same_exprs)

  -- the first statement at fault
  stmts_fault : row_fault (own p).stmt p.stmts ≡ first_bad (own_stmt served kinds variable_of stmts inits) (count STMTS stmts)
  stmts_fault = table_bad (own p).stmt skip (own_stmt served kinds variable_of stmts inits) p.stmts (count STMTS stmts) (told_stmts told)
      (λ n b. ap (λ t. (stmt_own p n t).test) (ap (λ l. at skip l n) told.same_stmts ∙ stmt_head stmts inits n) ∙ head_test n b (head_at stmts n))

  -- THE FIRST LINE at fault
  pub own_line : (b x n e s r : ℕ) → b ≡ count EVENTS types + kinds + count (KINDS * VARIABLES) variable_of → x ≡ count EXPRS exprs → n ≡ count STMTS stmts
      → e ≡ first_bad (own_expr marks kinds variable_of exprs) x → s ≡ first_bad (own_stmt served kinds variable_of stmts inits) n → r ≡ onward b (joined e x s) → r ≡ first_fault 1 (lines p (own p))
  own_line b x n e s r i j k f g q =
      sym (terms_fault p (own p).expr (own p).stmt ∙ rw (exprs_fault, stmts_fault, told_exprs told, front_is types kinds variable_of p told.fronted, q, f, g, i, j, k))

-- FOR THE CODE
-- what is left of the kinds to look at, from the last to the first
module _ (f : ℕ → Bool) (n : ℕ) where
  -- one that passes
  pub up_more : (k : ℕ) → 0 < k → f k ≡ true → up_to n f ≡ up_to k f → up_to n f ≡ up_to (k - 1) f
  up_more zero h e q = absurd (omega arith)
  up_more (suc k) h e q = let z : suc k - 1 ≡ k = omega arith in q ∙ rw (z, e)

  -- one that does not
  pub up_found : (k : ℕ) → 0 < k → f k ≡ false → up_to n f ≡ up_to k f → false ≡ up_to n f
  up_found zero h e q = absurd (omega arith)
  up_found (suc k) h e q = sym (q ∙ rw e)

  -- none
  pub up_none : (k : ℕ) → k ≤ 0 → up_to n f ≡ up_to k f → true ≡ up_to n f
  up_none zero h q = sym q
  up_none (suc k) h q = absurd (omega arith)

-- a kind that is not served,
pub kind_free : (marks : List ℕ) (n of k : ℕ) → get_or marks (k * 1025 + n) 0 ≡ 0 → true ≡ own_kind marks n of k
kind_free marks n of k e = rw e

-- and one that is
pub kind_told : (marks : List ℕ) (n of k : ℕ) → (get_or marks (k * 1025 + n) 0 ≡ 0 → ⊥) → eqb of k ≡ own_kind marks n of k
kind_told marks n of k h = rw (ne_eqb (get_or marks (k * 1025 + n) 0) 0 h)

-- what is left of the pairs to look at
module _ (f : ℕ × ℕ → Bool) (inits : List ℕ) (i m : ℕ) where
  -- gives the same
  abbrev pub Pairing : ℕ → Type 0
  Pairing j = all f (table (pair_in inits) (i + j) (m - j)) ≡ all f (table (pair_in inits) i m)

  -- at first
  pub pair_first : Pairing 0
  pair_first =
      let p : m - 0 ≡ m = omega arith in
      let q : i + 0 ≡ i = omega arith in
      rw (p, q)

  -- one that passes
  pub pair_more : (j : ℕ) → j < m → f (pair_in inits (i + j)) ≡ true → Pairing j → Pairing (j + 1)
  unfolding table
  pair_more j h e s =
      let p : m - j ≡ suc (m - (j + 1)) = omega arith in
      let q : i + j + 1 ≡ i + (j + 1) = omega arith in
      rw (p, q, e) at s

  -- one that does not
  pub pair_found : (j c : ℕ) → j < m → m ≡ min c (PAIRS - i) → f (pair_in inits (i + j)) ≡ false → Pairing j → false ≡ all f (pairs_of inits i c)
  unfolding table pairs_of
  pair_found j c h e k s =
      let p : m - j ≡ suc (m - (j + 1)) = omega arith in
      rw (p, k, e) at s

  -- none
  pub pair_none : (j c : ℕ) → m ≤ j → m ≡ min c (PAIRS - i) → Pairing j → true ≡ all f (pairs_of inits i c)
  unfolding table pairs_of
  pair_none j c h e s =
      let p : m - j ≡ 0 = omega arith in
      rw (p, e) at s

-- the pairs of an init list, tested by their numbers
pub pairs_tested : (f : ℕ × ℕ → Bool) (inits : List ℕ) (i m c : ℕ) → m ≡ min c (PAIRS - i) → list_all (λ j. f (pair_in inits (i + j))) (range_with_len 0 m) ≡ all f (pairs_of inits i c)
unfolding table pairs_of
pairs_tested f inits i m c e = let z : i + 0 ≡ i = omega arith in rw (← e) (rw z at (from 0 m))
  where
    from : (j n : ℕ) → list_all (λ j. f (pair_in inits (i + j))) (range_with_len j n) ≡ all f (table (pair_in inits) (i + j) n)
    from j zero = refl
    from j (suc n) = let p : i + j + 1 ≡ i + (j + 1) = omega arith in rw (p, from (j + 1) n)

-- a leaf that names a variable
pub var_told : (marks : List ℕ) (kinds : ℕ) (variable_of : List ℕ) (n : ℕ) (l : Leaf) (x k : ℕ) (r : Bool) → l ≡ var x → k ≡ kind_in variable_of x → r ≡ own_at marks kinds n k
    → r ≡ own_leaf marks kinds variable_of n l
var_told marks kinds variable_of n l x k r e f h = rw (e, ← f) h

-- an expression that is told
pub expr_told : (marks : List ℕ) (kinds : ℕ) (variable_of exprs : List ℕ) (n : ℕ) (x g : Expr) (r : Bool) → x ≡ at (leaf bot) (exprs_of exprs) n → x ≡ g → r ≡ own_tree marks kinds variable_of n g
    → r ≡ own_expr marks kinds variable_of exprs n
expr_told marks kinds variable_of exprs n x g r e f h = rw (← e, f) h

module _ (served : List ℕ) (kinds : ℕ) (variable_of stmts inits : List ℕ) (n : ℕ) (t : Head) (told : t ≡ head_at stmts n) where
  -- an assignment
  pub assign_told : (x e k : ℕ) (r : Bool) → t ≡ Assign x e → k ≡ kind_in variable_of x → r ≡ own_at served kinds n k → r ≡ own_stmt served kinds variable_of stmts inits n
  assign_told x e k r f g h = rw (← told, f, ← g) h

  -- a `new` into a foreign variable
  pub new_no : (x : ℕ) (m : Kind) (i c k : ℕ) (r : Bool) → t ≡ New x m i c → k ≡ kind_in variable_of x → r ≡ own_at served kinds n k → r ≡ false → false ≡ own_stmt served kinds variable_of stmts inits n
  new_no x m i c k r f g h q = rw (← told, f, ← g, ← h, q)

  -- and another: its init list decides
  pub new_yes : (x : ℕ) (m : Kind) (i c k : ℕ) (r s : Bool) → t ≡ New x m i c → k ≡ kind_in variable_of x → r ≡ own_at served kinds n k → r ≡ true → s ≡ all (own_pair variable_of m.0) (pairs_of inits i c)
      → s ≡ own_stmt served kinds variable_of stmts inits n
  new_yes x m i c k r s f g h q j = rw (← told, f, ← g, ← h, q) j

  -- any other
  pub other_told : true ≡ own_head served kinds variable_of inits n t → true ≡ own_stmt served kinds variable_of stmts inits n
  other_told h = rw (← told) h

-- a pair that names a variable of another kind,
pub pair_no : (variable_of inits : List ℕ) (m j k : ℕ) → k ≡ kind_in variable_of (get_or inits (j * 2) 0) → (k ≡ m → ⊥) → own_pair variable_of m (pair_in inits j) ≡ false
pair_no variable_of inits m j k h e = rw (← h) (ne_eqb k m e)

-- and one of this kind
pub pair_yes : (variable_of inits : List ℕ) (m j k : ℕ) → k ≡ kind_in variable_of (get_or inits (j * 2) 0) → k ≡ m → own_pair variable_of m (pair_in inits j) ≡ true
pair_yes variable_of inits m j k h e = rw (← h) (eq-eqb k m e)
