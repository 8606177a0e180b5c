-- Pass 4 judges a program and the program stood alike, row by row: a number that was cut names nothing, as the number did.
use Rattle.std.specs.Prelude.{ℕ, ◌≤◌, ◌<◌, min, ◌≡◌, refl, Bool, true, false, cond, ◌&&◌, List, [], ◌∷◌, map, leb, length}
use Rattle.std.proofs.Common.{ap, sym, ◌∙◌, ⊎_elim, arith}
use Rattle.std.proofs.lemmas.List.{length-map}
use Rattle.std.proofs.Math.ListN.{get_or-map, get_or-eq_default}
use Rattle.lists.specs.Lists.{at, There, there, all}
use Rattle.lists.specs.Facts.{All-map, and_fails}
use Rattle.lists.specs.Tells.{form, denied, agree, at_most_lem, there_is, every}
use Rattle.lists.specs.Check.{◌also◌, at_most, each, each_all}
use Rattle.rows.specs.Pad.{below?}
use Rattle.programs.specs.Sizes.{EVENTS}
use Rattle.programs.specs.declared.Leaf.{Leaf}
use Rattle.programs.specs.declared.Leaf.TheVariants.{Bot as bot, Int as int_val, Bool as bool_val, Var as var, This as this, Msg as msg, Arg as arg, Star as star}
use Rattle.programs.specs.declared.Expr.{Expr}
use Rattle.programs.specs.declared.Expr.TheVariants.{Leaf as leaf, Unary as unary, Binary as binary}
use Rattle.programs.specs.Program.{Program, Variable, Stmt, Action, State, skip, assign, new, delete, send, raise, leave, return, assert, seq, if, while, variable_at}
use Rattle.soundness.specs.Asked.{is_id, variable_there, expr_there, leaf_refers, expr_refers, stmt_refers, refers, event_there}
use Rattle.faults.specs.Each.{fails}
use Rattle.tabled.specs.Tabled.{byte_of, word_of, deferrable}
use Rattle.tables.specs.Decode.{no_variable}
use Rattle.standing.specs.Stood.{variable_stood, leaf_stood, expr_stood, pair_stood, stmt_stood, action_stood, state_stood, stood, Fitting}

-- A NUMBER CUT at what no table has so many of
module _ (size top n : ℕ) (h : size < top) where
  -- is there where the number is,
  pub cut_there : there size (min n top) ≡ there size n
  cut_there = agree (there size (min n top)) (there size n)
      (form (there_is size (min n top)) (λ k. (omega (arith, k.0), omega (arith, k.1))) (λ k. (omega (arith, k.0), omega (arith, k.1)))) (there_is size n)

  -- is no larger than the size where the number is none,
  pub cut_most : leb (min n top) size ≡ leb n size
  cut_most = agree (leb (min n top) size) (leb n size) (form (at_most_lem (min n top) size) (λ k. omega arith) (λ k. omega arith)) (at_most_lem n size)

-- and names the same row.
pub cut_at : {A : Type 0} (d : A) (l : List A) (top n : ℕ) → length l < top → at d l (min n top) ≡ at d l n
cut_at d l top n h = ⊎_elim
    (λ (b : n < top). let e : min n top ≡ n = omega arith in ap (λ (k : ℕ). at d l k) e)
    (λ (b : top ≤ n). get_or-eq_default (d ∷ l) d {n = min n top} (omega arith) ∙ sym (get_or-eq_default (d ∷ l) d {n = n} (omega arith)))
    (below? n top)

-- THE ROWS
module _ (p : Program) (h : Fitting p) where
  -- as many variables,
  variables_as : length (stood p).variables ≡ length p.variables
  variables_as = length-map p.variables variable_stood

  -- expressions,
  exprs_as : length (stood p).exprs ≡ length p.exprs
  exprs_as = length-map p.exprs expr_stood

  -- statements
  stmts_as : length (stood p).stmts ≡ length p.stmts
  stmts_as = length-map p.stmts stmt_stood

  -- a kind
  pub kind_alike : (k : ℕ) → there p.machines (byte_of k) ≡ there p.machines k
  kind_alike k = cut_there p.machines 255 k (omega (arith, h.machines))

  -- an event
  pub event_alike : (e : ℕ) → there (length p.events) (byte_of e) ≡ there (length p.events) e
  event_alike e = cut_there (length p.events) 255 e (omega (arith, h.events))

  -- a variable
  variable_alike : (x : ℕ) → there (length (stood p).variables) (word_of x) ≡ there (length p.variables) x
  variable_alike x = rw variables_as (cut_there (length p.variables) 65535 x (omega (arith, h.variables)))

  -- an expression
  expr_alike : (e : ℕ) → there (length (stood p).exprs) (word_of e) ≡ there (length p.exprs) e
  expr_alike e = rw exprs_as (cut_there (length p.exprs) 65535 e (omega (arith, h.exprs)))

  -- an `arg`
  arg_alike : (e : ℕ) → leb (word_of e) (length (stood p).exprs) ≡ leb e (length p.exprs)
  arg_alike e = rw exprs_as (cut_most (length p.exprs) 65535 e (omega (arith, h.exprs)))

  -- a statement
  stmt_alike : (s : ℕ) → leb (word_of s) (length (stood p).stmts) ≡ leb s (length p.stmts)
  stmt_alike s = rw stmts_as (cut_most (length p.stmts) 65535 s (omega (arith, h.stmts)))

  -- a variable's type
  type_alike : (x : ℕ) → (variable_at (stood p) (word_of x)).type ≡ (variable_at p x).type
  type_alike x = ap (λ (v : Variable). v.type) (get_or-map variable_stood (no_variable ∷ p.variables) (word_of x) no_variable)
      ∙ ap (λ (v : Variable). v.type) (cut_at no_variable p.variables 65535 x (omega (arith, h.variables)))

  -- the lines of expressions
  pub exprs_alike : (e : Expr) → (expr_refers (stood p) (expr_stood e)).test ≡ (expr_refers p e).test
  exprs_alike (leaf l) = go l
    where
      go : (l : Leaf) → (leaf_refers (stood p) (leaf_stood l)).test ≡ (leaf_refers p l).test
      go bot = refl
      go (int_val z) = refl
      go (bool_val b) = refl
      go (var x) = variable_alike x
      go this = refl
      go msg = refl
      go arg = refl
      go star = refl
  exprs_alike (unary o a) = expr_alike a
  exprs_alike (binary o a b) = λ i. expr_alike a i && expr_alike b i

  -- the pairs of an init list
  pairs_alike : (l : List (ℕ × ℕ)) → (each (λ xe. variable_there (stood p) xe.0 also expr_there (stood p) xe.1) (map pair_stood l)).test
      ≡ (each (λ xe. variable_there p xe.0 also expr_there p xe.1) l).test
  pairs_alike [] = refl
  pairs_alike (xe ∷ l) = let later = pairs_alike l in λ i. (variable_alike xe.0 i && expr_alike xe.1 i) && later i

  -- the lines of statements
  pub stmts_alike : (s : Stmt) → (stmt_refers (stood p) (stmt_stood s)).test ≡ (stmt_refers p s).test
  stmts_alike skip = refl
  stmts_alike (assign x e) = λ i. variable_alike x i && expr_alike e i
  stmts_alike (new x k l) = λ i. variable_alike x i && (is_id (type_alike x i) && (kind_alike k i && pairs_alike l i))
  stmts_alike delete = refl
  stmts_alike (send t e a) = λ i. expr_alike t i && (event_alike e i && arg_alike a i)
  stmts_alike (raise e a) = λ i. event_alike e i && arg_alike a i
  stmts_alike leave = refl
  stmts_alike return = refl
  stmts_alike (assert e) = expr_alike e
  stmts_alike (seq a b) = λ i. stmt_alike a i && stmt_alike b i
  stmts_alike (if e a b) = λ i. expr_alike e i && (stmt_alike a i && stmt_alike b i)
  stmts_alike (while e a) = λ i. expr_alike e i && stmt_alike a i

  -- the lines of actions
  pub actions_alike : (n : ℕ) (a : Action) → ((refers (stood p)).action n (action_stood a)).test ≡ ((refers p).action n a).test
  actions_alike n a = λ i. kind_alike a.of i && stmt_alike a.body i

  -- no list of events that are there has one that no program has
  some_absent : (l : List ℕ) → all (there EVENTS) l ≡ false → (each (event_there p) l).test ≡ false
  some_absent l e = fails (each (event_there p) l) (λ k. denied (every l (there_is EVENTS)) e
      (All-map (There (length p.events)) (There EVENTS) l (λ x b. (b.0, omega (arith, b.1, h.events))) (each_all (event_there p) l k)))

  -- the lines of states
  pub states_alike : (m : ℕ) (n : State) → ((refers (stood p)).state m (state_stood n)).test ≡ ((refers p).state m n).test
  states_alike m n = go (deferrable n) refl
    where
      go : (b : Bool) → deferrable n ≡ b
          → there p.machines (cond b (byte_of n.of) 255) && ((each (event_there p) (cond b n.defer [])).test
          && (leb (word_of n.entry) (length (stood p).stmts) && leb (word_of n.exit) (length (stood p).stmts)))
          ≡ there p.machines n.of && ((each (event_there p) n.defer).test && (leb n.entry (length p.stmts) && leb n.exit (length p.stmts)))
      go true q = λ i. kind_alike n.of i && ((each (event_there p) n.defer).test && (stmt_alike n.entry i && stmt_alike n.exit i))
      go false q = rw (fails (at_most 255 p.machines) (λ k. omega (arith, h.machines)))
          (sym (and_fails (there p.machines n.of) _ (rw (some_absent n.defer q))))
