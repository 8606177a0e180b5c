-- A table that is worked out of a program: for each kind the expressions that serve it. In a kind's row the expressions that its statements name are
-- marked first, and then the marks are passed on to their operands.
use Prim.Native.Nat.{ℕ, zero, suc, ◌+◌, ◌-◌, ◌*◌, ◌≤◌, ◌<◌, min}
use Rattle.std.specs.Prelude.{◌≡◌, Bool, true, false, cond, ◌&&◌, ◌||◌, get_or, set}
use Rattle.std.proofs.Math.Path.{refl, ap, sym}
use Rattle.std.proofs.Common.{◌∙◌, inl, inr, ⊎_elim, ne_eqb, length-set}
use Rattle.std.proofs.Math.Bool.{and_comm, or-false}
use mathlib.Core.List.{List, [], ◌∷◌, map}
use Rattle.std.proofs.Math.Logic.{dite}
use Rattle.std.proofs.Math.Decide.{ℕ_discrete}
use Rattle.std.proofs.Math.Numerals.{add-one}
use native.Mathlib.Omega.{arith}
use Rattle.std.proofs.Math.ListN.{length}
use Rattle.lists.specs.Lists.{at, any}
use Rattle.lists.specs.Facts.{any_ext}
use Rattle.rows.specs.Part.{Off}
use Rattle.rows.specs.Seek.{table}
use Rattle.programs.specs.declared.Leaf.TheVariants.{Bot as bot}
use Rattle.programs.specs.declared.Expr.TheVariants.{Leaf as leaf}
use Rattle.programs.specs.Sizes.{EXPRS, STMTS}
use Rattle.programs.specs.Program.{Program, Stmt, skip, stmt_at}
use Rattle.programs.specs.Trees.{operands, expr_inside}
use Rattle.programs.specs.Statements.{exprs_of, serves, holds, serves_from, expr_serves}
use Rattle.tables.specs.declared.Head.{Head}
use Rattle.tables.specs.Decode.{count, exprs_of as expressions, head_at, pair_in, pairs_of, stmt_of, stmts_of, PAIRS}
use Rattle.tables.specs.Numbered.{table_all}
use Rattle.tables.specs.Tables.{exprs_length, stmts_length, stmt_head}
use Rattle.marks.specs.Sheet.{Marking, says_at, Sheet, sheet_none, sheet_more, marking}
use Rattle.marks.specs.Marks.{Served}
use Rattle.marks.specs.Inner.{operands_in, operands_past}
use Rattle.marks.specs.Flow.{on, mark_low, mark_all, reach, left, left_marks, left_ext, left_none, flowed, flowed_keeps, flowed_on, flowed_off, all_keeps, same_length, same_off}
use Rattle.marks.specs.Kinds.{or_front}

-- `marks` has at k * 1025 + e a 1 where expression e serves kind k, and everywhere else 0
abbrev pub ExprServed : Program → List ℕ → Type 0
ExprServed p marks = Marking (length p.exprs) (expr_serves p) marks

-- the expressions that statement s names
abbrev pub named : List ℕ → List ℕ → ℕ → List ℕ
named stmts inits s = exprs_of (stmt_of inits (head_at stmts s))

-- what statement s names marked in the row that starts at b, where s is marked in that row of `served`; a number past x is passed over
abbrev pub root_of : List ℕ → List ℕ → List ℕ → ℕ → ℕ → ℕ → List ℕ → List ℕ
root_of stmts inits served x b s l = cond (on served b s) (mark_all b (x + 1) (named stmts inits s) l) l

-- what each of these statements names
unfoldable pub rooted : List ℕ → List ℕ → List ℕ → ℕ → ℕ → List ℕ → List ℕ → List ℕ
rooted stmts inits served x b [] l = l
rooted stmts inits served x b (s ∷ ss) l = root_of stmts inits served x b s (rooted stmts inits served x b ss l)

-- the row of kind k: what its statements name, and then all turns
abbrev pub row_of : List ℕ → List ℕ → List ℕ → List ℕ → ℕ → ℕ → ℕ → List ℕ → List ℕ
row_of exprs stmts inits served x n k l = flowed (operands_in exprs) (k * 1025) x (rooted stmts inits served x (k * 1025) (table (λ s. s) 1 n) l)

-- the rows of the kinds from 1 to k
unfoldable pub rows_of : List ℕ → List ℕ → List ℕ → List ℕ → ℕ → ℕ → ℕ → List ℕ → List ℕ
rows_of exprs stmts inits served x n zero l = l
rows_of exprs stmts inits served x n (suc k) l = row_of exprs stmts inits served x n (suc k) (rows_of exprs stmts inits served x n k l)

-- A ROW'S FIRST MARKS
module _ (stmts inits served : List ℕ) (x b : ℕ) where
  module _ (P : List ℕ → Type 0) (one : (l : List ℕ) (t : ℕ) → t < x + 1 → P l → P (set l (b + t) 1)) where
    -- keep what a mark in the row does
    root_keeps : (s : ℕ) (l : List ℕ) → P l → P (root_of stmts inits served x b s l)
    root_keeps s l h = go (on served b s)
      where
        go : (c : Bool) → P (cond c (mark_all b (x + 1) (named stmts inits s) l) l)
        go true = all_keeps P b (x + 1) one (named stmts inits s) l h
        go false = h

    -- all of them too
    rooted_keeps : (ss l : List ℕ) → P l → P (rooted stmts inits served x b ss l)
    unfolding rooted
    rooted_keeps [] l h = h
    rooted_keeps (s ∷ ss) l h = root_keeps s (rooted stmts inits served x b ss l) (rooted_keeps ss l h)

  -- the length
  rooted_length : (ss l : List ℕ) → length (rooted stmts inits served x b ss l) ≡ length l
  rooted_length ss l = rooted_keeps (λ m. length m ≡ length l) (same_length b (x + 1) l) ss l refl

  -- and what is off the row
  rooted_off : (ss l : List ℕ) (j : ℕ) → Off b (x + 1) j → get_or (rooted stmts inits served x b ss l) j 0 ≡ get_or l j 0
  rooted_off ss l j o = rooted_keeps (λ m. get_or m j 0 ≡ get_or l j 0) (same_off b (x + 1) l j o) ss l refl

  module _ (kids : ℕ → List ℕ) (e : ℕ) (past : (m : ℕ) → x < m → kids m ≡ []) (there : e ≤ x) where
    -- and lead to what is inside them
    left_root : (s : ℕ) (l : List ℕ) → b + x < length l → left kids e (root_of stmts inits served x b s l) b x ≡ left kids e l b x || (on served b s && any (reach kids e) (named stmts inits s))
    left_root s l h = go (on served b s)
      where
        go : (c : Bool) → left kids e (cond c (mark_all b (x + 1) (named stmts inits s) l) l) b x ≡ left kids e l b x || (c && any (reach kids e) (named stmts inits s))
        go true = left_marks kids e b x (named stmts inits s) l past there h
        go false = sym (or-false (left kids e l b x))

    -- all of them too
    left_rooted : (ss l : List ℕ) → b + x < length l
        → left kids e (rooted stmts inits served x b ss l) b x ≡ left kids e l b x || any (λ s. on served b s && any (reach kids e) (named stmts inits s)) ss
    unfolding rooted
    left_rooted [] l h = sym (or-false (left kids e l b x))
    left_rooted (s ∷ ss) l h =
        left_root s (rooted stmts inits served x b ss l) (rw (rooted_length ss l) h)
        ∙ rw (left_rooted ss l h) (or_front (left kids e l b x) (any (λ s. on served b s && any (reach kids e) (named stmts inits s)) ss) (on served b s && any (reach kids e) (named stmts inits s)))

-- ALL ROWS
module _ (exprs stmts inits served : List ℕ) (x n : ℕ) (fits : x ≤ 1024) where
  -- keep what a mark of an expression that is there does
  rows_keeps : (P : List ℕ → Type 0) → ((l : List ℕ) (k t : ℕ) → 1 ≤ k → k ≤ 16 → t ≤ x → P l → P (set l (k * 1025 + t) 1))
      → (k : ℕ) → k ≤ 16 → (l : List ℕ) → P l → P (rows_of exprs stmts inits served x n k l)
  unfolding rows_of
  rows_keeps P one zero a l h = h
  rows_keeps P one (suc k) a l h =
      flowed_keeps P (suc k * 1025) (operands_in exprs) x (λ m t q. one m (suc k) t (omega arith) a (omega arith)) (rooted stmts inits served x (suc k * 1025) (table (λ s. s) 1 n) (rows_of exprs stmts inits served x n k l))
      (rooted_keeps stmts inits served x (suc k * 1025) P (λ m t q. one m (suc k) t (omega arith) a (omega arith)) (table (λ s. s) 1 n) (rows_of exprs stmts inits served x n k l) (rows_keeps P one k (omega arith) l h))

  -- the length
  rows_length : (k : ℕ) → k ≤ 16 → (l : List ℕ) → length (rows_of exprs stmts inits served x n k l) ≡ length l
  rows_length k a l = rows_keeps (λ m. length m ≡ length l) (λ m j t b c d e. length-set m (j * 1025 + t) 1 ∙ e) k a l refl

  -- one row leaves the others
  row_off : (k : ℕ) (l : List ℕ) (j : ℕ) → Off (k * 1025) 1025 j → get_or (row_of exprs stmts inits served x n k l) j 0 ≡ get_or l j 0
  row_off k l j o =
      flowed_off (operands_in exprs) (k * 1025) x (rooted stmts inits served x (k * 1025) (table (λ s. s) 1 n) l) j (⊎_elim (λ (q : j < k * 1025). inl q) (λ (q : k * 1025 + 1025 ≤ j). inr (omega arith)) o)
      ∙ rooted_off stmts inits served x (k * 1025) (table (λ s. s) 1 n) l j (⊎_elim (λ (q : j < k * 1025). inl q) (λ (q : k * 1025 + 1025 ≤ j). inr (omega arith)) o)

  -- the first rows leave those behind them
  rows_off : (k : ℕ) (l : List ℕ) (j : ℕ) → (k + 1) * 1025 ≤ j → get_or (rows_of exprs stmts inits served x n k l) j 0 ≡ get_or l j 0
  unfolding rows_of
  rows_off zero l j h = refl
  rows_off (suc k) l j h = row_off (suc k) (rows_of exprs stmts inits served x n k l) j (inr (omega arith)) ∙ rows_off k l j (omega arith)

  module _ (e k : ℕ) (past : (m : ℕ) → x < m → operands_in exprs m ≡ []) (there : e ≤ x) (first : 1 ≤ k) where
    -- what a kind's row says in the end
    rows_on : (j : ℕ) (l : List ℕ) → k ≤ j → j ≤ 16 → length l ≡ 17425 → ((i : ℕ) → get_or l i 0 ≡ 0)
        → on (rows_of exprs stmts inits served x n j l) (k * 1025) e ≡ any (λ s. on served (k * 1025) s && any (reach (operands_in exprs) e) (named stmts inits s)) (table (λ s. s) 1 n)
    unfolding rows_of
    rows_on zero l h i size zeros = absurd (omega arith)
    rows_on (suc j) l h i size zeros = dite (ℕ_discrete k (suc j))
        (λ q. rw q (flowed_on (operands_in exprs) e (suc j * 1025) x (rooted stmts inits served x (suc j * 1025) (table (λ s. s) 1 n) (rows_of exprs stmts inits served x n j l))
        (rw (rooted_length stmts inits served x (suc j * 1025) (table (λ s. s) 1 n) (rows_of exprs stmts inits served x n j l), rows_length j (omega arith) l) (omega arith)) refl
        ∙ left_rooted stmts inits served x (suc j * 1025) (operands_in exprs) e past there (table (λ s. s) 1 n) (rows_of exprs stmts inits served x n j l) (rw (rows_length j (omega arith) l) (omega arith))
        ∙ rw (left_ext (operands_in exprs) e (rows_of exprs stmts inits served x n j l) l (suc j * 1025) x there (λ m b. rows_off j l (suc j * 1025 + m) (omega arith)), left_none (operands_in exprs) e l (suc j * 1025) x zeros)))
        (λ q. rw (row_off (suc j) (rows_of exprs stmts inits served x n j l) (k * 1025 + e) (inl (omega arith))) (rows_on j l (omega arith) (omega arith) size zeros))

-- WHAT IS MEANT
-- tests of numbers that agree
any_agree : (f g : ℕ → Bool) (i n : ℕ) → ((s : ℕ) → i ≤ s → s < i + n → f s ≡ g s) → any f (table (λ s. s) i n) ≡ any g (table (λ s. s) i n)
any_agree f g i n h = any_ext f g (table (λ s. s) i n) (table_all (λ s. f s ≡ g s) (λ s. s) i n h)

module _ (p : Program) (k e : ℕ) where
  -- of the statements from number i on
  from_any : (l : List Stmt) (i : ℕ) → serves_from p k e i l ≡ any (λ s. holds p e (get_or l (s - i) skip) && serves p k s) (table (λ s. s) i (length l))
  unfolding table
  from_any [] i = refl
  from_any (t ∷ l) i =
      let z : i - i ≡ 0 = omega arith in
      rw (z, from_any l (suc i), add-one i) (ap (λ r. (holds p e t && serves p k i) || r)
      (any_agree (λ s. holds p e (get_or l (s - suc i) skip) && serves p k s) (λ s. holds p e (get_or (t ∷ l) (s - i) skip) && serves p k s) (suc i) (length l) same))
    where
      same : (s : ℕ) → suc i ≤ s → s < suc i + length l → holds p e (get_or l (s - suc i) skip) && serves p k s ≡ holds p e (get_or (t ∷ l) (s - i) skip) && serves p k s
      same s a b = let q : s - i ≡ suc (s - suc i) = omega arith in rw q

  -- an expression that is in a statement that serves kind k
  serves_any : expr_serves p k e ≡ any (λ s. holds p e (stmt_at p s) && serves p k s) (table (λ s. s) 1 (length p.stmts))
  unfolding expr_serves
  serves_any = from_any p.stmts 1 ∙ any_agree (λ s. holds p e (get_or p.stmts (s - 1) skip) && serves p k s) (λ s. holds p e (stmt_at p s) && serves p k s) 1 (length p.stmts) same
    where
      same : (s : ℕ) → 1 ≤ s → s < 1 + length p.stmts → holds p e (get_or p.stmts (s - 1) skip) && serves p k s ≡ holds p e (stmt_at p s) && serves p k s
      same zero a b = absurd (omega arith)
      same (suc s) a b = let q : suc s - 1 ≡ s = omega arith in rw q

-- THE TABLE
module _ (exprs stmts inits served : List ℕ) (p : Program) (same_exprs : p.exprs ≡ expressions exprs) (same_stmts : p.stmts ≡ stmts_of stmts inits) (h : Served p served) where
  -- an expression inside one of these
  any_inside : (e : ℕ) (ts : List ℕ) → any (reach (operands_in exprs) e) ts ≡ any (expr_inside p e) ts
  unfolding expr_inside reach
  any_inside e ts = ap (λ xs. any (reach (λ m. operands (at (leaf bot) xs m)) e) ts) (sym same_exprs)

  -- what statement s says of expression e
  stmt_says : (k e s : ℕ) → 1 ≤ k → k ≤ 16 → 1 ≤ s → s < 1 + count STMTS stmts
      → on served (k * 1025) s && any (reach (operands_in exprs) e) (named stmts inits s) ≡ holds p e (stmt_at p s) && serves p k s
  stmt_says k e s a b c d =
      let t : at skip p.stmts s ≡ stmt_of inits (head_at stmts s) = ap (λ l. at skip l s) same_stmts ∙ stmt_head stmts inits s in
      rw (says_at h k s a b (omega arith) (omega (arith, ap length same_stmts, stmts_length stmts inits)), t, any_inside e (named stmts inits s)) (and_comm (serves p k s) (any (expr_inside p e) (named stmts inits s)))

  -- the mark of expression e in kind k's row
  marks_at : (zeros : List ℕ) → length zeros ≡ 17425 → ((i : ℕ) → get_or zeros i 0 ≡ 0) → (k e : ℕ) → 1 ≤ k → k ≤ 16 → e ≤ count EXPRS exprs
      → on (rows_of exprs stmts inits served (count EXPRS exprs) (count STMTS stmts) 16 zeros) (k * 1025) e ≡ expr_serves p k e
  marks_at zeros size nothing k e a b c =
      rows_on exprs stmts inits served (count EXPRS exprs) (count STMTS stmts) (omega arith) e k (operands_past exprs) c a 16 zeros b (omega arith) size nothing
      ∙ any_agree (λ s. on served (k * 1025) s && any (reach (operands_in exprs) e) (named stmts inits s)) (λ s. holds p e (stmt_at p s) && serves p k s) 1 (count STMTS stmts) (λ s i j. stmt_says k e s a b i j)
      ∙ sym (serves_any p k e ∙ ap (λ n. any (λ s. holds p e (stmt_at p s) && serves p k s) (table (λ s. s) 1 n)) (ap length same_stmts ∙ stmts_length stmts inits))

  -- all of it
  pub named_all : (zeros : List ℕ) → length zeros ≡ 17425 → ((i : ℕ) → get_or zeros i 0 ≡ 0) → (x n k : ℕ) (l : List ℕ) → x ≡ count EXPRS exprs → n ≡ count STMTS stmts → k ≡ 16
      → l ≡ rows_of exprs stmts inits served x n k zeros → ExprServed p l
  named_all zeros size nothing x n k l e f g i = rw (i, e, f, g, ap length same_exprs ∙ exprs_length exprs) (marking (expr_serves p) sheet (marks_at zeros size nothing))
    where
      sheet : Sheet (count EXPRS exprs) (rows_of exprs stmts inits served (count EXPRS exprs) (count STMTS stmts) 16 zeros)
      sheet = rows_keeps exprs stmts inits served (count EXPRS exprs) (count STMTS stmts) (omega arith) (Sheet (count EXPRS exprs)) (sheet_more (count EXPRS exprs) (omega arith)) 16 (omega arith) zeros
          (sheet_none (count EXPRS exprs) zeros size nothing)

-- FOR THE CODE
-- a statement that is told
pub names_told : (b n : ℕ) (inits : List ℕ) (h g : Head) (l m : List ℕ) → h ≡ g → m ≡ mark_all b n (exprs_of (stmt_of inits g)) l → m ≡ mark_all b n (exprs_of (stmt_of inits h)) l
names_told b n inits h g l m e k = rw e k

-- the expressions of n pairs from place i on
abbrev pub pair_names : List ℕ → ℕ → ℕ → List ℕ
pair_names inits i n = map (λ xe. xe.1) (table (pair_in inits) i n)

-- a pair of an init list
pub pairs_turn : (b n : ℕ) (inits : List ℕ) (i m j : ℕ) (l next z : List ℕ) → j < m → mark_all b n (pair_names inits (i + j) (m - j)) l ≡ z → next ≡ mark_low b n (get_or inits ((i + j) * 2 + 1) 0) l
    → mark_all b n (pair_names inits (i + (j + 1)) (m - (j + 1))) next ≡ z
unfolding mark_all table
pairs_turn b n inits i m j l next z h e f =
    let p : m - j ≡ suc (m - (j + 1)) = omega arith in
    let q : i + j + 1 ≡ i + (j + 1) = omega arith in
    rw f (rw (p, q) at e)

-- before the first
pub pairs_first : (b n : ℕ) (inits : List ℕ) (i m : ℕ) (l : List ℕ) → mark_all b n (pair_names inits (i + 0) (m - 0)) l ≡ mark_all b n (pair_names inits i m) l
pairs_first b n inits i m l =
    let p : m - 0 ≡ m = omega arith in
    let q : i + 0 ≡ i = omega arith in
    rw (p, q)

-- and all
pub pairs_done : (b n : ℕ) (inits : List ℕ) (i m j c : ℕ) (l l₀ : List ℕ) → m ≤ j → m ≡ min c (PAIRS - i) → mark_all b n (pair_names inits (i + j) (m - j)) l ≡ mark_all b n (pair_names inits i m) l₀
    → l ≡ mark_all b n (map (λ xe. xe.1) (pairs_of inits i c)) l₀
unfolding mark_all table pairs_of
pairs_done b n inits i m j c l l₀ h e f =
    let p : m - j ≡ 0 = omega arith in
    rw (p, e) at f

-- a statement that serves the kind,
pub root_marked : (stmts inits served : List ℕ) (x b s : ℕ) (h : Head) (l m : List ℕ) → (get_or served (b + s) 0 ≡ 0 → ⊥) → h ≡ head_at stmts s → m ≡ mark_all b (x + 1) (exprs_of (stmt_of inits h)) l
    → m ≡ root_of stmts inits served x b s l
root_marked stmts inits served x b s h l m o e k = rw (ne_eqb (get_or served (b + s) 0) 0 o, ← e) k

-- and one that does not
pub root_unmarked : (stmts inits served : List ℕ) (x b s : ℕ) (l : List ℕ) → get_or served (b + s) 0 ≡ 0 → l ≡ root_of stmts inits served x b s l
root_unmarked stmts inits served x b s l o = rw o

-- the statements from the last to the first
pub roots_none : (stmts inits served : List ℕ) (x b n : ℕ) (l : List ℕ) → l ≡ rooted stmts inits served x b (table (λ s. s) (1 + n) (n - n)) l
unfolding rooted table
roots_none stmts inits served x b n l = let p : n - n ≡ 0 = omega arith in rw p

-- one more
pub roots_more : (stmts inits served : List ℕ) (x b n i : ℕ) (l₀ l next : List ℕ) → 0 < i → i ≤ n → l ≡ rooted stmts inits served x b (table (λ s. s) (1 + i) (n - i)) l₀
    → next ≡ root_of stmts inits served x b i l → next ≡ rooted stmts inits served x b (table (λ s. s) (1 + (i - 1)) (n - (i - 1))) l₀
unfolding rooted table
roots_more stmts inits served x b n i l₀ l next h k e f =
    let p : n - (i - 1) ≡ suc (n - i) = omega arith in
    let q : 1 + (i - 1) ≡ i = omega arith in
    let r : i + 1 ≡ 1 + i = omega arith in
    rw (p, q, r, ← e) f

-- and all
pub roots_done : (stmts inits served : List ℕ) (x b n i : ℕ) (l₀ l : List ℕ) → i ≤ 0 → l ≡ rooted stmts inits served x b (table (λ s. s) (1 + i) (n - i)) l₀ → l ≡ rooted stmts inits served x b (table (λ s. s) 1 n) l₀
roots_done stmts inits served x b n i l₀ l h e =
    let p : 1 + i ≡ 1 = omega arith in
    let q : n - i ≡ n = omega arith in
    rw (p, q) at e

-- the rows of no kind
pub rows_none : (exprs stmts inits served : List ℕ) (x n : ℕ) (l : List ℕ) → l ≡ rows_of exprs stmts inits served x n 0 l
unfolding rows_of
rows_none exprs stmts inits served x n l = refl

-- one kind more
pub rows_more : (exprs stmts inits served : List ℕ) (x n k : ℕ) (l₀ l m next : List ℕ) → l ≡ rows_of exprs stmts inits served x n k l₀
    → m ≡ rooted stmts inits served x ((k + 1) * 1025) (table (λ s. s) 1 n) l → next ≡ flowed (operands_in exprs) ((k + 1) * 1025) x m → next ≡ rows_of exprs stmts inits served x n (k + 1) l₀
unfolding rows_of
rows_more exprs stmts inits served x n k l₀ l m next e f g = rw (add-one, ← e) (rw (f, add-one) at g)
