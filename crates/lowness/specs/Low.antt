-- Answer 8 as the tables tell it: "height over 32, or more than 8 `*`".
use Rattle.std.specs.Prelude.{ℕ, ◌+◌, ◌*◌, ◌≤◌, ◌<◌, ◌≡◌, Bool, true, false, ◌&&◌, List, leb, get_or}
use Rattle.std.proofs.Common.{ap, sym, ◌∙◌, arith, le-leb}
use Rattle.std.proofs.lemmas.Bool.{lt-leb}
use Rattle.lists.specs.Lists.{at}
use Rattle.programs.specs.declared.Leaf.TheVariants.{Bot as bot}
use Rattle.programs.specs.declared.Expr.TheVariants.{Leaf as leaf}
use Rattle.programs.specs.Sizes.{KINDS, EVENTS, VARIABLES, EXPRS, STMTS}
use Rattle.programs.specs.Program.{Program, skip}
use Rattle.programs.specs.Statements.{exprs_of as exprs_in}
use Rattle.tables.specs.declared.Head.{Head}
use Rattle.tables.specs.Decode.{count, head_at, stmt_of}
use Rattle.tables.specs.Tables.{stmt_head}
use Rattle.soundness.specs.Asked.{low}
use Rattle.soundness.specs.Sound.{lines, first_fault}
use Rattle.faults.specs.Faults.{onward, joined, row_fault}
use Rattle.faults.specs.First.{first_bad, table_bad}
use Rattle.faults.specs.Asking.{Told, told_exprs, told_stmts, front_is, terms_fault}
use Rattle.marks.specs.Marks.{Heights}
use Rattle.lowness.specs.Trees.{ExprHeights, ExprStars}
use Rattle.lowness.specs.Stars.{stmt_stars, stars_test}

-- an expression that is low enough, by the table of heights
abbrev pub low_expr : List ℕ → ℕ → Bool
low_expr heights e = leb (get_or heights e 0) 32

-- a statement that is low enough and has few stars
abbrev pub low_stmt : List ℕ → List ℕ → List ℕ → List ℕ → ℕ → Bool
low_stmt heights counts stmts inits s = leb (get_or heights s 0) 32 && leb (stmt_stars counts inits (head_at stmts s)) 8

module _ (types : List ℕ) (kinds : ℕ) (variable_of exprs stmts inits heights tall counts : List ℕ) (p : Program) (told : Told types kinds variable_of exprs stmts inits p)
    (h : Heights p heights) (t : ExprHeights p tall) (c : ExprStars p counts) where
  -- the first expression at fault
  exprs_fault : row_fault (low p).expr p.exprs ≡ first_bad (low_expr tall) (count EXPRS exprs)
  exprs_fault = table_bad (low p).expr (leaf bot) (low_expr tall) p.exprs (count EXPRS exprs) (told_exprs told) (λ m b. ap (λ n. leb n 32) (sym (t.height_of m (omega (arith, b.1)))))

  -- the test of a statement
  stmt_test : (s : ℕ) → s ≤ 1024 → ((low p).stmt s (at skip p.stmts s)).test ≡ low_stmt heights counts stmts inits s
  stmt_test s k =
      let e : at skip p.stmts s ≡ stmt_of inits (head_at stmts s) = ap (λ l. at skip l s) told.same_stmts ∙ stmt_head stmts inits s in
      rw (e, stars_test p counts (exprs_in (stmt_of inits (head_at stmts s))) c, ← h.height_of s k)

  -- the first statement at fault
  stmts_fault : row_fault (low p).stmt p.stmts ≡ first_bad (low_stmt heights counts stmts inits) (count STMTS stmts)
  stmts_fault = table_bad (low p).stmt skip (low_stmt heights counts stmts inits) p.stmts (count STMTS stmts) (told_stmts told) (λ m b. stmt_test m (omega (arith, b.1)))

  -- THE FIRST LINE at fault
  pub low_line : (b x n e s r : ℕ) → b ≡ count EVENTS types + kinds + count (KINDS * VARIABLES) variable_of → x ≡ count EXPRS exprs → n ≡ count STMTS stmts
      → e ≡ first_bad (low_expr tall) x → s ≡ first_bad (low_stmt heights counts stmts inits) n → r ≡ onward b (joined e x s) → r ≡ first_fault 1 (lines p (low p))
  low_line b x n e s r i j k f g q =
      sym (terms_fault p (low p).expr (low p).stmt ∙ rw (exprs_fault, stmts_fault, told_exprs told, front_is types kinds variable_of p told.fronted, q, f, g, i, j, k))

-- FOR THE CODE
-- too high
pub too_high : {x h : ℕ} → x ≡ h → 32 < x → leb h 32 ≡ false
too_high {h = h} e k = lt-leb h 32 (omega arith)

-- low enough
pub low_enough : {x h : ℕ} → x ≡ h → x ≤ 32 → leb h 32 ≡ true
low_enough {h = h} e k = le-leb h 32 (omega arith)

-- a statement that is too high,
pub stmt_high : (heights counts stmts inits : List ℕ) (s : ℕ) → leb (get_or heights s 0) 32 ≡ false → false ≡ low_stmt heights counts stmts inits s
stmt_high heights counts stmts inits s h = rw h

-- and one that is not: its stars decide
pub stmt_few : (heights counts stmts inits : List ℕ) (s n : ℕ) (h : Head) → leb (get_or heights s 0) 32 ≡ true → h ≡ head_at stmts s → n ≡ stmt_stars counts inits h → leb n 8 ≡ low_stmt heights counts stmts inits s
stmt_few heights counts stmts inits s n h k e f = rw (k, f, e)
