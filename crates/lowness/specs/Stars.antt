-- The stars of a statement: those of its expressions together, of which no more than 9 are counted.
use Rattle.std.specs.Prelude.{ℕ, suc, ◌+◌, ◌-◌, ◌*◌, ◌≤◌, ◌<◌, min, ◌≡◌, refl, List, [], ◌∷◌, map, leb, get_or}
use Rattle.std.proofs.Common.{ap, ◌∙◌, ⊎_elim, arith}
use Rattle.std.proofs.lemmas.Bool.{lt-leb}
use Rattle.lists.specs.Lists.{total}
use Rattle.rows.specs.Pad.{below?}
use Rattle.rows.specs.Seek.{table}
use Rattle.programs.specs.Program.{Program}
use Rattle.programs.specs.Trees.{tree, stars}
use Rattle.programs.specs.Statements.{exprs_of}
use Rattle.tables.specs.declared.Head.{Head}
use Rattle.tables.specs.Decode.{pair_in, pairs_of, stmt_of, PAIRS}
use Rattle.lowness.specs.Trees.{few, Few, ExprStars}

-- the sum, no more than 9
unfoldable pub few_total : (ℕ → ℕ) → List ℕ → ℕ
few_total f [] = 0
few_total f (e ∷ es) = few (f e + few_total f es)

-- what stands in the table for expression e
abbrev pub counted : List ℕ → ℕ → ℕ
counted counts e = get_or counts e 0

-- the stars of a statement's expressions, as the table has them
abbrev pub stmt_stars : List ℕ → List ℕ → Head → ℕ
stmt_stars counts inits h = few_total (counted counts) (exprs_of (stmt_of inits h))

-- the sum is the sum of what is counted
few_total_lem : (f g : ℕ → ℕ) (es : List ℕ) → ((e : ℕ) → g e ≡ few (f e)) → few (total f es) ≡ few_total g es
unfolding few_total
few_total_lem f g [] h = refl
few_total_lem f g (e ∷ es) h = omega (arith, h e, few_total_lem f g es h)

-- 8 at most, where no more than 9 are counted
leb_few : (n : ℕ) → leb n 8 ≡ leb (few n) 8
leb_few n = ⊎_elim
    (λ (h : n < 9). let e : few n ≡ n = omega arith in rw e)
    (λ (h : 9 ≤ n). rw (lt-leb n 8 h, lt-leb (few n) 8 (omega arith)))
    (below? n 9)

-- THE TEST of a statement's stars is the table's
pub stars_test : (p : Program) (counts es : List ℕ) → ExprStars p counts → leb (total (λ e. stars (tree p e)) es) 8 ≡ leb (few_total (counted counts) es) 8
stars_test p counts es h =
    leb_few (total (λ e. stars (tree p e)) es) ∙ ap (λ n. leb n 8) (few_total_lem (λ e. stars (tree p e)) (counted counts) es h.stars_of)

-- FOR THE CODE
-- no expression
pub stars_none : (f : ℕ → ℕ) (es : List ℕ) → es ≡ [] → 0 ≡ few_total f es
unfolding few_total
stars_none f es e = rw e

module _ (counts : List ℕ) (h : Few counts) where
  -- one expression
  pub stars_one : (es : List ℕ) (e r : ℕ) → es ≡ e ∷ [] → r ≡ counted counts e → r ≡ few_total (counted counts) es
  unfolding few_total
  stars_one es e r q k = rw (q, k) (omega (arith, h.low e))

  -- two
  pub stars_two : (es : List ℕ) (e d x y r : ℕ) → es ≡ e ∷ d ∷ [] → x ≡ counted counts e → y ≡ counted counts d → r ≡ few (x + y) → r ≡ few_total (counted counts) es
  unfolding few_total
  stars_two es e d x y r q k j i = rw (q, i, k, j) (omega (arith, h.low e, h.low d))

-- a statement that is told
pub stars_told : (counts inits : List ℕ) (h g : Head) (r : ℕ) → h ≡ g → r ≡ stmt_stars counts inits g → r ≡ stmt_stars counts inits h
stars_told counts inits h g r e k = rw e k

-- the pairs of an init list, from the last to the first
abbrev pub pair_stars : List ℕ → List ℕ → ℕ → ℕ → ℕ
pair_stars counts inits i n = few_total (counted counts) (map (λ xe. xe.1) (table (pair_in inits) i n))

-- none
pub pairs_none : (counts inits : List ℕ) (i m : ℕ) → 0 ≡ pair_stars counts inits (i + m) (m - m)
unfolding few_total table
pairs_none counts inits i m = let p : m - m ≡ 0 = omega arith in rw p

-- one more
pub pairs_more : (counts inits : List ℕ) (i m j s x r : ℕ) → 0 < j → j ≤ m → s ≡ pair_stars counts inits (i + j) (m - j) → x ≡ counted counts (get_or inits ((i + (j - 1)) * 2 + 1) 0)
    → r ≡ few (x + s) → r ≡ pair_stars counts inits (i + (j - 1)) (m - (j - 1))
unfolding few_total table
pairs_more counts inits i m j s x r h k e f g =
    let p : m - (j - 1) ≡ suc (m - j) = omega arith in
    let q : i + (j - 1) + 1 ≡ i + j = omega arith in
    rw (p, q, ← e, ← f) g

-- all
pub pairs_all : (counts inits : List ℕ) (i m j s n : ℕ) → j ≤ 0 → m ≡ min n (PAIRS - i) → s ≡ pair_stars counts inits (i + j) (m - j) → s ≡ few_total (counted counts) (map (λ xe. xe.1) (pairs_of inits i n))
unfolding pairs_of
pairs_all counts inits i m j s n h e f =
    let p : i + j ≡ i = omega arith in
    let q : m - j ≡ min n (PAIRS - i) = omega arith in
    rw (p, q) at f
