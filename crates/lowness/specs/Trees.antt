-- The height of each expression and how many stars it has, worked out upward. More than 8 stars are too many, so that no more than 9 are counted.
use Prim.Native.Nat.{ℕ, zero, suc, ◌+◌, ◌≤◌, ◌<◌, min}
use Rattle.std.specs.Borrow.{Bor}
use Rattle.std.specs.Prelude.{◌≡◌, refl, Bool, List, eqb, length, get_or, set, replicate}
use Rattle.std.proofs.Math.Path.{ap, fun_ext}
use Rattle.std.proofs.Common.{sym, ◌∙◌, ⊎_elim, add-one, arith, length-set, get_or-set_same, get_or-set_other}
use Rattle.std.proofs.Math.Bool.{true, false, cond}
use Rattle.std.proofs.Math.Logic.{dite}
use Rattle.std.proofs.Math.Decide.{ℕ_discrete}
use Rattle.std.proofs.Math.ListN.{get_or-eq_default}
use Rattle.lists.specs.Lists.{at, most}
use Rattle.lists.specs.Down.{below, downward}
use Rattle.std.proofs.lemmas.List.{length-replicate}
use Rattle.rows.specs.Pad.{below?, zeros_get}
use Rattle.programs.specs.declared.Leaf.{Leaf}
use Rattle.programs.specs.declared.Leaf.TheVariants.{Bot as bot, Int as int_val, Bool as bool_val, Var as var, This as this, Msg as msg, Arg as arg, Star as star}
use Rattle.programs.specs.declared.Expr.{Expr}
use Rattle.programs.specs.declared.Expr.TheVariants.{Leaf as leaf, Unary as unary, Binary as binary}
use Rattle.programs.specs.Sizes.{EXPRS}
use Rattle.programs.specs.Program.{Program, expr_at}
use Rattle.programs.specs.Trees.{Tree, tip, grow, tree, stars, tree_height, operands}
use Rattle.tables.specs.Decode.{count, expr_in, exprs_of}
use Rattle.tables.specs.Numbered.{at_past}
use Rattle.marks.specs.Inner.{operands_in, operands_past}
use Rattle.marks.specs.Climbs.{Climbs, climbs_keep}
use Rattle.marks.specs.Tall.{low_at, low_below, tall, Climbed, climbed_all}

-- DOWNWARD, TWICE: where h of one work is another work, h of the answers are the other answers
module _ {A B : Type 0} (h : A → B) (other : A) (work : (ℕ → A) → ℕ → A) (other' : B) (work' : (ℕ → B) → ℕ → B)
    (start : h other ≡ other') (step : (f : ℕ → A) (g : ℕ → B) (n : ℕ) → ((t : ℕ) → h (f t) ≡ g t) → h (work f n) ≡ work' g n) where
  -- of lower numbers
  below_map : (n i : ℕ) → h (below other work n i) ≡ below other' work' n i
  unfolding below
  below_map zero i = start
  below_map (suc n) i = go (eqb i n) (step (below other work n) (below other' work' n) n (below_map n)) (below_map n i)
    where
      go : (b : Bool) → h (work (below other work n) n) ≡ work' (below other' work' n) n → h (below other work n i) ≡ below other' work' n i
          → h (cond b (work (below other work n) n) (below other work n i)) ≡ cond b (work' (below other' work' n) n) (below other' work' n i)
      go true p q = p
      go false p q = q

  -- of each number
  pub downward_map : (n : ℕ) → h (downward other work n) ≡ downward other' work' n
  unfolding downward
  downward_map n = step (below other work n) (below other' work' n) n (below_map n)

-- HEIGHTS
-- `heights` holds the height of each expression; 0 and what is absent have height 1
pub record ExprHeights (p : Program) (heights : List ℕ) : Type 0 where
  pub size : length heights ≡ 1025
  pub height_of : (e : ℕ) → e ≤ 1024 → get_or heights e 0 ≡ tree_height (tree p e)

-- of a tree that grows out of lower ones
grown_height : (f : ℕ → Tree) (g : ℕ → ℕ) (x : Expr) → ((t : ℕ) → tree_height (f t) ≡ g t) → tree_height (grow f x) ≡ suc (most g (operands x))
unfolding tree_height
grown_height f g (leaf l) h = refl
grown_height f g (unary o a) h = omega (arith, h a)
grown_height f g (binary o a b) h = omega (arith, h a, h b)

-- a tree's height is what is worked out upward
tall_tree : (p : Program) (e : ℕ) → tree_height (tree p e) ≡ tall (λ m. operands (expr_at p m)) e
unfolding tree tree_height tall
tall_tree p e = downward_map tree_height (tip bot) (λ f n. grow f (expr_at p n)) 1 (λ f m. suc (most f (operands (expr_at p m)))) refl
    (λ f g n h. grown_height f g (expr_at p n) h) e

-- THE EXPRESSIONS' HEIGHTS are the program's
pub climbed_exprs : (exprs : List ℕ) (i : ℕ) (l : List ℕ) → Climbed (operands_in exprs) i l → count EXPRS exprs < i → (p : Program) → p.exprs ≡ exprs_of exprs → ExprHeights p l
climbed_exprs exprs i l climbed h p t = record {
  size = climbed.size;
  height_of = λ e k. climbed_all (operands_in exprs) (count EXPRS exprs) i l climbed h (operands_past exprs) e k
      ∙ ap (λ xs. tall (λ m. operands (at (leaf bot) xs m)) e) (sym t) ∙ sym (tall_tree p e);
}

-- STARS
-- 9 at most
abbrev pub few : ℕ → ℕ
few n = min n 9

-- of an expression, from those of its operands
abbrev pub stars_over : (ℕ → ℕ) → Expr → ℕ
stars_over f (leaf l) = stars (tip l)
stars_over f (unary o a) = f a
stars_over f (binary o a b) = few (f a + f b)

-- the stars of expression e, no more than 9
unfoldable pub starry : (ℕ → Expr) → ℕ → ℕ
starry x e = downward 0 (λ f m. stars_over f (x m)) e

-- no count is more than 9
pub record Few (counts : List ℕ) : Type 0 where
  pub size : length counts ≡ 1025
  pub low : (m : ℕ) → get_or counts m 0 ≤ 9

-- `counts` holds how many stars each expression has, no more than 9; 0 and what is absent have none
pub record ExprStars (p : Program) (counts : List ℕ) : Type 0 where
  pub size : length counts ≡ 1025
  pub stars_of : (e : ℕ) → get_or counts e 0 ≡ few (stars (tree p e))

-- a leaf has one or none
leaf_few : (l : Leaf) → few (stars (tip l)) ≡ stars (tip l)
unfolding stars
leaf_few bot = refl
leaf_few (int_val z) = refl
leaf_few (bool_val b) = refl
leaf_few (var x) = refl
leaf_few this = refl
leaf_few msg = refl
leaf_few arg = refl
leaf_few star = refl

-- of a tree that grows out of lower ones
grown_stars : (f : ℕ → Tree) (g : ℕ → ℕ) (x : Expr) → ((t : ℕ) → few (stars (f t)) ≡ g t) → few (stars (grow f x)) ≡ stars_over g x
unfolding stars
grown_stars f g (leaf l) h = leaf_few l
grown_stars f g (unary o a) h = h a
grown_stars f g (binary o a b) h = omega (arith, h a, h b)

-- a tree's stars are what is worked out upward
starry_tree : (p : Program) (e : ℕ) → few (stars (tree p e)) ≡ starry (expr_at p) e
unfolding tree stars starry
starry_tree p e = downward_map (λ t. few (stars t)) (tip bot) (λ f n. grow f (expr_at p n)) 0 (λ f m. stars_over f (expr_at p m)) refl
    (λ f g n h. grown_stars f g (expr_at p n) h) e

-- what has no operand has the stars of its leaf
starry_bot : (x : ℕ → Expr) (e : ℕ) → x e ≡ leaf bot → starry x e ≡ 0
unfolding starry downward stars
starry_bot x e h = rw h

-- the numbers below i have their stars, and the others none
pub record Counted (x : ℕ → Expr) (i : ℕ) (l : List ℕ) : Type 0 where
  pub few : Few l
  pub done : (m : ℕ) → m < i → get_or l m 0 ≡ starry x m
  pub rest : (m : ℕ) → i ≤ m → get_or l m 0 ≡ 0

-- before the first
pub counted_first : (x : ℕ → Expr) (l : List ℕ) → length l ≡ 1025 → ((m : ℕ) → get_or l m 0 ≡ 0) → x 0 ≡ leaf bot → Counted x 1 l
counted_first x l e zeros none = record {
  few = record { size = e; low = λ m. omega (arith, zeros m) };
  done = λ m h. let z : m ≡ 0 = omega arith in rw z (zeros 0 ∙ sym (starry_bot x 0 none));
  rest = λ m h. zeros m;
}

module _ (x : ℕ → Expr) (i : ℕ) (l : List ℕ) (counted : Counted x i l) (fits : i ≤ 1024) where
  -- number i's stars
  counted_here : stars_over (low_at 0 l i) (x i) ≡ starry x i
  unfolding starry downward
  counted_here = ap (λ f. stars_over f (x i)) (fun_ext (low_below 0 (λ f m. stars_over f (x m)) l i counted.done))

  -- the next number
  pub counted_more : (n : ℕ) → n ≡ stars_over (low_at 0 l i) (x i) → n ≤ 9 → Counted x (i + 1) (set l i n)
  counted_more n e b = record {
    few = record {
      size = length-set l i n ∙ counted.few.size;
      low = λ m. dite (ℕ_discrete m i)
          (λ q. rw (q, get_or-set_same l i n 0 (omega (arith, counted.few.size))) b)
          (λ q. rw (get_or-set_other l i m n 0 q) (counted.few.low m));
    };
    done = λ m h. dite (ℕ_discrete m i)
        (λ q. rw (q, get_or-set_same l i n 0 (omega (arith, counted.few.size))) (e ∙ counted_here))
        (λ q. get_or-set_other l i m n 0 q ∙ counted.done m (omega arith));
    rest = λ m h. get_or-set_other l i m n 0 (λ q. omega arith) ∙ counted.rest m (omega arith);
  }

-- so after i turns, where what is worked out for a number are the stars of its expression
pub counted_up : (x : ℕ → Expr) (said : Bor (List ℕ) → ℕ → ℕ → Type 0) → x 0 ≡ leaf bot → ((k : Bor (List ℕ)) (m n : ℕ) → said k m n → (n ≡ stars_over (low_at 0 k.now m) (x m)) × (n ≤ 9))
    → (i m : ℕ) → m ≡ i + 1 → i ≤ 1024 → (l : List ℕ) → Climbs said (replicate 1025 0) i l → Counted x m l
counted_up x said none told i m e fits l h = rw (e, add-one) (climbs_keep said (λ n k. Counted x (suc n) k) (replicate 1025 0)
    (counted_first x _ (length-replicate {A = ℕ} 1025 0) (zeros_get 0 1025) none) i
    (λ n k y b c s. let o = told k (suc n) y s in rw (← add-one) (counted_more x (suc n) k.now c (omega arith) y o.0 o.1)) l h)

-- THE EXPRESSIONS' STARS are the program's
pub counted_exprs : (exprs : List ℕ) (i : ℕ) (l : List ℕ) → Counted (λ m. at (leaf bot) (exprs_of exprs) m) i l → count EXPRS exprs < i → (p : Program) → p.exprs ≡ exprs_of exprs → ExprStars p l
unfolding exprs_of
counted_exprs exprs i l counted h p t = record {
  size = counted.few.size;
  stars_of = λ e. ⊎_elim
      (λ (b : e < i). counted.done e b)
      (λ (b : i ≤ e). counted.rest e b ∙ sym (starry_bot (λ m. at (leaf bot) (exprs_of exprs) m) e (at_past (expr_in exprs) (leaf bot) {e = e} refl (omega arith))))
      (below? e i)
      ∙ ap (λ xs. starry (λ m. at (leaf bot) xs m) e) (sym t) ∙ sym (starry_tree p e);
}

-- FOR THE CODE
-- a leaf has at most one
pub leaf_low : (l : Leaf) → stars (tip l) ≤ 9
leaf_low l = omega (arith, leaf_few l)

-- and none where it is no star
pub leaf_none : (l : Leaf) → (l ≡ star → ⊥) → 0 ≡ stars (tip l)
unfolding stars
leaf_none bot h = refl
leaf_none (int_val z) h = refl
leaf_none (bool_val b) h = refl
leaf_none (var x) h = refl
leaf_none this h = refl
leaf_none msg h = refl
leaf_none arg h = refl
leaf_none star h = absurd (h refl)

-- past the table
pub few_past : (counts : List ℕ) → Few counts → (e : ℕ) → 1024 < e → 0 ≡ get_or counts e 0
few_past counts h e k = sym (get_or-eq_default counts 0 {n = e} (omega (arith, h.size)))
