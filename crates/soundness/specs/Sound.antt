-- A sound program: one that no text is refused for by 3 to 9, without a void variable and with its lists ascending. Answer 20 is given for any other.
use Rattle.std.specs.Prelude.{ℕ, suc, Bool, cond, ◌&&◌, List, [], ◌∷◌, ◌++◌, eqb, length, replicate}
use Rattle.lists.specs.Lists.{any}
use Rattle.lists.specs.Tells.{Tells, both, form}
use Rattle.lists.specs.Check.{Check, free, ◌also◌, is_true, at_most, each, for_all}
use Rattle.values.specs.Values.{in_range}
use Rattle.programs.specs.declared.Leaf.{Leaf}
use Rattle.programs.specs.declared.Leaf.TheVariants.{Bot as bot, Int as int_val, Bool as bool_val, Var as var, This as this, Msg as msg, Arg as arg, Star as star}
use Rattle.programs.specs.declared.Expr.{Expr}
use Rattle.programs.specs.declared.Expr.TheVariants.{Leaf as leaf, Unary as unary, Binary as binary}
use Rattle.programs.specs.Sizes.{KINDS, EVENTS, VARIABLES, EXPRS, STMTS, ACTIONS, STATES}
use Rattle.programs.specs.Program.{Program, variables_of}
use Rattle.soundness.specs.Asked.{Asked, orderly, refers, lower, own, single, quiet, low}

-- THE LINES of a program from the first to `start`, each with what is asked of it
abbrev pub numbered : {A : Type 0} → (ℕ → A → Check) → ℕ → List A → List Check
numbered f n [] = []
numbered f n (x ∷ l) = f n x ∷ numbered f (suc n) l

-- all lines, in the order of the text
abbrev pub lines : Program → Asked → List Check
lines p t =
    replicate (length p.events) free ++ (replicate p.machines free ++ (numbered t.variable 1 p.variables ++ (numbered t.expr 1 p.exprs
    ++ (numbered t.stmt 1 p.stmts ++ (numbered t.action 1 p.actions ++ (numbered t.state 1 p.states ++ (numbered t.step 1 p.steps
    ++ (numbered t.call 1 p.calls ++ (numbered t.act 1 p.acts ++ (t.start p.start ∷ []))))))))))

-- the first line, counted from k, that does not meet what is asked of it; 0 where every one does
abbrev pub first_fault : ℕ → List Check → ℕ
first_fault k [] = 0
first_fault k (c ∷ l) = let later = first_fault (suc k) l in cond c.test later k

-- every line meets it
abbrev pub meet : List Check → Check
meet [] = free
meet (c ∷ l) = c also meet l

-- every line of the program meets what t asks
abbrev pub meets : Program → Asked → Check
meets p t = meet (lines p t)

module _ (p : Program) where
  -- 3: "a size above passed, or `val` ... out of range"
  abbrev pub leaf_ranged : Leaf → Check
  leaf_ranged bot = free
  leaf_ranged (int_val z) = is_true (in_range z)
  leaf_ranged (bool_val b) = free
  leaf_ranged (var x) = free
  leaf_ranged this = free
  leaf_ranged msg = free
  leaf_ranged arg = free
  leaf_ranged star = free

  -- of an expression
  abbrev pub expr_ranged : Expr → Check
  expr_ranged (leaf l) = leaf_ranged l
  expr_ranged (unary o a) = free
  expr_ranged (binary o a b) = free

  -- ANSWER 3, as far as 20 names it: the sizes, and every `val` in range
  abbrev pub sized : Check
  sized = at_most p.machines KINDS also at_most (length p.events) EVENTS also for_all p.machines (λ k. at_most (length (variables_of p k)) VARIABLES)
      also at_most (length p.exprs) EXPRS also at_most (length p.stmts) STMTS also at_most (length p.actions) ACTIONS also at_most (length p.states) STATES
      also each expr_ranged p.exprs

  -- 9: "a machine kind with no state"
  abbrev pub stateful : Check
  stateful = for_all p.machines (λ k. is_true (any (λ q. eqb q.of k) p.states))

-- 20: "the program breaks 3 to 9, has a void variable or a list not ascending"
pub record Sound (p : Program) : Type 0 where
  pub is_orderly : (meets p orderly).Holds  -- 2, as far as 20 names it
  pub is_sized : (sized p).Holds  -- 3
  pub all_refer : (meets p (refers p)).Holds  -- 4
  pub all_lower : (meets p (lower p)).Holds  -- 5
  pub all_own : (meets p (own p)).Holds  -- 4, foreign variables
  pub all_single : (meets p (single p)).Holds  -- 6
  pub all_quiet : (meets p (quiet p)).Holds  -- 7
  pub all_low : (meets p (low p)).Holds  -- 8
  pub is_stateful : (stateful p).Holds  -- 9

-- THE TEST, and that it tells
unfoldable pub sound : Program → Bool
sound p = (meets p orderly).test && ((sized p).test && ((meets p (refers p)).test && ((meets p (lower p)).test && ((meets p (own p)).test
    && ((meets p (single p)).test && ((meets p (quiet p)).test && ((meets p (low p)).test && (stateful p).test)))))))

-- both ways
pub sound_is : (p : Program) → Tells (sound p) (Sound p)
unfolding sound
sound_is p = form (both (meets p orderly).tells (both (sized p).tells (both (meets p (refers p)).tells (both (meets p (lower p)).tells (both (meets p (own p)).tells
    (both (meets p (single p)).tells (both (meets p (quiet p)).tells (both (meets p (low p)).tells (stateful p).tells))))))))
    (λ h. record {
      is_orderly = h.0;
      is_sized = h.1.0;
      all_refer = h.1.1.0;
      all_lower = h.1.1.1.0;
      all_own = h.1.1.1.1.0;
      all_single = h.1.1.1.1.1.0;
      all_quiet = h.1.1.1.1.1.1.0;
      all_low = h.1.1.1.1.1.1.1.0;
      is_stateful = h.1.1.1.1.1.1.1.1;
    })
    (λ h. (h.is_orderly, (h.is_sized, (h.all_refer, (h.all_lower, (h.all_own, (h.all_single, (h.all_quiet, (h.all_low, h.is_stateful)))))))))
