-- Laws of what `eval` gives, one for each form of an expression: from what it gives of the parts. Assumes nothing.
use Rattle.std.specs.Prelude.{ℕ, ◌+◌, ◌*◌, ◌/◌, ◌%◌, ◌^◌, ◌≤◌, ◌<◌, ◌≡◌, List, eqb, ℤ, get_or}
use Rattle.std.proofs.Math.Path.{refl, sym, ap}
use Rattle.std.proofs.Common.{◌∙◌, div-le_self, shr-shr}
use native.Mathlib.Omega.{arith}
use Rattle.std.proofs.Math.Nat.{div-one, zero-add, add-zero}
use Rattle.lists.specs.Down.{below, downward, below_is, below_other}
use Rattle.values.specs.declared.Value.{Value}
use Rattle.values.specs.declared.Value.TheVariants.{Bool as vbool}
use Rattle.values.specs.declared.Unary.{Unary}
use Rattle.values.specs.declared.Binary.{Binary}
use Rattle.values.specs.Values.{checked, apply1, apply2}
use Rattle.values.specs.Given.{checked_given, apply1_given, apply2_given}
use Rattle.programs.specs.declared.Leaf.{Leaf}
use Rattle.programs.specs.declared.Leaf.TheVariants.{Bot as bot, Int as int_val, Bool as bool_val, Var as var, This as this, Msg as msg, Arg as arg, Star as star}
use Rattle.programs.specs.declared.Expr.TheVariants.{Leaf as leaf, Unary as unary, Binary as binary}
use Rattle.programs.specs.Program.{Program, expr_at}
use Rattle.programs.specs.Trees.{Tree, tip, one, two, grow, tree, stars}
use Rattle.machines.specs.Eval.{Store, leaf_value, value}
use Rattle.codes.specs.Codes.{code_of, value_of, Holdable}
use Rattle.codes.specs.Laws.{value_code, code_small, value_holdable}
use Rattle.evaluation.specs.Evaluated.{store_in, REST, packed, Readable}

-- TREES
module _ (p : Program) (e : ℕ) where
  -- the tree of part a of expression e
  abbrev pub part_of : ℕ → Tree
  part_of a = below (tip bot) (λ f n. grow f (expr_at p n)) e a

  -- of a lower part: the part's own
  pub part_lower : (a : ℕ) → a < e → part_of a ≡ tree p a
  unfolding tree
  part_lower a h = below_is (tip bot) (λ f n. grow f (expr_at p n)) e a h

  -- of any other: bot
  pub part_other : (a : ℕ) → e ≤ a → part_of a ≡ tip bot
  part_other a h = below_other (tip bot) (λ f n. grow f (expr_at p n)) e a h

  -- a leaf's tree
  pub tree_leaf : (l : Leaf) → expr_at p e ≡ leaf l → tree p e ≡ tip l
  unfolding tree downward
  tree_leaf l h = rw h

  -- an operator's tree with one part
  pub tree_one : (o : Unary) (a : ℕ) → expr_at p e ≡ unary o a → tree p e ≡ one o (part_of a)
  unfolding tree downward
  tree_one o a h = rw h

  -- and with two
  pub tree_two : (o : Binary) (a b : ℕ) → expr_at p e ≡ binary o a b → tree p e ≡ two o (part_of a) (part_of b)
  unfolding tree downward
  tree_two o a b h = rw h

-- STARS
-- the bits without the j lowest, stars counted from k: stars counted from j + k
module _ (σ : Store) (w j : ℕ) where
  pub value_shift : (k : ℕ) (t : Tree) → value σ (w / 2 ^ j) k t ≡ value σ w (j + k) t
  unfolding value
  value_shift k (tip (int_val z)) = refl
  value_shift k (tip (bool_val b)) = refl
  value_shift k (tip (var x)) = refl
  value_shift k (tip this) = refl
  value_shift k (tip msg) = refl
  value_shift k (tip arg) = refl
  value_shift k (tip bot) = refl
  value_shift k (tip star) = ap (λ n. vbool (eqb (n % 2) 1)) (shr-shr w j k)
  value_shift k (one o t) = rw (value_shift k t)
  value_shift k (two o s t) = let e : j + (k + stars s) ≡ j + k + stars s = omega arith in rw (value_shift k s, value_shift (k + stars s) t, e)

-- WHAT THE MACHINE CAN HOLD
-- an int that is in range, or undefined
checked_held : (z : ℤ) → Holdable (checked z)
checked_held = checked_given Holdable tt (λ b. tt) (λ z h. h)

-- what an operator gives of one value
apply1_held : (o : Unary) (x : Value) → Holdable (apply1 o x)
apply1_held = apply1_given Holdable tt (λ b. tt) (λ z h. h)

-- and of two
apply2_held : (o : Binary) (x y : Value) → Holdable (apply2 o x y)
apply2_held = apply2_given Holdable tt (λ b. tt) (λ z h. h)

module _ (places values : List ℕ) (at : ℕ) where
  -- the value of a tree in the store that the arrays hold
  pub value_held : (w k : ℕ) (t : Tree) → Holdable (value (store_in places values at) w k t)
  unfolding value
  value_held w k (tip (int_val z)) = checked_held z
  value_held w k (tip (bool_val b)) = tt
  value_held w k (tip (var x)) = value_holdable _
  value_held w k (tip this) = value_holdable _
  value_held w k (tip msg) = value_holdable _
  value_held w k (tip arg) = value_holdable _
  value_held w k (tip bot) = tt
  value_held w k (tip star) = tt
  value_held w k (one o t) = apply1_held o _
  value_held w k (two o s t) = apply2_held o _ _

  -- THE PACKED NUMBER
  module _ (w : ℕ) (t : Tree) where
    -- below: the value's number
    pub packed_code : packed (store_in places values at) w t % REST ≡ code_of (value (store_in places values at) w 0 t)
    unfolding packed
    packed_code = omega (arith, code_small (value (store_in places values at) w 0 t) (value_held w 0 t))

    -- so the value
    pub packed_value : value_of (packed (store_in places values at) w t % REST) ≡ value (store_in places values at) w 0 t
    packed_value = ap value_of packed_code ∙ value_code (value (store_in places values at) w 0 t) (value_held w 0 t)

    -- above: the bits that are left
    pub packed_rest : packed (store_in places values at) w t / REST ≡ w / 2 ^ stars t
    unfolding packed
    packed_rest = omega (arith, code_small (value (store_in places values at) w 0 t) (value_held w 0 t))

    -- which are no more than there were
    pub rest_small : w < 256 → packed (store_in places values at) w t / REST < 256
    rest_small h = omega (arith, packed_rest, div-le_self w (2 ^ stars t))

  -- A leaf that is no star leaves the bits as they are,
  pub packed_leaf : {r x : ℕ} (w : ℕ) (l : Leaf) → stars (tip l) ≡ 0 → x ≡ code_of (leaf_value (store_in places values at) w 0 l) → r ≡ x + w * REST
      → r ≡ packed (store_in places values at) w (tip l)
  unfolding packed value
  packed_leaf w l h k e = rw (h, div-one w, ← k) e

  -- a star takes the lowest,
  pub packed_star : {r x : ℕ} (w : ℕ) → x ≡ code_of (vbool (eqb (w % 2) 1)) → r ≡ x + w / 2 * REST → r ≡ packed (store_in places values at) w (tip star)
  unfolding packed value stars
  packed_star w k e = rw (div-one w, ← k) e

  -- the number of an operator's tree with one part, by the part's value,
  one_is : (w : ℕ) (o : Unary) (t : Tree)
      → packed (store_in places values at) w (one o t) ≡ code_of (apply1 o (value (store_in places values at) w 0 t)) + (w / 2 ^ stars t) * REST
  unfolding packed value stars
  one_is w o t = refl

  -- an operator with one part leaves what the part leaves,
  pub packed_one : {u : ℕ} (w : ℕ) (o : Unary) (t : Tree) → u ≡ packed (store_in places values at) w t
      → packed (store_in places values at) w (one o t) ≡ code_of (apply1 o (value_of (u % REST))) + u / REST * REST
  packed_one w o t e = rw (e, packed_value w t, packed_rest w t) (one_is w o t)

  -- and with two, the right one under the bits that the left one leaves
  two_is : (w : ℕ) (o : Binary) (s t : Tree)
      → packed (store_in places values at) w (two o s t)
      ≡ code_of (apply2 o (value (store_in places values at) w 0 s) (value (store_in places values at) (w / 2 ^ stars s) 0 t)) + (w / 2 ^ (stars s + stars t)) * REST
  unfolding packed value stars
  two_is w o s t = rw (value_shift (store_in places values at) w (stars s) 0 t, add-zero (stars s), zero-add (stars s))

  -- and with two parts the left one takes its stars first.
  pub packed_two : {u v : ℕ} (w : ℕ) (o : Binary) (s t : Tree) → u ≡ packed (store_in places values at) w s → v ≡ packed (store_in places values at) (u / REST) t
      → packed (store_in places values at) w (two o s t) ≡ code_of (apply2 o (value_of (u % REST)) (value_of (v % REST))) + v / REST * REST
  packed_two w o s t e f =
      rw (f, e, packed_rest w s, packed_value w s, packed_value (w / 2 ^ stars s) t, packed_rest (w / 2 ^ stars s) t, shr-shr w (stars s) (stars t)) (two_is w o s t)

  -- A part that is not lower gives undefined and takes no star,
  pub part_is_bot : {u : ℕ} (p : Program) (e a w : ℕ) → e ≤ a → u ≡ w * REST → u ≡ packed (store_in places values at) w (part_of p e a)
  unfolding stars
  part_is_bot p e a w h k = rw (part_other p e a h) (packed_leaf w bot refl refl (k ∙ sym (zero-add (w * REST))))

  -- a lower one what it gives by itself.
  pub part_is_lower : {u : ℕ} (p : Program) (e a w : ℕ) → a < e → u ≡ packed (store_in places values at) w (tree p a) → u ≡ packed (store_in places values at) w (part_of p e a)
  part_is_lower p e a w h k = rw (part_lower p e a h) k

  -- WHAT STANDS IN THE ARRAYS
  module _ (r : Readable places values at) where
    -- a number of the machine's is below the bits
    pub stored_small : (j : ℕ) → j < 19 → get_or values (at + j) 0 < REST
    stored_small j h = omega (arith, code_small (value_of (get_or values (at + j) 0)) (value_holdable _), r.canonical j h)
