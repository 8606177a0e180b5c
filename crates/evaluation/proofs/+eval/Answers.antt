-- `evaluation::eval` meets its contract, by the number of the expression, which falls at each call: each form of an expression gives what the law of its
-- tree says of what its parts give. Assumes nothing.
use Rattle.std.proofs.Common.{◌≡◌, ℕ, ◌*◌, ◌/◌, ◌≤◌, ◌<◌, List, sym, ◌∙◌, arith}
use Rattle.tables.specs.Decode.{exprs_of}
use Rattle.evaluation.specs.Evaluated.{store_in, just_exprs, REST, packed, evaluated}
use Rattle.evaluation.specs.Laws.{part_of, tree_leaf, tree_one, tree_two, packed_one, packed_two, part_is_bot, part_is_lower, rest_small}
use Rattle.evaluation.proofs.+eval.Goals as goal
use Rattle.evaluation.proofs.+eval.Goals.{then-e-i, else-e-i, then-e-i-2, else-e-i-2, then-e-j, else-e-j, Joined-e-i, Joined-e-i-2, Joined-e-j}

-- what part i of expression e gives under the bits w, in the store that the arrays hold
abbrev gives : List ℕ → List ℕ → List ℕ → ℕ → ℕ → ℕ → ℕ → ℕ
gives exprs places values at e w i = packed (store_in places values at) w (part_of (just_exprs (exprs_of exprs)) e i)

-- it leaves no more bits than it is given
gives_small : (exprs places values : List ℕ) (at e w i : ℕ) → w < 256 → gives exprs places values at e w i / REST < 256
gives_small exprs places values at e w i = rest_small places values at w (part_of (just_exprs (exprs_of exprs)) e i)

-- a part that is not lower takes no star
other_gives : {u : ℕ} (exprs places values : List ℕ) (at e w i : ℕ) → e ≤ i → u ≡ w * REST → u ≡ gives exprs places values at e w i
other_gives exprs places values at e w i = part_is_bot places values at (just_exprs (exprs_of exprs)) e i w

-- a lower one gives what `eval` gives of it
lower_gives : {u : ℕ} (exprs places values : List ℕ) (at e w i : ℕ) → i < e → u ≡ evaluated exprs places values at i w
    → u ≡ gives exprs places values at e w i
lower_gives exprs places values at e w i = part_is_lower places values at (just_exprs (exprs_of exprs)) e i w

-- The number of the one part is what it gives,
part_of_one : (t : ℕ) (c : Joined-e-i t)
    → c.if-e-i.u ≡ gives c.args.exprs.now c.args.places.now c.args.values.now c.args.at c.args.e c.args.w c.in-Unary.i
part_of_one t c =
    let a = c.args in
    elim c.if-e-i.branch [
      | then-e-i w ↦ other_gives a.exprs.now a.places.now a.values.now a.at a.e a.w c.in-Unary.i (omega arith) w.u-is
      | else-e-i w ↦ lower_gives a.exprs.now a.places.now a.values.now a.at a.e a.w c.in-Unary.i (omega arith) (rw c.from-i.ensures at (w.u-is ∙ w.eval-u.ensures))
    ]

-- so is the number of the left part,
left_of_two : (t : ℕ) (c : Joined-e-i-2 t)
    → c.if-e-i-2.u ≡ gives c.args.exprs.now c.args.places.now c.args.values.now c.args.at c.args.e c.args.w c.in-Binary.i
left_of_two t c =
    let a = c.args in
    elim c.if-e-i-2.branch [
      | then-e-i-2 w ↦ other_gives a.exprs.now a.places.now a.values.now a.at a.e a.w c.in-Binary.i (omega arith) w.u-is
      | else-e-i-2 w ↦
          lower_gives a.exprs.now a.places.now a.values.now a.at a.e a.w c.in-Binary.i (omega arith) (rw c.from-i-in-Binary.ensures at (w.u-is ∙ w.eval-u-else-e-i-2.ensures))
    ]

-- whose bits are below 256,
left_small : (t : ℕ) (c : Joined-e-i-2 t) → c.if-e-i-2.u / REST < 256
left_small t c =
    let a = c.args in rw (left_of_two t c) (gives_small a.exprs.now a.places.now a.values.now a.at a.e a.w c.in-Binary.i c.requires.1)

-- and of the right part under the bits that the left one leaves.
right_of_two : (t : ℕ) (c : Joined-e-j t)
    → c.if-e-j.v ≡ gives c.args.exprs.now c.args.places.now c.args.values.now c.args.at c.args.e (c.if-e-i-2.u / REST) c.in-Binary.j
right_of_two t c =
    let a = c.args in
    let rest = c.if-e-i-2.u / REST in
    elim c.if-e-j.branch [
      | then-e-j w ↦ other_gives a.exprs.now a.places.now a.values.now a.at a.e rest c.in-Binary.j (omega arith) w.v-is
      | else-e-j w ↦ lower_gives a.exprs.now a.places.now a.values.now a.at a.e rest c.in-Binary.j (omega arith) (rw c.from-j.ensures at (w.v-is ∙ w.eval-v.ensures))
    ]

pub unary_code-requires : goal.unary_code-requires
unary_code-requires t c =
    let a = c.args in rw (part_of_one t c) (gives_small a.exprs.now a.places.now a.values.now a.at a.e a.w c.in-Unary.i c.requires.1)

pub eval-v-requires : goal.eval-v-requires
eval-v-requires t c =
    let small = left_small t (goal.at.eval-v-requires t c).Joined-e-i-2 in
    (rw (sym c.decreases) c.if-e-j.false, (c.requires.0, small))

pub binary_code-requires : goal.binary_code-requires
binary_code-requires t c =
    let a = c.args in
    let small = left_small t (goal.at.binary_code-requires t c).Joined-e-i-2 in
    rw (right_of_two t c) (gives_small a.exprs.now a.places.now a.values.now a.at a.e (c.if-e-i-2.u / REST) c.in-Binary.j small)

pub returns-in-Leaf : goal.returns-in-Leaf
returns-in-Leaf t c = rw (tree_leaf (just_exprs (exprs_of c.args.exprs.now)) c.args.e _ (sym c.in-Leaf.ensures)) c.leaf_code.ensures

pub returns-after-e-i : goal.returns-after-e-i
returns-after-e-i t c =
    let a = c.args in
    let part = part_of_one t (goal.at.returns-after-e-i t c).Joined-e-i in
    rw (tree_one (just_exprs (exprs_of a.exprs.now)) a.e _ _ (sym c.in-Unary.ensures))
    (c.unary_code.ensures ∙ sym (packed_one a.places.now a.values.now a.at a.w _ _ part))

pub returns-after-e-j : goal.returns-after-e-j
returns-after-e-j t c =
    let a = c.args in
    let left = left_of_two t (goal.at.returns-after-e-j t c).Joined-e-i-2 in
    let right = right_of_two t (goal.at.returns-after-e-j t c).Joined-e-j in
    rw (tree_two (just_exprs (exprs_of a.exprs.now)) a.e _ _ _ (sym c.in-Binary.ensures))
    (c.binary_code.ensures ∙ sym (packed_two a.places.now a.values.now a.at a.w _ _ _ left right))
