-- `placing::write_part` meets its contract: the machine's choices are written up to the place that the loop has come to. Assumes nothing.
use Rattle.std.specs.Prelude.{ℕ, ◌+◌, ◌-◌, ◌≤◌, ◌<◌, ◌≡◌, List, length, get_or, set, drop, slice_range}
use Rattle.std.proofs.Common.{ap, sym, ◌∙◌, subst, add-zero, arith, length-drop, length-take-le, get_or-take, get_or-drop}
use Rattle.placing.specs.Placed.{owner}
use Rattle.placing.specs.Written.{Writing, begins, passes, puts, fits}
use Rattle.placing.proofs.write_part.Goals as goal
use Rattle.placing.proofs.write_part.Goals.{Then-machine_of-k, then-machine_of-k, else-machine_of-k}

module _ (cs : List ℕ) (from end : ℕ) (ordered : from ≤ end) (inside : end ≤ length cs) where
  -- the part has so many choices,
  part_long : length (slice_range cs from end) ≡ end - from
  part_long = length-take-le (end - from) (drop from cs) (omega (arith, length-drop from cs))

  module _ (i : ℕ) (h : i < length (slice_range cs from end)) where
    -- and number i of it stands behind `from`
    before : from + i < end
    before = omega (arith, part_long, h)

    item : get_or (slice_range cs from end) i 0 ≡ get_or cs (from + i) 0
    item = get_or-take (end - from) (drop from cs) i 0 (omega (arith, part_long, h)) ∙ get_or-drop from cs i 0

-- there is room for a choice of the machine
room : (c : Then-machine_of-k) → c.loop-x.o < length c.loop-x.out
room c =
    let a = c.args in
    let e = item a.choices.now a.from a.end c.requires.ordered c.requires.inside c.loop-x.x-index c.loop-x-test.true in
    fits c.requires c.loop-x.invariant (before a.choices.now a.from a.end c.requires.ordered c.requires.inside c.loop-x.x-index c.loop-x-test.true)
    (ap owner (sym e) ∙ sym c.machine_of.ensures ∙ c.if-machine_of-k.true)

pub loop-x-init : goal.loop-x-init
loop-x-init c = rw add-zero (begins _ _ _ _ _)

pub offset_bounds-out-o : goal.offset_bounds-out-o
offset_bounds-out-o c = omega (arith, room (goal.at.offset_bounds-out-o c).Then-machine_of-k)

pub bounds-out-o : goal.bounds-out-o
bounds-out-o c = room (goal.at.bounds-out-o c).Then-machine_of-k

pub overflow_add-o : goal.overflow_add-o
overflow_add-o c = omega (arith, room (goal.at.overflow_add-o c).Then-machine_of-k)

pub loop-x-preserved : goal.loop-x-preserved
loop-x-preserved c =
    let a = c.args in
    let h = c.loop-x.invariant in
    let i = c.loop-x.x-index in
    let e = item a.choices.now a.from a.end c.requires.ordered c.requires.inside i c.loop-x-test.true in
    let b = before a.choices.now a.from a.end c.requires.ordered c.requires.inside i c.loop-x-test.true in
    let next : a.from + i + 1 ≡ a.from + (i + 1) = omega arith in
    elim c.if-machine_of-k.branch [
      | then-machine_of-k w ↦ rw (w.out-is, w.o-is) (subst (λ (v : ℕ). Writing a.choices.now a.k a.from a.out.now a.at (set c.loop-x.out c.loop-x.o v) (a.from + (i + 1)) (c.loop-x.o + 1)) (sym e) (rw next at
          (puts c.requires h b (ap owner (sym e) ∙ sym c.machine_of.ensures ∙ w.if-machine_of-k.true))))
      | else-machine_of-k w ↦ rw (w.out-is, w.o-is) (rw next at (passes c.requires h b (λ q. w.if-machine_of-k.false (c.machine_of.ensures ∙ ap owner e ∙ q))))
    ]

pub shape_of-out : goal.shape_of-out
shape_of-out c = c.loop-x.invariant.long

pub returns : goal.returns
returns c =
    let a = c.args in
    let past : a.from + c.loop-x.x-index ≡ a.end = omega (arith, c.requires.ordered, part_long a.choices.now a.from a.end c.requires.ordered c.requires.inside) in
    let w = rw past at c.loop-x.invariant in record { value = w.next; out_after = w.written }
