-- `placing::place_tails` meets its contract: what is written and the rows that are left make the choices machine by machine. Assumes nothing.
use mathlib.Core.Path.{◌≡◌}
use Rattle.placing.specs.Tailing.{begin_tailing, tail_room, tail_turn, end_tailing}
use native.Mathlib.Omega.{arith}
use Rattle.placing.proofs.place_tails.Goals as goal

pub loop-s-init : goal.loop-s-init
loop-s-init c = λ a. begin_tailing a

pub write_part-o-requires : goal.write_part-o-requires
write_part-o-requires c =
    let a = c.requires.tails in
    rw c.close-first.ensures.value (tail_room a.room a.inside (c.loop-s.invariant a) c.in-Some.ensures c.loop-s.table.bounded)

pub loop-s-preserved : goal.loop-s-preserved
loop-s-preserved c = λ a.
    let z = c.close-first.ensures in
    rw (z.used_after, z.who_after, z.since_after)
    (tail_turn a.room a.inside (c.loop-s.invariant a) c.in-Some.ensures c.loop-s.table.bounded c.write_part-o.new.out c.write_part-o.result
    (rw z.value at c.write_part-o.ensures.value) (rw z.value at c.write_part-o.ensures.out_after))

pub shape_of-out : goal.shape_of-out
shape_of-out c = (c.loop-s.invariant c.requires.tails).long

pub returns : goal.returns
returns c = λ a. let none : c.loop-s.table.used ≡ 0 = omega arith in end_tailing (rw none at (c.loop-s.invariant a))
