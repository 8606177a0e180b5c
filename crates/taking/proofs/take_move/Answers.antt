-- `taking::take_move` meets its contract: the three numbers are written in 8 bits each. Assumes nothing.
use mathlib.Core.Path.{refl, ◌∙◌}
use native.Mathlib.Omega.{arith}
use Rattle.spoken.specs.Spoken.{number_at}
use Rattle.putting.specs.More.{move_put}
use Rattle.taking.specs.Held.{byte_written}
use Rattle.taking.specs.Lines.{three}
use Rattle.taking.proofs.take_move.Goals as goal

pub put_move-requires : goal.put_move-requires
put_move-requires c = c.requires.move_room

pub overflow_add-count : goal.overflow_add-count
overflow_add-count c =
    let p = c.requires in
    omega (arith, p.move_room.room, p.count_le_n)

pub returns : goal.returns
returns c =
    let a = c.args in record {
      moves_after = λ h. c.put_move.ensures ∙ move_put h _ (three
          (byte_written {j = number_at a.s.now a.places 0} refl c.number_at.ensures c.byte_of.ensures)
          (byte_written {j = number_at a.s.now a.places 1} refl c.number_at-2.ensures c.byte_of-2.ensures)
          (byte_written {j = number_at a.s.now a.places 2} refl c.number_at-3.ensures c.byte_of-3.ensures));
      count_after = refl;
    }
