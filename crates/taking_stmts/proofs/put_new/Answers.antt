-- `taking_stmts::put_new` meets its contract: the pairs are put behind those that are there, then the row. Assumes nothing.
use mathlib.Core.Path.{◌∙◌}
use native.Mathlib.Omega.{arith}
use Rattle.putting.specs.More.{stmt_put}
use Rattle.taking_stmts.specs.Held.{row_room, pairs_room, pairs_few, new_row, new_put}
use Rattle.taking_stmts.proofs.put_new.Goals as goal

pub put_pairs-m-requires : goal.put_pairs-m-requires
put_pairs-m-requires c = pairs_room c.requires c.field.ensures

pub overflow_cast-m : goal.overflow_cast-m
overflow_cast-m c =
    omega (arith, pairs_few c.requires c.field.ensures c.put_pairs-m.ensures)

pub put_stmt-requires : goal.put_stmt-requires
put_stmt-requires c = row_room c.requires

pub overflow_add-pairs : goal.overflow_add-pairs
overflow_add-pairs c =
    omega (arith, pairs_few c.requires c.field.ensures c.put_pairs-m.ensures)

pub returns : goal.returns
returns c h =
    let e = c.field.ensures in
    new_put h e c.put_pairs-m.ensures
    (c.put_stmt.ensures ∙ stmt_put (row_room h) _ (new_row h e c.put_pairs-m.ensures c.operand-x.ensures c.operand-y.ensures))
