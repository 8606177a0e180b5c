-- `taking_stmts::take_stmt` meets its contract: all that is tested comes before the stores. Assumes nothing.
use Prim.Native.Nat.{◌-◌}
use mathlib.Core.Path.{refl, sym, ◌∙◌}
use native.Mathlib.Omega.{arith}
use Rattle.spoken.specs.Took.{took, refused}
use Rattle.taking_stmts.specs.Lines.{plain_says, new_says}
use Rattle.taking_stmts.specs.Held.{stmt_room, new_room, form, stmt_next, plain_put}
use Rattle.taking_stmts.proofs.take_stmt.Goals as goal

pub returns-then-not-is_next : goal.returns-then-not-is_next
returns-then-not-is_next c h i t q =
    refused (sym (stmt_next h _ _ _ c.requires.le_row.0 c.requires.le_row.1 q c.number_at.ensures) ∙ sym (rw c.from-n.ensures at c.is_next.ensures) ∙ c.if-not-is_next.true) (refl, refl, refl)

pub put_new-requires : goal.put_new-requires
put_new-requires c =
    new_room c.requires.stmt_held _ _ _ (sym (rw c.from-n.ensures at c.is_next.ensures) ∙ c.if-not-is_next.false) (c.requires.pool_room c.if-row-eq29.true)

pub returns-then-row-eq29 : goal.returns-then-row-eq29
returns-then-row-eq29 c h i t q =
    let f = sym (rw c.from-n.ensures at c.is_next.ensures) ∙ c.if-not-is_next.false in
    let r = c.if-row-eq29.true in
    let w = (new_says _ _ (rw r at q)).1 in
    took (sym (stmt_next h _ _ _ c.requires.le_row.0 c.requires.le_row.1 q c.number_at.ensures) ∙ f)
    (rw (← w) (c.put_new.ensures (new_room h _ _ _ f (c.requires.pool_room r))))

pub put_plain-requires : goal.put_plain-requires
put_plain-requires c =
    record { stmt_room = stmt_room c.requires.stmt_held _ (sym (rw c.from-n.ensures at c.is_next.ensures) ∙ c.if-not-is_next.false); le_row = c.requires.le_row }

pub returns : goal.returns
returns c h i t q =
    let f = sym (rw c.from-n.ensures at c.is_next.ensures) ∙ c.if-not-is_next.false in
    let p = plain_says _ _ (c.args.row - 24) (omega arith) (λ k. c.if-row-eq29.false (omega arith)) (form h _ _ _ c.requires.le_row.0 c.requires.le_row.1 q) in
    took (sym (stmt_next h _ _ _ c.requires.le_row.0 c.requires.le_row.1 q c.number_at.ensures) ∙ f)
    (plain_put h p (c.put_plain.ensures (stmt_room h _ f) t p.row))
