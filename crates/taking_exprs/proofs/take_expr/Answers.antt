-- `taking_exprs::take_expr` meets its contract: all that is tested comes before the store. Assumes nothing.
use Prim.Native.Nat.{◌-◌}
use mathlib.Core.Path.{refl, sym, ◌∙◌}
use native.Mathlib.Omega.{arith}
use mir.Syntax.{w64}
use mir.Facts.{to_z-of_z}
use Rattle.spoken.specs.Spoken.{integer_at}
use Rattle.taking_exprs.specs.Lines.{plain_says, int_says, bool_says}
use Rattle.taking_exprs.specs.Held.{exprs_few, expr_room, form, expr_late, expr_valued, expr_plain}
use Rattle.taking_exprs.proofs.take_expr.Goals as goal

pub overflow_cast-n : goal.overflow_cast-n
overflow_cast-n c = omega (arith, exprs_few c.requires.expr_held)

pub returns-then-not-is_next : goal.returns-then-not-is_next
returns-then-not-is_next c h i b e q =
    expr_late h _ _ _ c.requires.le_row.0 c.requires.le_row.1 q c.number_at.ensures (sym c.is_next.ensures ∙ c.if-not-is_next.true) refl

pub take_int-requires : goal.take_int-requires
take_int-requires c =
    expr_room c.requires.expr_held _ (sym c.is_next.ensures ∙ c.if-not-is_next.false)

pub returns-in-16 : goal.returns-in-16
returns-in-16 c h i b e q =
    let t = sym c.is_next.ensures ∙ c.if-not-is_next.false in
    expr_valued h _ _ _ c.requires.le_row.0 c.requires.le_row.1 q c.number_at.ensures t (int_says _ _ (rw c.in-16.is at q))
    (c.take_int.ensures (expr_room h _ t) _ (to_z-of_z {w = w64} (record { sfits = c.val_at.type_inv }) ∙ c.val_at.ensures))

pub take_bool-requires : goal.take_bool-requires
take_bool-requires c =
    expr_room c.requires.expr_held _ (sym c.is_next.ensures ∙ c.if-not-is_next.false)

pub returns-in-17 : goal.returns-in-17
returns-in-17 c h i b e q =
    let t = sym c.is_next.ensures ∙ c.if-not-is_next.false in
    expr_valued h _ _ _ c.requires.le_row.0 c.requires.le_row.1 q c.number_at.ensures t (bool_says _ _ (rw c.in-17.is at q))
    (c.take_bool.ensures (expr_room h _ t) (integer_at c.args.s.now c.args.places 1) (to_z-of_z {w = w64} (record { sfits = c.val_at-in-17.type_inv }) ∙ c.val_at-in-17.ensures))

pub put_plain-requires : goal.put_plain-requires
put_plain-requires c =
    record { expr_room = expr_room c.requires.expr_held _ (sym c.is_next.ensures ∙ c.if-not-is_next.false); le_row = c.requires.le_row }

pub returns-in_default : goal.returns-in_default
returns-in_default c h i b e q =
    let t = sym c.is_next.ensures ∙ c.if-not-is_next.false in
    let p = plain_says _ _ (c.args.row - 10) (omega arith) (λ k. omega arith) (λ k. omega arith)
    (form h _ _ _ c.requires.le_row.0 c.requires.le_row.1 q) in
    expr_plain h _ _ _ c.requires.le_row.0 c.requires.le_row.1 q c.number_at.ensures t p (c.put_plain.ensures (expr_room h _ t) e p.row)
