-- `taking_exprs::take_bool` meets its contract. Assumes nothing.
use Prim.Native.Nat.{ℕ}
use mathlib.Core.Path.{◌≡◌, refl, ap, sym, ◌∙◌}
use mathlib.Core.Bool.{Bool, cond}
use mathlib.Core.List.{[], ◌∷◌}
use lib.Dec.{eqb}
use mir.Syntax.{w64}
use mir.Val.{to_z, of_z, bool_byte}
use mir.Facts.{to_z-of_z}
use Rattle.programs.specs.declared.Leaf.TheVariants.{Bool as bool_val}
use Rattle.programs.specs.declared.Expr.TheVariants.{Leaf as leaf}
use Rattle.texts.specs.Forms.{is_one}
use Rattle.spoken.specs.Took.{took, refused}
use Rattle.putting.specs.More.{expr_put}
use Rattle.taking_exprs.specs.Vals.{bool_zero, bool_one, bool_out}
use Rattle.taking_exprs.proofs.take_bool.Goals as goal
use Rattle.taking_exprs.proofs.take_bool.Goals.{else-z-ne0-via-then-z-ne0+else-z-ne1, else-z-ne0-via-else-z-ne0}

-- the row of a bool
row : {b c : Bool} {x : ℕ} → b ≡ c → x ≡ cond c 1 0 → 2 ∷ cond b 1 0 ∷ 0 ∷ [] ≡ 2 ∷ x ∷ 0 ∷ []
row e f = rw (e, f)

pub returns-then-z-ne1 : goal.returns-then-z-ne1
returns-then-z-ne1 c h v e = refused (bool_out v _ e (λ q. c.if-z-ne0.true (ap (of_z w64) q)) (λ q. c.if-z-ne1.true (ap (of_z w64) q))) refl

pub returns : goal.returns
returns c h v e =
    let bit = λ (n : ℕ) (q : of_z w64 c.args.z ≡ n). c.from.ensures ∙ ap (λ (m : ℕ). bool_byte (eqb m 1)) q in
    elim c.else-z-ne0.branch [
      | else-z-ne0-via-then-z-ne0+else-z-ne1 w ↦
          let z = bool_one v _ e (sym (to_z-of_z c.ranges.z) ∙ ap (to_z w64) w.if-z-ne1.false) in
          took z.0 (c.put_expr.ensures ∙ expr_put h (leaf (bool_val (is_one v))) (row z.1 (bit 1 w.if-z-ne1.false)))
      | else-z-ne0-via-else-z-ne0 w ↦
          let z = bool_zero v _ e (sym (to_z-of_z c.ranges.z) ∙ ap (to_z w64) w.if-z-ne0.false) in
          took z.0 (c.put_expr.ensures ∙ expr_put h (leaf (bool_val (is_one v))) (row z.1 (bit 0 w.if-z-ne0.false)))
    ]
