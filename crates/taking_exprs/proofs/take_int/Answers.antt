-- `taking_exprs::take_int` meets its contract: an int that fits 32 bits is in range, and its number is stored. Assumes nothing.
use Prim.Native.Nat.{ℕ, ◌%◌}
use mathlib.Core.Path.{refl, ap, sym, ◌∙◌}
use mathlib.Core.List.{[], ◌∷◌}
use lib.IntN.{ℤ}
use mir.Syntax.{w32}
use mir.Val.{SFits}
use mir.Facts.{to_z-of_z}
use Rattle.values.specs.declared.Value.TheVariants.{Int as vint}
use Rattle.programs.specs.declared.Leaf.TheVariants.{Int as int_val}
use Rattle.programs.specs.declared.Expr.TheVariants.{Leaf as leaf}
use Rattle.codes.specs.Codes.{code_of}
use Rattle.spoken.specs.Took.{took, refused}
use Rattle.putting.specs.More.{expr_put}
use Rattle.taking_exprs.specs.Vals.{int_fits, int_held, int_over}
use Rattle.taking_exprs.proofs.take_int.Goals as goal

pub returns-in_default : goal.returns-in_default
returns-in_default c h v e =
    refused (int_over v _ (to_z-of_z c.ranges.z ∙ e) (λ m. c.in_default.ensures (record { sfits = m }))) refl

pub returns : goal.returns
returns c h v e =
    let z = to_z-of_z c.ranges.z ∙ e in
    let fits = c.in-Ok.ensures.0 in
    let is = c.in-Ok.ensures.1 in
    let held : SFits w32 c.in-Ok.v = rw is fits in
    let code = c.code.ensures ∙ ap (λ (x : ℤ). code_of (vint x)) (to_z-of_z {w = w32} held ∙ is) in
    took (int_fits v _ z fits.sfits)
    (c.put_expr.ensures ∙ expr_put h (leaf (int_val v)) (ap (λ (x : ℕ). 1 ∷ x ∷ 0 ∷ []) (sym (ap (λ (x : ℕ). x % 4294967296) code ∙ int_held v _ z fits.sfits))))
