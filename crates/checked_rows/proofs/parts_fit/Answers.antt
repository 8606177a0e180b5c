-- `checked_rows::parts_fit` meets its contract: each part fits at its place. Assumes nothing.
use Rattle.std.specs.Prelude.{ℕ, ◌+◌, ◌≡◌, ◌-◌, length}
use Rattle.std.proofs.Common.{arith, rules, subst, sym}
use Rattle.std.proofs.lemmas.Iterator.{cases_from_all, YieldsList-from_slice}
use Rattle.std.proofs.lemmas.Iterator.Consumers.{YieldsList-from_enumerate}
use Rattle.lists.specs.Tells.{form}
use Rattle.rows.specs.Part.{part, part_length, part_get}
use Rattle.zeros.specs.Each.{placed_told, yes, no}
use Rattle.checked_rows.specs.CheckedRows.{PartFits}
use Rattle.checked_rows.proofs.parts_fit.Goals as goal

pub returns : goal.returns
unfolding part
returns c =
    let a = c.args in
    let fits = λ (j s : ℕ). PartFits a.heights.now a.served.now a.n a.kind (j + a.w) s in
    let row = part a.b (a.b + a.count - a.b) a.parts.now in
    let width : a.b + a.count - a.b ≡ a.count = omega arith in
    let long : length row ≡ a.b + a.count - a.b = part_length a.b (a.b + a.count - a.b) a.parts.now (omega (arith, c.requires)) in
    form (placed_told fits row
    (cases_from_all _ _ _ (λ (x : ℕ × ℕ). fits x.0 x.1) (λ (x : ℕ × ℕ). fits x.0 x.1 → ⊥) c.all.ensures.ran (YieldsList-from_enumerate (YieldsList-from_slice row cc) cc)
    (λ x q k. search (yes, rules)) (λ x q k. search (no, rules))))
    (λ f j l. subst (fits j) (part_get a.b (a.b + a.count - a.b) a.parts.now j 0 (omega arith)) (f j (omega (arith, long))))
    (λ f j l. subst (fits j) (sym (part_get a.b (a.b + a.count - a.b) a.parts.now j 0 (omega (arith, long)))) (f j (omega (arith, long))))
