-- `queues::holds` meets its contract: `any` over the numbers from place row on. Assumes nothing.
use Rattle.std.specs.Prelude.{ℕ, ◌+◌, ◌-◌, ◌≡◌, refl, List, [], ◌∷◌, eqb, take, drop}
use Rattle.std.proofs.Common.{ap, sym, ◌∙◌, arith, eq-eqb, ne_eqb, rules}
use Rattle.std.proofs.Math.Logic.{dite}
use Rattle.std.proofs.Math.Decide.{ℕ_discrete}
use Rattle.std.specs.List.{list_any}
use Rattle.std.proofs.lemmas.Iterator.{YieldsList-from_slice}
use Rattle.std.proofs.lemmas.Iterator.Search.{any_from_yields_List}
use Rattle.lists.specs.Lists.{any}
use Rattle.rows.specs.Part.{part}
use Rattle.queues.proofs.holds.Goals as goal

-- an equality goes both ways
eqb_turned : (x y : ℕ) → eqb y x ≡ eqb x y
eqb_turned x y = dite (ℕ_discrete x y)
    (λ (e : x ≡ y). eq-eqb y x (sym e) ∙ sym (eq-eqb x y e))
    (λ (n : x ≡ y → ⊥). ne_eqb y x (λ q. n (sym q)) ∙ sym (ne_eqb x y n))

-- so whether a list has x is asked alike
any_is : (x : ℕ) (l : List ℕ) → list_any (λ y. eqb y x) l ≡ any (eqb x) l
any_is x [] = refl
any_is x (y ∷ l) = rw (eqb_turned x y, any_is x l)

pub returns : goal.returns
unfolding part
returns c =
    let a = c.args in
    let k : a.row + a.n - a.row ≡ a.n = omega arith in
    any_from_yields_List (λ y. eqb y a.x) c.any.new.self _ c.any.result c.any.ensures.ran (YieldsList-from_slice _ c.iter.ensures.rest) (λ y b q h. search rules)
    ∙ ap (λ (m : ℕ). list_any (λ y. eqb y a.x) (take m (drop a.row a.pairs.now))) k ∙ any_is a.x (take a.n (drop a.row a.pairs.now))
