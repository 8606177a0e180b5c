-- `checked_queues::single` meets its contract: a pair's number, and `contains` on the numbers behind it. Assumes nothing.
use Rattle.std.specs.Prelude.{ℕ, ◌+◌, ◌-◌, ◌≡◌, refl, List, [], ◌∷◌, eqb, length, get_or, take, drop}
use Rattle.std.proofs.Common.{ap, sym, ◌∙◌, arith, length-drop, eq-eqb, ne_eqb}
use Rattle.std.proofs.Math.Logic.{dite}
use Rattle.std.proofs.Math.Decide.{ℕ_discrete}
use Rattle.std.specs.List.{list_any}
use lib.Seq.{take_all}
use Rattle.lists.specs.Lists.{any}
use Rattle.lists.specs.Tells.{form, isnt, refuted, denied}
use Rattle.checked_queues.proofs.single.Goals as goal

-- an equality goes both ways
eqb_turned : (x y : ℕ) → eqb y x ≡ eqb x y
eqb_turned x y = dite (ℕ_discrete x y)
    (λ (e : x ≡ y). eq-eqb y x (sym e) ∙ sym (eq-eqb x y e))
    (λ (n : x ≡ y → ⊥). ne_eqb y x (λ q. n (sym q)) ∙ sym (ne_eqb x y n))

-- so whether a list has x is asked alike
any_is : (x : ℕ) (l : List ℕ) → list_any (λ y. eqb y x) l ≡ any (eqb x) l
any_is x [] = refl
any_is x (y ∷ l) = rw (eqb_turned x y, any_is x l)

pub returns-then-pair_ok : goal.returns-then-pair_ok
returns-then-pair_ok c = λ p told.
    let a = c.args in
    let x = get_or a.pairs.now a.j 0 in
    let l = a.pairs.now in
    let rest : take (length l - (a.j + 1)) (drop (a.j + 1) l) ≡ drop (a.j + 1) l = take_all (length l - (a.j + 1)) (drop (a.j + 1) l) (omega (arith, length-drop (a.j + 1) l)) in
    let same : c.contains.result ≡ any (eqb x) (drop (a.j + 1) l) = c.contains.ensures.value ∙ ap (λ (m : List ℕ). list_any (λ y. eqb y x) m) rest ∙ any_is x (drop (a.j + 1) l) in
    form (isnt c.contains.result) (λ e. record { pair = (c.pair_ok.ensures p told).holds c.if-pair_ok.true; once = sym same ∙ e }) (λ s. same ∙ s.once)

pub returns-else-pair_ok : goal.returns-else-pair_ok
returns-else-pair_ok c = λ p told. rw c.if-pair_ok.false (refuted (λ s. denied (c.pair_ok.ensures p told) c.if-pair_ok.false s.pair))
