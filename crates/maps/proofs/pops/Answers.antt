-- `maps::pops` meets its contract: what specs/Maps.antt says by the numbers, a case for each arm.
use Rattle.std.specs.Prelude.{ℕ, ◌+◌, ◌-◌, ◌≡◌, true, ◌⊎◌, ◌||◌, eqb, get_or}
use Rattle.std.proofs.Common.{sym, ◌∙◌, ⊎_elim, eq-eqb, ne_eqb, rules}
use Rattle.maps.specs.Maps.{pop_is}
use Rattle.maps.proofs.pops.Goals as goal

-- an entry that is nothing or deferred
either : (x : ℕ) → (x ≡ 0) ⊎ (x ≡ 255) → (eqb x 0 || eqb x 255) ≡ true
either x h = ⊎_elim (λ (e : x ≡ 0). rw (eq-eqb x 0 e)) (λ (e : x ≡ 255). rw e) h

pub returns-in-0 : goal.returns-in-0
returns-in-0 c p l h =
    let a = c.args in
    sym (pop_is p a.says.now a.maps.now l a.b a.n a.e c.requires h ∙ rw (either _ c.in-0.is, sym c.own.ensures))

pub returns-in_default : goal.returns-in_default
returns-in_default c p l h =
    let a = c.args in
    let x = get_or a.maps.now (a.b + (a.e - 1)) 0 in
    let not_none : x ≡ 0 → ⊥ = search rules in
    let not_deferred : x ≡ 255 → ⊥ = search rules in
    sym (pop_is p a.says.now a.maps.now l a.b a.n a.e c.requires h ∙ rw (ne_eqb x 0 not_none, ne_eqb x 255 not_deferred))
