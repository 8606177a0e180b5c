-- `checked_queues::pairs_ok` meets its contract: each number is asked. Assumes nothing.
use Rattle.std.specs.Prelude.{ℕ, ◌≡◌, Bool, true, false, length, refl}
use Rattle.std.proofs.Common.{arith, rules}
use Rattle.std.proofs.lemmas.Iterator.{cases_from_all, YieldsList-from_range}
use Rattle.lists.specs.Tells.{Tells, form, denied}
use Rattle.programs.specs.Program.{Program}
use Rattle.tables.specs.Decode.{events_of}
use Rattle.zeros.specs.Each.{below_told}
use Rattle.checked_queues.specs.Queues.{Single, singles_apart, apart_singles}
use Rattle.checked_queues.proofs.pairs_ok.Goals as goal

pub returns : goal.returns
returns c = λ p told.
    let a = c.args in
    let l = a.pairs.now in
    let yes : (j : ℕ) (b : Bool) → ((p : Program) → p.events ≡ events_of a.types.now → Tells b (Single p a.next l j)) → b ≡ true → Single p a.next l j = λ j b t e. (t p told).holds e in
    let no : (j : ℕ) (b : Bool) → ((p : Program) → p.events ≡ events_of a.types.now → Tells b (Single p a.next l j)) → b ≡ false → Single p a.next l j → ⊥ = λ j b t e. denied (t p told) e in
    form (below_told (Single p a.next l) (length l)
    (cases_from_all _ _ _ (Single p a.next l) (λ j. Single p a.next l j → ⊥) c.all.ensures.ran (YieldsList-from_range 0 (length l) (length l) refl (omega arith))
    (λ x q k. search (yes, rules)) (λ x q k. search (no, rules))))
    (singles_apart p a.next l) (apart_singles p a.next l)
