-- WHAT IS SHOWN of a configuration: where no refusal has the number 0, two results that read as one are equal.
use Rattle.std.specs.Prelude.{◌≡◌, refl, Result, Ok, Err}
use Rattle.std.proofs.Common.{ap, sym, ◌∙◌}
use Rattle.answers.specs.declared.Answer.{Answer}
use Rattle.answers.specs.Number.{number}
use Rattle.showing.specs.declared.Living.{Living as Machines}
use Rattle.showing.specs.declared.Shown.{Shown as One}
use Rattle.showing.specs.Shown.{Living, Shown, told_living, told_shown}

-- the refusals are numbered from 1 on
abbrev Refused : {A : Type 0} → Result A Answer → Type 0
Refused r = (a : Answer) → r ≡ Err a → number a ≡ 0 → ⊥

-- `showing::live`
pub living_one : (definition : Living) (r s : Result Machines Answer) → told_living r ≡ definition → Refused r → told_living s ≡ definition → Refused s → r ≡ s
living_one definition r s h m k n = go r s m n (h ∙ sym k)
  where
    go : (r s : Result Machines Answer) → Refused r → Refused s → told_living r ≡ told_living s → r ≡ s
    go (Ok l) (Ok o) m n e = λ i. Ok (record { count = (ap (λ (x : Living). x.count) e) i; machines = (ap (λ (x : Living). x.machines) e) i })
    go (Ok l) (Err b) m n e = absurd (n b refl (sym (ap (λ (x : Living). number x.answer) e)))
    go (Err a) (Ok o) m n e = absurd (m a refl (ap (λ (x : Living). number x.answer) e))
    go (Err a) (Err b) m n e = ap (λ (x : Living). Err x.answer) e

-- `showing::look`
pub shown_one : (definition : Shown) (r s : Result One Answer) → told_shown r ≡ definition → Refused r → told_shown s ≡ definition → Refused s → r ≡ s
shown_one definition r s h m k n = go r s m n (h ∙ sym k)
  where
    go : (r s : Result One Answer) → Refused r → Refused s → told_shown r ≡ told_shown s → r ≡ s
    go (Ok l) (Ok o) m n e = λ i. Ok (record {
      kind = (ap (λ (x : Shown). x.kind) e) i;
      depth = (ap (λ (x : Shown). x.depth) e) i;
      state = (ap (λ (x : Shown). x.state) e) i;
      variables = (ap (λ (x : Shown). x.variables) e) i;
      values = (ap (λ (x : Shown). x.values) e) i;
      waiting = (ap (λ (x : Shown). x.waiting) e) i;
      pairs = (ap (λ (x : Shown). x.pairs) e) i;
    })
    go (Ok l) (Err b) m n e = absurd (n b refl (sym (ap (λ (x : Shown). number x.answer) e)))
    go (Err a) (Ok o) m n e = absurd (m a refl (ap (λ (x : Shown). number x.answer) e))
    go (Err a) (Err b) m n e = ap (λ (x : Shown). Err x.answer) e
