-- What the step is shown to be the rules with: a fact of an outcome, a value that fits, and what a queue hands out.
use Rattle.std.specs.Prelude.{ℕ, ◌≡◌, Bool, true, false, cond, List, [], ◌∷◌, ◌++◌}
use Rattle.std.proofs.Math.Path.{refl, ap}
use Rattle.std.proofs.Common.{sym, ◌∙◌}
use Rattle.std.proofs.Math.Option
use Rattle.std.proofs.Math.Option.{Option, none, some, none-ne-some, some-injective}
use Rattle.lists.specs.Lists.{All}
use Rattle.answers.specs.declared.Answer.{Answer}
use Rattle.values.specs.declared.Value.{Value}
use Rattle.programs.specs.Program.{Program}
use Rattle.runs.specs.Outcome.{took, refused}
use Rattle.machines.specs.Config.{Reply, Pair, Config}
use Rattle.machines.specs.Maps.{held_back}
use Rattle.machines.specs.Queue.{behind, pull}
use Rattle.rules.specs.declared.Rule.{Rule}
use Rattle.rules.specs.Act.{fits}
use Rattle.rules.specs.Step.{Outcome}

-- A fact of what an outcome holds.
abbrev pub Each : (Rule → Config → Type 0) → (Answer → Type 0) → Outcome → Type 0
Each P Q (took R c) = P R c
Each P Q (refused a) = Q a

pub fit_some : (v u : Value) (b : Bool) → fits v b ≡ some u → (v ≡ u) × (b ≡ true)
fit_some v u true e = (cc, refl)
fit_some v u false e = absurd (none-ne-some u e)

pub fit_none : (v : Value) (b : Bool) → fits v b ≡ none → b ≡ false
fit_none v true e = absurd (none-ne-some v (sym e))
fit_none v false e = refl

-- THE QUEUE: what pull takes is the first pair that is not held back
module _ (p : Program) (n : ℕ) (α : List Reply) where
  abbrev pub Held : Pair → Type 0
  Held x = held_back p n α x.event ≡ true

  -- q is q₁ · x · q₂, with q₁ held back and x not
  pub record First (q : List Pair) (x : Pair) (q' : List Pair) : Type 0 where
    pub q₁ : List Pair
    pub q₂ : List Pair
    pub whole : q ≡ q₁ ++ x ∷ q₂
    pub left : q' ≡ q₁ ++ q₂
    pub held : All Held q₁
    pub free : held_back p n α x.event ≡ false

  pub pulled : (q : List Pair) (x : Pair) (q' : List Pair) → pull p n α q ≡ some (x, q') → First q x q'
  pulled [] x q' e = absurd (none-ne-some _ e)
  pulled (y ∷ q) x q' e = go (held_back p n α y.event) refl (pulled q) e
    where
      deeper : (o : Option (Pair × List Pair)) → held_back p n α y.event ≡ true → ((x : Pair) (q' : List Pair) → o ≡ some (x, q') → First q x q') →
          Option.map (behind y) o ≡ some (x, q') → First (y ∷ q) x q'
      deeper none h ih e = absurd (none-ne-some _ e)
      deeper (some (z, r)) h ih e = let g = some-injective _ _ e in let a : z ≡ x = ap (λ t. t.0) g in let b : y ∷ r ≡ q' = ap (λ t. t.1) g in let f = ih z r refl in record {
        q₁ = y ∷ f.q₁;
        q₂ = f.q₂;
        whole = rw (← a) (ap (λ t. y ∷ t) f.whole);
        left = sym b ∙ ap (λ t. y ∷ t) f.left;
        held = (h, f.held);
        free = rw (← a) f.free;
      }

      go : (b : Bool) → held_back p n α y.event ≡ b → ((x : Pair) (q' : List Pair) → pull p n α q ≡ some (x, q') → First q x q') →
          cond b (Option.map (behind y) (pull p n α q)) (some (y, q)) ≡ some (x, q') → First (y ∷ q) x q'
      go true h ih e = deeper (pull p n α q) h ih e
      go false h ih e = let g = some-injective _ _ e in let a : y ≡ x = ap (λ t. t.0) g in let b : q ≡ q' = ap (λ t. t.1) g in record { q₁ = []; q₂ = q; whole = ap (λ t. t ∷ q) a; left = sym b; held = tt; free = rw (← a) h }

  pub pull_first : (q₁ : List Pair) (x : Pair) (q₂ : List Pair) → All Held q₁ → held_back p n α x.event ≡ false → pull p n α (q₁ ++ x ∷ q₂) ≡ some (x, q₁ ++ q₂)
  pull_first [] x q₂ h f = rw f
  pull_first (y ∷ q₁) x q₂ h f = rw (h.0, pull_first q₁ x q₂ h.1 f)

  pub pull_none : (q : List Pair) → All Held q → pull p n α q ≡ none
  pull_none [] h = refl
  pull_none (y ∷ q) h = rw (h.0, pull_none q h.1)

  pub none_pulled : (q : List Pair) → pull p n α q ≡ none → All Held q
  none_pulled [] e = tt
  none_pulled (y ∷ q) e = go (held_back p n α y.event) refl (none_pulled q) e
    where
      none_mapped : (o : Option (Pair × List Pair)) → Option.map (behind y) o ≡ none → o ≡ none
      none_mapped none e = refl
      none_mapped (some t) e = absurd (none-ne-some _ (sym e))

      go : (b : Bool) → held_back p n α y.event ≡ b → (pull p n α q ≡ none → All Held q) →
          cond b (Option.map (behind y) (pull p n α q)) (some (y, q)) ≡ none → Held y × All Held q
      go true h ih e = (h, ih (none_mapped (pull p n α q) e))
      go false h ih e = absurd (none-ne-some _ (sym e))
