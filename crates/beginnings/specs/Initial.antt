-- The first state of a kind: it is found by the states' kinds alone.
use Prim.Native.Nat.{ℕ, zero, suc, ◌+◌, ◌≤◌, ◌<◌}
use Rattle.std.specs.Prelude.{◌≡◌, Bool, eqb, get_or}
use Rattle.std.proofs.Math.Path.{refl, sym, ap}
use Rattle.std.proofs.Common.{◌∙◌, eq-eqb, ne_eqb}
use Rattle.std.proofs.Math.Logic.{dite}
use Rattle.std.proofs.Math.Bool.{true, false, cond}
use mathlib.Core.List.{List, []}
use Rattle.std.proofs.Math.Decide.{ℕ_discrete}
use Rattle.std.proofs.Math.Numerals.{add-one}
use native.Mathlib.Omega.{arith}
use Rattle.rows.specs.Seek.{table}
use Rattle.programs.specs.Sizes.{STATES}
use Rattle.programs.specs.Program.{State, Program, first_of, Init}
use Rattle.tables.specs.Decode.{count, state_in, states_of}

-- the number of the first state of kind m, where the states' kinds are these; 0 where there is none
abbrev pub initial_in : List ℕ → ℕ → ℕ
initial_in kinds m = first_of m 1 (states_of kinds [] [] [])

-- THE SEARCH
module _ (g : ℕ → State) (k : ℕ) where
  -- the states in front of n are of other kinds, and n is of the kind
  first_here : (i cnt n : ℕ) → i ≤ n → n < i + cnt → ((j : ℕ) → i ≤ j → j < n → (g j).of ≡ k → ⊥) → (g n).of ≡ k → first_of k i (table g i cnt) ≡ n
  unfolding table
  first_here i zero n l h o e = absurd (omega arith)
  first_here i (suc cnt) n l h o e = dite (ℕ_discrete i n)
      (λ (q : i ≡ n). let f : (g i).of ≡ k = rw q e in rw (eq-eqb (g i).of k f) q)
      (λ (q : i ≡ n → ⊥). rw (ne_eqb (g i).of k (o i (omega arith) (omega arith)), ← add-one i) (first_here (i + 1) cnt n (omega arith) (omega arith) (λ j a b. o j (omega arith) b) e))

  -- all are
  first_none : (i cnt : ℕ) → ((j : ℕ) → i ≤ j → j < i + cnt → (g j).of ≡ k → ⊥) → first_of k i (table g i cnt) ≡ 0
  unfolding table
  first_none i zero o = refl
  first_none i (suc cnt) o = rw (ne_eqb (g i).of k (o i (omega arith) (omega arith)), ← add-one i) (first_none (i + 1) cnt (λ j a b. o j (omega arith) (omega arith)))

  -- it goes by the kinds alone
  first_same : (f : ℕ → State) (i cnt : ℕ) → ((j : ℕ) → (f j).of ≡ (g j).of) → first_of k i (table f i cnt) ≡ first_of k i (table g i cnt)
  unfolding table
  first_same f i zero e = refl
  first_same f i (suc cnt) e = rw (e i, ← add-one i, first_same f (i + 1) cnt e)

  -- it is one of them, or 0
  first_small : (i cnt : ℕ) → first_of k i (table g i cnt) ≤ i + cnt
  unfolding table
  first_small i zero = omega arith
  first_small i (suc cnt) = go (eqb (g i).of k) (rw (add-one i) at (first_small (i + 1) cnt))
    where
      go : (b : Bool) → first_of k (suc i) (table g (suc i) cnt) ≤ suc i + cnt → cond b i (first_of k (suc i) (table g (i + 1) cnt)) ≤ i + suc cnt
      go true h = omega arith
      go false h = rw (add-one i) (omega arith)

module _ (kinds : List ℕ) (m : ℕ) where
  -- its number is at most 65
  pub initial_small : initial_in kinds m ≤ 65
  unfolding states_of
  initial_small = omega (arith, first_small (state_in kinds [] [] []) m 1 (count STATES kinds))

  -- the state n is the first of the kind
  pub initial_here : (n : ℕ) → 1 ≤ n → n ≤ count STATES kinds → ((j : ℕ) → 1 ≤ j → j < n → get_or kinds j 0 ≡ m → ⊥) → get_or kinds n 0 ≡ m → n ≡ initial_in kinds m
  unfolding states_of
  initial_here n l h o e = sym (first_here (state_in kinds [] [] []) m 1 (count STATES kinds) n l (omega arith) o e)

  -- there is none
  pub initial_none : (n : ℕ) → count STATES kinds < n → ((j : ℕ) → 1 ≤ j → j < n → get_or kinds j 0 ≡ m → ⊥) → 0 ≡ initial_in kinds m
  unfolding states_of
  initial_none n h o = sym (first_none (state_in kinds [] [] []) m 1 (count STATES kinds) (λ j a b. o j a (omega arith)))

  -- INIT of the kind, as the definitions have it
  pub initial_is : (p : Program) (entries exits flags : List ℕ) → p.states ≡ states_of kinds entries exits flags → Init p m ≡ initial_in kinds m
  unfolding states_of
  initial_is p entries exits flags e = ap (λ (l : List State). first_of m 1 l) e
      ∙ first_same (state_in kinds [] [] []) m (state_in kinds entries exits flags) 1 (count STATES kinds) (λ j. refl)
