-- The events that a state defers are there exactly where no flag behind the last event is set.
use Rattle.std.specs.Prelude.{ℕ, ◌+◌, ◌-◌, ◌*◌, ◌≤◌, ◌<◌, ◌≡◌, Bool, false, not, List, eqb, get_or}
use Rattle.std.proofs.Common.{refl, ap, sym, ◌∙◌, true≢false, arith}
use Rattle.std.proofs.Math.Bool.{true}
use Rattle.std.proofs.Math.Logic.{⊎_elim, dite}
use Rattle.std.proofs.Math.Decide.{ℕ_discrete}
use Rattle.lists.specs.Lists.{at, There}
use Rattle.lists.specs.Facts.{All-has, All-zip}
use Rattle.lists.specs.Keep.{All-keep, All-kept}
use Rattle.lists.specs.Check.{within, each, each_all, all_each}
use Rattle.rows.specs.Pad.{below?}
use Rattle.rows.specs.Seek.{table}
use Rattle.programs.specs.Sizes.{EVENTS, STATES}
use Rattle.programs.specs.Program.{State}
use Rattle.tables.specs.Decode.{count, flag, defer_of, no_state, state_in, states_of}
use Rattle.tables.specs.Numbered.{table_all, at_row}
use Rattle.tables.specs.Tables.{deferred_flag}
use Rattle.faults.specs.Each.{fails}
use Rattle.faults.specs.Ranges.{EachOf}

module _ (flags : List ℕ) (n events : ℕ) where
  -- no event that is not there has its flag set: what a loop over the flags keeps, up to event e
  abbrev pub Unset : ℕ → Type 0
  Unset e = (i : ℕ) → events < i → i ≤ e → flag flags n i ≡ false

  -- with one event more
  pub unset_more : (e : ℕ) → Unset e → flag flags n (e + 1) ≡ false → Unset (e + 1)
  unset_more e h f i a b = dite (ℕ_discrete i (e + 1)) (λ q. rw q f) (λ q. h i a (omega arith))

  -- every event deferred is there
  pub defer_passes : Unset EVENTS → (each (within events) (defer_of flags n)).test ≡ true
  unfolding defer_of
  defer_passes h = (each (within events) (defer_of flags n)).tells.test (all_each (within events) (defer_of flags n)
      (All-zip (λ e. flag flags n e ≡ true) (There EVENTS) (There events) (defer_of flags n) inside (All-kept (flag flags n) (table (λ i. i) 1 EVENTS))
      (All-keep (There EVENTS) (flag flags n) (table (λ i. i) 1 EVENTS) (table_all (There EVENTS) (λ i. i) 1 EVENTS (λ i a b. (a, omega arith))))))
    where
      inside : (e : ℕ) → flag flags n e ≡ true → There EVENTS e → There events e
      inside e f t = (t.0, ⊎_elim (λ (k : e < events + 1). omega arith) (λ (k : events + 1 ≤ e). absurd (true≢false (sym f ∙ h e (omega arith) t.1))) (below? e (events + 1)))

  -- one is not
  pub defer_fails : (e : ℕ) → events < e → e ≤ EVENTS → flag flags n e ≡ true → (each (within events) (defer_of flags n)).test ≡ false
  defer_fails e h k f = fails (each (within events) (defer_of flags n))
      (λ q. let t = All-has e (There events) (defer_of flags n) (deferred_flag flags n e (omega arith) k ∙ f) (each_all (within events) (defer_of flags n) q) in omega (arith, t.1))

  -- each flag behind the last event that is there is told by whether it is not set
  pub defers_told : (r : Bool) → EachOf (λ e b. b ≡ eqb (get_or flags (n * (EVENTS + 1) + (e + 1)) 0) 0) events EVENTS r → r ≡ (each (within events) (defer_of flags n)).test
  defers_told true h = sym (defer_passes (λ i low high.
      let z : i - 1 + 1 ≡ i = omega arith in
      ap not (rw z at (sym (h (i - 1) (omega arith) (omega arith))))))
  defers_told false h = sym (defer_fails (h.0 + 1) (omega (arith, h.1)) (omega (arith, h.2)) (ap not (sym h.3)))

-- what state n of a table defers
pub deferred : (states entries exits flags : List ℕ) (n : ℕ) → 1 ≤ n → n ≤ count STATES states → (at no_state (states_of states entries exits flags) n).defer ≡ defer_of flags n
unfolding states_of
deferred states entries exits flags n h k = ap (λ (q : State). q.defer) (at_row (state_in states entries exits flags) no_state refl h k)
