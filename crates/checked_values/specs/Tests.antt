-- Tests of the numbers, and that they decide what is asked.
use Rattle.std.specs.Prelude.{ℕ, zero, suc, ◌%◌, ◌<◌, ◌≡◌, refl, Bool, true, false, ◌&&◌, leb, ltb, length}
use Rattle.std.proofs.Common.{sym, ◌∙◌, true≢false, arith, ne_eqb}
use Rattle.lists.specs.Lists.{there}
use Rattle.lists.specs.Tells.{Tells, both, form, itself, at_most_lem, less, there_is}
use Rattle.values.specs.declared.Ty.{Ty}
use Rattle.values.specs.declared.Value.TheVariants.{Event as vevent, Id as vid}
use Rattle.values.specs.declared.Live.{Live}
use Rattle.values.specs.Values.{suits}
use Rattle.programs.specs.Program.{Program, event_type}
use Rattle.acceptance.specs.Accepted.{ValueOk}
use Rattle.codes.specs.Codes.{value_of, Canonical}
use Rattle.codes.specs.Pairs.{pair_event, CanonicalPair}
use Rattle.checked_values.specs.Numbers.{ValueNumber, TypedNumber, PairNumber, HeldNumber}

module _ (p : Program) (next : ℕ) where
  -- an event
  pub event_told : (e n : ℕ) → length p.events ≡ n → Tells (there n e) (ValueOk p next (vevent e))
  event_told e n q = rw q (there_is n e)

  -- an id
  pub id_told : (i : Live) → Tells (leb 1 i.0 && ltb i.0 next) (ValueOk p next (vid i))
  id_told i = both (at_most_lem 1 i.0) (less i.0 next)

  module _ (x : ℕ) where
    -- a canonical number is asked its value
    pub value_told : (r : Bool) → Canonical x → Tells r (ValueOk p next (value_of x)) → Tells r (ValueNumber p next x)
    value_told r h t = form t (λ v. record { written = h; value = v }) (λ k. k.value)

    -- a value's number whether the value suits
    pub typed_told : (t : Ty) → ValueNumber p next x → Tells (suits t (value_of x)) (TypedNumber p next t x)
    typed_told t h = form (itself (suits t (value_of x))) (λ s. record { written = h.written; value = (h.value, s) }) (λ k. k.value.1)

    -- a value of a type is a value
    pub untyped : (t : Ty) → TypedNumber p next t x → ValueNumber p next x
    untyped t h = record { written = h.written; value = h.value.0 }

    -- the rest of a pair's number is its value's
    rest_canonical : CanonicalPair x → Canonical (x % 1099511627776)
    rest_canonical h = omega arith

    -- and a number whose rest is a value's is a pair's
    pair_written : Canonical (x % 1099511627776) → CanonicalPair x
    pair_written h = omega arith

    -- a pair whose event is there
    pub pair_told : (r : Bool) (n : ℕ) → length p.events ≡ n → there n (pair_event x) ≡ true → Tells r (TypedNumber p next (event_type p (pair_event x)) (x % 1099511627776))
        → Tells r (PairNumber p next x)
    pair_told r n q e t = form t
        (λ k. record { written = pair_written k.written; pair = ((event_told (pair_event x) n q).holds e, k.value) })
        (λ k. record { written = rest_canonical k.written; value = k.pair.1 })

    -- a pair whose event is not
    pub pair_absent : (n : ℕ) → length p.events ≡ n → there n (pair_event x) ≡ false → PairNumber p next x → ⊥
    pair_absent n q e k = true≢false (sym ((event_told (pair_event x) n q).test k.pair.0) ∙ e)

    -- a raise
    pub raise_told : (r : Bool) → 1 < x → Tells r (PairNumber p next x) → Tells r (HeldNumber p next x)
    raise_told r h t =
        let a = ne_eqb x 0 (λ e. omega arith) in
        let b = ne_eqb x 1 (λ e. omega arith) in
        form t (λ k. record { written = rw (a, b) k.written; pending = rw (a, b) k.pair })
        (λ k. record { written = rw (a, b) at k.written; pair = rw (a, b) at k.pending })

-- nothing, or a return
pub small_held : (p : Program) (next x : ℕ) → x < 2 → HeldNumber p next x
small_held p next zero h = record { written = refl; pending = tt }
small_held p next (suc zero) h = record { written = refl; pending = tt }
small_held p next (suc (suc x)) h = absurd (omega arith)
