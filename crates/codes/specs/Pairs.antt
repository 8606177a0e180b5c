-- An event and a value as one number, for a queue: the event times 2 ^ 40, plus the value's number.
use Rattle.std.specs.Prelude.{ℕ, ◌+◌, ◌*◌, ◌/◌, ◌%◌, ◌<◌, ◌≡◌, eqb}
use Rattle.std.proofs.Common.{sym, ap, ◌∙◌, arith}
use Rattle.values.specs.declared.Value.{Value}
use Rattle.lists.specs.Tells.{Tells, form, equal}
use Rattle.codes.specs.Codes.{code_of, value_of, Holdable}
use Rattle.codes.specs.Laws.{value_code, code_small}

-- THE NUMBER OF A PAIR
abbrev pub pair_code : ℕ → Value → ℕ
pair_code e v = e * 1099511627776 + code_of v

-- the event of a number
abbrev pub pair_event : ℕ → ℕ
pair_event x = x / 1099511627776

-- its value
abbrev pub pair_value : ℕ → Value
pair_value x = value_of (x % 1099511627776)

-- a number that is some pair's
abbrev pub CanonicalPair : ℕ → Type 0
CanonicalPair x = pair_code (pair_event x) (pair_value x) ≡ x

module _ (e : ℕ) (v : Value) (h : Holdable v) where
  -- a pair's number has the pair's event
  pub pair_event_lem : pair_event (pair_code e v) ≡ e
  pair_event_lem = omega (arith, code_small v h)

  -- its rest is the number of the pair's value
  pub pair_rest : pair_code e v % 1099511627776 ≡ code_of v
  pair_rest = omega (arith, code_small v h)

  -- so it has the pair's value
  pub pair_value_lem : pair_value (pair_code e v) ≡ v
  pair_value_lem = ap value_of pair_rest ∙ value_code v h

  -- a pair's number is canonical
  pub pair_canonical : CanonicalPair (pair_code e v)
  pair_canonical = rw (pair_event_lem, pair_value_lem)

  -- of an event of 8 bits it is below 2 ^ 48
  pub pair_small : e < 256 → pair_code e v < 281474976710656
  pair_small l = omega (arith, code_small v h)

-- two pairs with one number are one pair
pub pair_injective : (e f : ℕ) (v w : Value) → Holdable v → Holdable w → pair_code e v ≡ pair_code f w → (e ≡ f) × (v ≡ w)
pair_injective e f v w h k q =
    (sym (pair_event_lem e v h) ∙ ap pair_event q ∙ pair_event_lem f w k, sym (pair_value_lem e v h) ∙ ap pair_value q ∙ pair_value_lem f w k)

-- CANONICAL NUMBERS ARE EQUAL EXACTLY WHEN THEIR PAIRS ARE
pub pairs_tell : (x y : ℕ) → CanonicalPair x → CanonicalPair y → Tells (eqb x y) ((pair_event x ≡ pair_event y) × (pair_value x ≡ pair_value y))
pairs_tell x y h k = form (equal x y) (λ e. (ap pair_event e, ap pair_value e)) (λ d. sym h ∙ rw (d.0, d.1) k)
