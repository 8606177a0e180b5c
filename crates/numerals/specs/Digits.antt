-- The loop over the digits of a number: what the bytes that are left say, after the number so far.
use Prim.Native.Nat.{ℕ, suc, ◌+◌, ◌-◌, ◌*◌, ◌≤◌, ◌<◌, min}
use Rattle.std.specs.Prelude.{◌≡◌, refl, Bool, true, false, not, cond, List, [], ◌∷◌, eqb, length, drop, get_or, Option, Some, None}
use Rattle.std.proofs.Common.{ap, sym, ◌∙◌, add-one, drop_of_length-le, drop-cons}
use Rattle.std.proofs.Math.Option.{none, some}
use native.Mathlib.Omega.{arith}
use borrow.Author.Tests.{le-leb, lt-leb}
use Rattle.lists.specs.Lists.{all}
use Rattle.texts.specs.Numbers.{digit, value, plain, decimal}
use Rattle.numerals.specs.Numerals.{CAP, capped}

-- SOME DIGITS, AND NO ZERO IN FRONT OF ANOTHER
-- none
pub plain_none : (d : List ℕ) → length d ≡ 0 → plain d ≡ false
plain_none [] h = refl
plain_none (b ∷ d) h = absurd (omega arith)

-- one
pub plain_one : (d : List ℕ) → length d ≡ 1 → plain d ≡ true
plain_one [] h = absurd (omega arith)
plain_one (b ∷ []) h = refl
plain_one (b ∷ c ∷ d) h = absurd (omega arith)

-- more
pub plain_more : (d : List ℕ) → 1 < length d → plain d ≡ not (eqb (get_or d 0 0) 48)
plain_more [] h = absurd (omega arith)
plain_more (b ∷ []) h = absurd (omega arith)
plain_more (b ∷ c ∷ d) h = refl

-- THE DIGITS
-- a number that is cut on the way is cut alike at the end
pub value_cut : (d : List ℕ) (v : ℕ) → min (value (min v CAP) d) CAP ≡ min (value v d) CAP
value_cut [] v = omega arith
value_cut (b ∷ d) v = sym (value_cut d (10 * min v CAP + (b - 48))) ∙ ap (λ (n : ℕ). min (value n d) CAP) (step v (b - 48)) ∙ value_cut d (10 * v + (b - 48))
  where
    step : (v x : ℕ) → min (10 * min v CAP + x) CAP ≡ min (10 * v + x) CAP
    step v x = omega arith

-- what the bytes d say after v: no number where one of them is no digit
unfoldable pub said : ℕ → List ℕ → Option ℕ
said v d = capped (cond (all digit d) (some (value v d)) none)

-- The number so far may be cut.
said_cut : (v : ℕ) (d : List ℕ) → said (min v CAP) d ≡ said v d
unfolding said
said_cut v d = go (all digit d)
  where
    go : (t : Bool) → capped (cond t (some (value (min v CAP) d)) none) ≡ capped (cond t (some (value v d)) none)
    go true = ap Some (value_cut d v)
    go false = refl

-- at the first byte
pub said_first : (d : List ℕ) → plain d ≡ true → capped (decimal d) ≡ said 0 d
unfolding said
said_first d p = rw p

-- not plain
pub said_plain : (d : List ℕ) → plain d ≡ false → capped (decimal d) ≡ None
said_plain d p = rw p

module _ (d : List ℕ) (i v : ℕ) where
  -- a digit
  pub said_more : i < length d → 48 ≤ get_or d i 0 → get_or d i 0 ≤ 57 → said v (drop i d) ≡ said (min (10 * v + (get_or d i 0 - 48)) CAP) (drop (i + 1) d)
  unfolding said
  said_more h l u =
      rw (drop-cons d i 0 h, le-leb 48 (get_or d i 0) l, le-leb (get_or d i 0) 57 u, add-one)
      (sym (said_cut (10 * v + (get_or d i 0 - 48)) (drop (suc i) d)))

  -- a byte below the digits
  pub said_low : i < length d → get_or d i 0 < 48 → said v (drop i d) ≡ None
  unfolding said
  said_low h l = rw (drop-cons d i 0 h, lt-leb 48 (get_or d i 0) l)

  -- a byte above them
  pub said_high : i < length d → 57 < get_or d i 0 → said v (drop i d) ≡ None
  unfolding said
  said_high h l = rw (drop-cons d i 0 h, le-leb 48 (get_or d i 0) (omega arith), lt-leb (get_or d i 0) 57 l)

  -- a byte that is none of them
  pub said_other : i < length d → digit (get_or d i 0) ≡ false → said v (drop i d) ≡ None
  unfolding said
  said_other h n = rw (drop-cons d i 0 h, n)

  -- no byte is left
  pub said_all : length d ≤ i → v ≤ CAP → said v (drop i d) ≡ Some v
  unfolding said
  said_all h l = let e : min v CAP ≡ v = omega arith in rw (drop_of_length-le d h, e)
