-- Document 01, "The line format": "Numbers are decimal without leading zeros; only `val` may have a minus, and `-0` is refused." "`defer=2,5`
-- ascending". "`init` is `none` or pairs `3:7` of variable and expression, variables ascending."
-- A number is in the form however long it is.
use Rattle.std.specs.Prelude.{ℕ, ◌+◌, ◌-◌, ◌*◌, ◌≡◌, refl, Bool, true, false, not, cond, ◌&&◌, List, [], ◌∷◌, map, eqb, leb, ℤ, pos, neg_ℤ}
use Rattle.std.proofs.Math.Option.{Option, none, some}
use Rattle.lists.specs.Lists.{all, same}
use Rattle.soundness.specs.Asked.{ascending}
use Rattle.texts.specs.Bytes.{bytes, split, both, each, only}

-- '0' to '9'
abbrev pub digit : ℕ → Bool
digit b = leb 48 b && leb b 57

-- the number that digits say, after v
abbrev pub value : ℕ → List ℕ → ℕ
value v [] = v
value v (b ∷ d) = value (10 * v + (b - 48)) d

-- some digits, and no zero in front of another
abbrev pub plain : List ℕ → Bool
plain [] = false
plain (b ∷ []) = true
plain (b ∷ c ∷ d) = not (eqb b 48)

-- the number that the bytes say, if they are a number
abbrev pub decimal : List ℕ → Option ℕ
decimal d = cond (plain d && all digit d) (some (value 0 d)) none

-- with a minus or without: '-' is 45
abbrev pub minus : Option ℕ → Option ℤ
minus none = none
minus (some n) = cond (eqb n 0) none (some (neg_ℤ (pos n)))

-- without a minus
abbrev pub plus : Option ℕ → Option ℤ
plus none = none
plus (some n) = some (pos n)

-- "only `val` may have a minus"
abbrev pub signed : List ℕ → Option ℤ
signed [] = none
signed (b ∷ d) = cond (eqb b 45) (minus (decimal d)) (plus (decimal (b ∷ d)))

-- `none`, or what stands between the commas (',' is 44)
abbrev pub listed : {A : Type 0} → (List ℕ → Option A) → List ℕ → Option (List A)
listed f d = cond (same d (bytes "none")) (some []) (each f (split 44 d))

-- "`defer=2,5` ascending"
abbrev pub numbers : List ℕ → Option (List ℕ)
numbers d = only ascending (listed decimal d)

-- `3:7` (':' is 58)
abbrev pub two : List (List ℕ) → Option (ℕ × ℕ)
two [] = none
two (a ∷ []) = none
two (a ∷ b ∷ []) = both (decimal a) (decimal b)
two (a ∷ b ∷ c ∷ l) = none

-- "pairs `3:7` of variable and expression, variables ascending"
abbrev pub pairs : List ℕ → Option (List (ℕ × ℕ))
pairs d = only (λ l. ascending (map (λ xe. xe.0) l)) (listed (λ x. two (split 58 x)) d)

ascending_list : numbers (bytes "2,5") ≡ some (2 ∷ 5 ∷ [])
ascending_list = refl

list_not_ascending : numbers (bytes "5,5") ≡ none
list_not_ascending = refl

pairs_list : pairs (bytes "3:7,10:2") ≡ some ((3, 7) ∷ (10, 2) ∷ [])
pairs_list = refl

minus_zero : signed (bytes "-0") ≡ none
minus_zero = refl
