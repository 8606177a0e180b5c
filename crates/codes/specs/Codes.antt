-- Values as numbers, for arrays of numbers: a value's kind times 2 ^ 32, plus what it holds. Every number reads as a value.
use Rattle.std.specs.Prelude.{ℕ, ◌+◌, ◌-◌, ◌*◌, ◌/◌, ◌%◌, ◌<◌, ◌≡◌, Bool, true, cond, List, [], ◌∷◌, eqb, ℤ, pos, negsuc, get_or}
use Rattle.values.specs.declared.Value.{Value}
use Rattle.values.specs.declared.Value.TheVariants.{Undefined as undefined, Bool as vbool, Int as vint, Event as vevent, Id as vid}
use Rattle.values.specs.Values.{id_of, in_range}
use Rattle.values.specs.Words.{int_of}

-- the number of the kind k that holds n
abbrev pub tagged : ℕ → ℕ → ℕ
tagged k n = k * 4294967296 + n

-- an int from 0 upward: z + 2147483648 (negsuc n is -1 - n)
abbrev pub int_code : ℤ → ℕ
int_code (pos n) = n + 2147483648
int_code (negsuc n) = 2147483647 - n

-- THE NUMBER OF A VALUE
abbrev pub code_of : Value → ℕ
code_of undefined = 0
code_of (vbool b) = tagged 1 (cond b 1 0)
code_of (vint z) = tagged 2 (int_code z)
code_of (vevent e) = tagged 3 e
code_of (vid i) = tagged 4 i.0

-- what a number may read as, each kind at its number
abbrev pub kinds : ℕ → List Value
kinds x = undefined ∷ vbool (eqb (x % 4294967296) 1) ∷ vint (int_of (x % 4294967296)) ∷ vevent (x % 256) ∷ id_of (x % 4294967296) ∷ []

-- THE VALUE OF A NUMBER: by its kind, undefined where it has none
unfoldable pub value_of : ℕ → Value
value_of x = get_or (kinds x) (x / 4294967296) undefined

-- what a `Value` of the machine can hold: an int of the rules, an event of 8 bits, a live number of 32
abbrev pub Holdable : Value → Type 0
Holdable undefined = Unit
Holdable (vbool b) = Unit
Holdable (vint z) = in_range z ≡ true
Holdable (vevent e) = e < 256
Holdable (vid i) = i.0 < 4294967296

-- a number that is some value's: reading it and writing the value back gives it again
abbrev pub Canonical : ℕ → Type 0
Canonical x = code_of (value_of x) ≡ x

-- its test
abbrev pub canonical : ℕ → Bool
canonical x = eqb (code_of (value_of x)) x
