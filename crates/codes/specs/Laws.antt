-- A value's number reads as the value, so two values have one number only if they are one value. Assumes nothing.
use Rattle.std.specs.Prelude.{ℕ, ◌+◌, ◌-◌, ◌*◌, ◌/◌, ◌%◌, ◌<◌, ◌≡◌, refl, true, false, eqb, ℤ, pos, negsuc}
use Rattle.std.proofs.Common.{sym, ap, ◌∙◌, arith, lt-ltb, le-ltb, ltb-true}
use Rattle.values.specs.declared.Value.{Value}
use Rattle.values.specs.declared.Value.TheVariants.{Undefined as undefined, Bool as vbool, Int as vint, Event as vevent, Id as vid}
use Rattle.values.specs.Values.{in_range}
use Rattle.values.specs.Words.{int_of, int_in_range}
use Rattle.lists.specs.Facts.{All-get_d}
use Rattle.lists.specs.Tells.{Tells, form, equal}
use Rattle.codes.specs.Codes.{tagged, int_code, code_of, kinds, value_of, Holdable, Canonical, canonical}

-- a number's kind
tag_of : (k n : ℕ) → n < 4294967296 → tagged k n / 4294967296 ≡ k
tag_of k n h = omega arith

-- what the number holds
rest_of : (k n : ℕ) → n < 4294967296 → tagged k n % 4294967296 ≡ n
rest_of k n h = omega arith

-- an int's number is below 2 ^ 32
pub int_code_small : (z : ℤ) → in_range z ≡ true → int_code z < 4294967296
int_code_small (pos n) h = omega (arith, ltb-true n 2147483648 h)
int_code_small (negsuc n) h = omega arith

-- and reads as the int
pub int_back : (z : ℤ) → in_range z ≡ true → int_of (int_code z) ≡ z
int_back (pos n) h = rw (le-ltb (n + 2147483648) 2147483648 (omega arith)) (ap pos (omega arith))
int_back (negsuc n) h =
    let k = ltb-true n 2147483648 h in
    rw (lt-ltb (2147483647 - n) 2147483648 (omega arith)) (ap negsuc (omega arith))

-- A VALUE'S NUMBER READS AS THE VALUE
pub value_code : (v : Value) → Holdable v → value_of (code_of v) ≡ v
unfolding value_of
value_code undefined h = refl
value_code (vbool true) h = refl
value_code (vbool false) h = refl
value_code (vint z) h = let s = int_code_small z h in rw (tag_of 2 (int_code z) s, rest_of 2 (int_code z) s) (ap vint (int_back z h))
value_code (vevent e) h = rw (tag_of 3 e (omega arith)) (ap vevent (omega arith))
value_code (vid i) h = rw (tag_of 4 i.0 h, rest_of 4 i.0 h)

-- it is below 5 * 2 ^ 32
pub code_small : (v : Value) → Holdable v → code_of v < 5 * 4294967296
code_small undefined h = omega arith
code_small (vbool true) h = omega arith
code_small (vbool false) h = omega arith
code_small (vint z) h = omega (arith, int_code_small z h)
code_small (vevent e) h = omega arith
code_small (vid i) h = omega arith

-- two values with one number are one value
pub code_injective : (v w : Value) → Holdable v → Holdable w → code_of v ≡ code_of w → v ≡ w
code_injective v w h k e = sym (value_code v h) ∙ ap value_of e ∙ value_code w k

-- what a number reads as can be held
pub value_holdable : (x : ℕ) → Holdable (value_of x)
unfolding value_of
value_holdable x =
    All-get_d Holdable undefined (kinds x) (x / 4294967296) tt
    (tt, (tt, (int_in_range (x % 4294967296) (omega arith), (omega arith, (omega arith, tt)))))

-- a value's number is canonical
pub code_canonical : (v : Value) → Holdable v → Canonical (code_of v)
code_canonical v h = ap code_of (value_code v h)

-- canonical numbers are equal exactly when their values are
pub codes_tell : (x y : ℕ) → Canonical x → Canonical y → Tells (eqb x y) (value_of x ≡ value_of y)
codes_tell x y h k = form (equal x y) (ap value_of) (λ e. sym h ∙ ap code_of e ∙ k)

-- the test decides
pub canonical_tells : (x : ℕ) → Tells (canonical x) (Canonical x)
canonical_tells x = equal (code_of (value_of x)) x
