-- The test `eq_value` is equality: it holds exactly of equal values.
use Rattle.std.specs.Prelude.{◌≡◌, refl, Bool, true, false, ℤ, pos, negsuc}
use Rattle.std.proofs.Common.{sym, ap, eqb-true}
use Rattle.std.proofs.lemmas.Bool.{false≢true}
use Rattle.lists.specs.Facts.{eqb_same}
use Rattle.values.specs.declared.Value.{Value}
use Rattle.values.specs.declared.Value.TheVariants.{Undefined as undefined, Bool as vbool, Int as vint, Event as vevent, Id as vid}
use Rattle.values.specs.Values.{id_of, eq_bool, eq_int, eq_value}

bool_equal : (a b : Bool) → eq_bool a b ≡ true → a ≡ b
bool_equal true b e = sym e
bool_equal false true e = absurd (false≢true e)
bool_equal false false e = refl

int_equal : (a b : ℤ) → eq_int a b ≡ true → a ≡ b
int_equal (pos m) (pos n) e = ap pos (eqb-true m n e)
int_equal (pos m) (negsuc n) e = absurd (false≢true e)
int_equal (negsuc m) (pos n) e = absurd (false≢true e)
int_equal (negsuc m) (negsuc n) e = ap negsuc (eqb-true m n e)

-- what the test holds of is equal
pub value_equal : (a b : Value) → eq_value a b ≡ true → a ≡ b
value_equal undefined undefined e = refl
value_equal undefined (vbool b) e = absurd (false≢true e)
value_equal undefined (vint z) e = absurd (false≢true e)
value_equal undefined (vevent n) e = absurd (false≢true e)
value_equal undefined (vid i) e = absurd (false≢true e)
value_equal (vbool a) undefined e = absurd (false≢true e)
value_equal (vbool a) (vbool b) e = ap vbool (bool_equal a b e)
value_equal (vbool a) (vint z) e = absurd (false≢true e)
value_equal (vbool a) (vevent n) e = absurd (false≢true e)
value_equal (vbool a) (vid i) e = absurd (false≢true e)
value_equal (vint a) undefined e = absurd (false≢true e)
value_equal (vint a) (vbool b) e = absurd (false≢true e)
value_equal (vint a) (vint z) e = ap vint (int_equal a z e)
value_equal (vint a) (vevent n) e = absurd (false≢true e)
value_equal (vint a) (vid i) e = absurd (false≢true e)
value_equal (vevent a) undefined e = absurd (false≢true e)
value_equal (vevent a) (vbool b) e = absurd (false≢true e)
value_equal (vevent a) (vint z) e = absurd (false≢true e)
value_equal (vevent a) (vevent n) e = ap vevent (eqb-true a n e)
value_equal (vevent a) (vid i) e = absurd (false≢true e)
value_equal (vid a) undefined e = absurd (false≢true e)
value_equal (vid a) (vbool b) e = absurd (false≢true e)
value_equal (vid a) (vint z) e = absurd (false≢true e)
value_equal (vid a) (vevent n) e = absurd (false≢true e)
value_equal (vid a) (vid i) e = ap id_of (eqb-true a.0 i.0 e)

-- and it holds of what is equal
pub value_same : (a : Value) → eq_value a a ≡ true
value_same undefined = refl
value_same (vbool true) = refl
value_same (vbool false) = refl
value_same (vint (pos n)) = eqb_same n
value_same (vint (negsuc n)) = eqb_same n
value_same (vevent n) = eqb_same n
value_same (vid i) = eqb_same i.0
