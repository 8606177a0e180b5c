-- Document 01, "The rules": "Values: undefined, bool, int (-2147483648 to 2147483647), event, id. An operator with an undefined operand, an
-- operand of the wrong type, or a result out of range gives undefined. `and` and `or` work out both sides."
use Rattle.std.specs.Prelude.{ℕ, ◌≡◌, refl, Bool, true, false, not, cond, ◌&&◌, ◌||◌, eqb, ltb, ℤ, pos, negsuc, neg_ℤ, ◌+ℤ◌, ◌-ℤ◌}
use Rattle.values.specs.declared.Ty.{Ty}
use Rattle.values.specs.declared.Ty.TheVariants.{Void as void, Bool as bool, Int as int, Event as event, Id as id}
use Rattle.values.specs.declared.Value.{Value}
use Rattle.values.specs.declared.Value.TheVariants.{Undefined as undefined, Bool as vbool, Int as vint, Event as vevent, Id as vid}
use Rattle.values.specs.declared.Unary.{Unary}
use Rattle.values.specs.declared.Unary.TheVariants.{Not as not', Neg as neg}
use Rattle.values.specs.declared.Binary.{Binary}
use Rattle.values.specs.declared.Binary.TheVariants.{Add as add, Sub as sub, And as and, Or as or}

-- the id of the machine with the live number i
abbrev pub id_of : ℕ → Value
id_of i = vid (record { 0 = i })

-- -2147483648 to 2147483647 (negsuc n is -1 - n)
abbrev pub in_range : ℤ → Bool
in_range (pos n) = ltb n 2147483648
in_range (negsuc n) = ltb n 2147483648

-- an int, or "a result out of range gives undefined"
abbrev pub checked : ℤ → Value
checked z = cond (in_range z) (vint z) undefined

-- k of the int, or of the bool, that a value is; undefined of any other value
abbrev pub with_int : Value → (ℤ → Value) → Value
with_int undefined k = undefined
with_int (vbool b) k = undefined
with_int (vint z) k = k z
with_int (vevent e) k = undefined
with_int (vid i) k = undefined

-- k of the bool that a value is
abbrev pub with_bool : Value → (Bool → Value) → Value
with_bool undefined k = undefined
with_bool (vbool b) k = k b
with_bool (vint z) k = undefined
with_bool (vevent e) k = undefined
with_bool (vid i) k = undefined

-- THE OPERATORS
abbrev pub apply1 : Unary → Value → Value
apply1 not' x = with_bool x (λ a. vbool (not a))
apply1 neg x = with_int x (λ a. checked (neg_ℤ a))

-- `add`, `sub`, `and`, `or`
abbrev pub apply2 : Binary → Value → Value → Value
apply2 add x y = with_int x (λ a. with_int y (λ b. checked (a +ℤ b)))
apply2 sub x y = with_int x (λ a. with_int y (λ b. checked (a -ℤ b)))
apply2 and x y = with_bool x (λ a. with_bool y (λ b. vbool (a && b)))
apply2 or x y = with_bool x (λ a. with_bool y (λ b. vbool (a || b)))

-- "An operator with an undefined operand ... gives undefined", on either side: false and undefined is undefined
pub undefined_left : (o : Binary) (y : Value) → apply2 o undefined y ≡ undefined
undefined_left add y = refl
undefined_left sub y = refl
undefined_left and y = refl
undefined_left or y = refl

-- what holds of undefined, and of what k gives of every int, holds of what it gives of any value;
pub int_given : (P : Value → Type 0) → P undefined → (x : Value) (k : ℤ → Value) → ((z : ℤ) → P (k z)) → P (with_int x k)
int_given P u undefined k h = u
int_given P u (vbool b) k h = u
int_given P u (vint z) k h = h z
int_given P u (vevent e) k h = u
int_given P u (vid i) k h = u

-- the same of a bool
pub bool_given : (P : Value → Type 0) → P undefined → (x : Value) (k : Bool → Value) → ((b : Bool) → P (k b)) → P (with_bool x k)
bool_given P u undefined k h = u
bool_given P u (vbool b) k h = h b
bool_given P u (vint z) k h = u
bool_given P u (vevent e) k h = u
bool_given P u (vid i) k h = u

-- and on the right
pub undefined_right : (o : Binary) (x : Value) → apply2 o x undefined ≡ undefined
undefined_right add x = int_given (λ v. v ≡ undefined) refl x _ (λ a. refl)
undefined_right sub x = int_given (λ v. v ≡ undefined) refl x _ (λ a. refl)
undefined_right and x = bool_given (λ v. v ≡ undefined) refl x _ (λ a. refl)
undefined_right or x = bool_given (λ v. v ≡ undefined) refl x _ (λ a. refl)

-- Answer 15: "a value neither undefined nor of the wanted type ...; void wants undefined". A value suits when it is not so.
abbrev pub suits : Ty → Value → Bool
suits t undefined = true
suits void (vbool b) = false
suits bool (vbool b) = true
suits int (vbool b) = false
suits event (vbool b) = false
suits id (vbool b) = false
suits void (vint z) = false
suits bool (vint z) = false
suits int (vint z) = true
suits event (vint z) = false
suits id (vint z) = false
suits void (vevent e) = false
suits bool (vevent e) = false
suits int (vevent e) = false
suits event (vevent e) = true
suits id (vevent e) = false
suits void (vid i) = false
suits bool (vid i) = false
suits int (vid i) = false
suits event (vid i) = false
suits id (vid i) = true

-- Equality, for ⊙. Undefined equals undefined.
abbrev pub eq_bool : Bool → Bool → Bool
eq_bool true b = b
eq_bool false b = not b

-- equal ints
abbrev pub eq_int : ℤ → ℤ → Bool
eq_int (pos m) (pos n) = eqb m n
eq_int (pos m) (negsuc n) = false
eq_int (negsuc m) (pos n) = false
eq_int (negsuc m) (negsuc n) = eqb m n

-- equal values
abbrev pub eq_value : Value → Value → Bool
eq_value undefined undefined = true
eq_value undefined (vbool b) = false
eq_value undefined (vint z) = false
eq_value undefined (vevent e) = false
eq_value undefined (vid i) = false
eq_value (vbool a) undefined = false
eq_value (vbool a) (vbool b) = eq_bool a b
eq_value (vbool a) (vint z) = false
eq_value (vbool a) (vevent e) = false
eq_value (vbool a) (vid i) = false
eq_value (vint a) undefined = false
eq_value (vint a) (vbool b) = false
eq_value (vint a) (vint z) = eq_int a z
eq_value (vint a) (vevent e) = false
eq_value (vint a) (vid i) = false
eq_value (vevent a) undefined = false
eq_value (vevent a) (vbool b) = false
eq_value (vevent a) (vint z) = false
eq_value (vevent a) (vevent e) = eqb a e
eq_value (vevent a) (vid i) = false
eq_value (vid a) undefined = false
eq_value (vid a) (vbool b) = false
eq_value (vid a) (vint z) = false
eq_value (vid a) (vevent e) = false
eq_value (vid a) (vid i) = eqb a.0 i.0
