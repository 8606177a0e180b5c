-- Document 01, "The line format": what a line says.
-- "Fields are `key=value`, one space between, keys in the order shown."
use Rattle.std.specs.Prelude.{ℕ, ◌≡◌, refl, Bool, true, false, not, cond, ◌&&◌, ◌||◌, List, [], ◌∷◌, ◌++◌, map, ℤ, pos, get_or}
use Prim.Native.String.{String}
use Rattle.std.proofs.Math.Option.{Option, none, some}
use Rattle.lists.specs.Lists.{on_opt, any, all, same}
use Rattle.values.specs.declared.Ty.{Ty}
use Rattle.values.specs.declared.Ty.TheVariants.{Void as void, Bool as bool, Int as int, Event as event, Id as id}
use Rattle.values.specs.declared.Unary.TheVariants.{Not as not', Neg as neg}
use Rattle.values.specs.declared.Binary.TheVariants.{Add as add, Sub as sub, And as and, Or as or}
use Rattle.values.specs.Values.{in_range, eq_int}
use Rattle.programs.specs.Program.{Variable, Stmt, Action, State, Move, skip, assign, new, delete, send, raise, leave, return, assert, seq, if, while}
use Rattle.programs.specs.declared.Expr.{Expr}
use Rattle.programs.specs.declared.Leaf.TheVariants.{Int as int_val, Bool as bool_val, Var as var, This as this, Msg as msg, Arg as arg, Bot as bot, Star as star}
use Rattle.programs.specs.declared.Expr.TheVariants.{Leaf as leaf, Unary as unary, Binary as binary}
use Rattle.machines.specs.Config.{Choice}
use Rattle.texts.specs.Bytes.{bytes, split}
use Rattle.texts.specs.Numbers.{decimal, signed, numbers, pairs}

-- a line with its own number, where its kind has one; of an expression also whether its `val` is in range
pub data Said : Type 0 where
  event_line : ℕ → Ty → Said
  machine_line : ℕ → Said
  var_line : ℕ → Variable → Said
  expr_line : ℕ → Bool → Expr → Said
  stmt_line : ℕ → Stmt → Said
  action_line : ℕ → Action → Said
  state_line : ℕ → State → Said
  step_line : Move → Said
  call_line : Move → Said
  act_line : Move → Said
  start_line : ℕ → Said
  choice_line : Choice → Said

-- VALUES. In a form, # stands for a number, ~ for one that may have a minus, @ for a list of numbers, % for a list of pairs; any other value for itself.
pub data Val : Type 0 where
  a_number : ℕ → Val
  an_integer : ℤ → Val
  a_list : List ℕ → Val
  some_pairs : List (ℕ × ℕ) → Val

-- a value in a form, alone
abbrev pub one : {A : Type 0} → (A → Val) → Option A → Option (List Val)
one f none = none
one f (some a) = some (f a ∷ [])

-- the bytes d where the form has the value h: '#' is 35, '~' 126, '@' 64, '%' 37
abbrev pub value_of : List ℕ → List ℕ → Option (List Val)
value_of h d =
    let number = one a_number (decimal d) in
    let integer = one an_integer (signed d) in
    let list = one a_list (numbers d) in
    let several = one some_pairs (pairs d) in
    let word = cond (same h d) (some []) none in
    let four = cond (same h (37 ∷ [])) several word in
    let three = cond (same h (64 ∷ [])) list four in
    let two = cond (same h (126 ∷ [])) integer three in
    cond (same h (35 ∷ [])) number two

-- FIELDS: `key=value` has two parts at its '=' (61)
abbrev pub field_of : List (List ℕ) → List (List ℕ) → Option (List Val)
field_of [] f = none
field_of (k ∷ []) f = none
field_of (k ∷ h ∷ []) [] = none
field_of (k ∷ h ∷ []) (l ∷ []) = none
field_of (k ∷ h ∷ []) (l ∷ d ∷ []) = let v = value_of h d in cond (same k l) v none
field_of (k ∷ h ∷ []) (l ∷ d ∷ e ∷ f) = none
field_of (k ∷ h ∷ g ∷ t) f = none

-- the fields of a line: between single spaces (32)
abbrev pub fields : List ℕ → List (List (List ℕ))
fields l = map (split 61) (split 32 l)

-- the values of a line in a form: the same keys in the same order
abbrev pub values_of : List (List (List ℕ)) → List (List (List ℕ)) → Option (List Val)
values_of [] [] = some []
values_of [] (g ∷ l) = none
values_of (f ∷ t) [] = none
values_of (f ∷ t) (g ∷ l) = let rest = values_of t l in on_opt (field_of f g) none (λ v. on_opt rest none (λ w. some (v ++ w)))

-- value i of a line, counted from 0
abbrev number_in : Val → ℕ
number_in (a_number n) = n
number_in (an_integer z) = 0
number_in (a_list l) = 0
number_in (some_pairs l) = 0

-- its number
abbrev number : List Val → ℕ → ℕ
number v i = number_in (get_or v i (a_number 0))

-- the integer that a value is
abbrev integer_in : Val → ℤ
integer_in (a_number n) = pos 0
integer_in (an_integer z) = z
integer_in (a_list l) = pos 0
integer_in (some_pairs l) = pos 0

-- value i as an integer: `val`
abbrev integer : List Val → ℕ → ℤ
integer v i = integer_in (get_or v i (a_number 0))

-- the list that a value is
abbrev pub list_at_in : Val → List ℕ
list_at_in (a_number n) = []
list_at_in (an_integer z) = []
list_at_in (a_list l) = l
list_at_in (some_pairs l) = []

-- value i as a list: `defer`
abbrev list_at : List Val → ℕ → List ℕ
list_at v i = list_at_in (get_or v i (a_number 0))

-- the pairs that a value is
abbrev pub pairs_at_in : Val → List (ℕ × ℕ)
pairs_at_in (a_number n) = []
pairs_at_in (an_integer z) = []
pairs_at_in (a_list l) = []
pairs_at_in (some_pairs l) = l

-- value i as pairs: `init`
abbrev pairs_at : List Val → ℕ → List (ℕ × ℕ)
pairs_at v i = pairs_at_in (get_or v i (a_number 0))

-- "bool 0 or 1"
abbrev pub is_one : ℤ → Bool
is_one z = eq_int z (pos 1)

-- 0 or 1
abbrev pub zero_or_one : ℤ → Bool
zero_or_one z = eq_int z (pos 0) || is_one z

-- THE FORMS, in the order in which the kinds come, and what a line in each says. "A missing `bits` counts as 0." A void variable is in no form.
abbrev pub Form : Type 0
Form = String × (List Val → Said)

-- THE 44 FORMS
abbrev pub forms : List Form
forms =
    ("event=# type=void", λ v. event_line (number v 0) void) ∷
    ("event=# type=bool", λ v. event_line (number v 0) bool) ∷
    ("event=# type=int", λ v. event_line (number v 0) int) ∷
    ("event=# type=event", λ v. event_line (number v 0) event) ∷
    ("event=# type=id", λ v. event_line (number v 0) id) ∷
    ("machine=#", λ v. machine_line (number v 0)) ∷
    ("var=# of=# type=bool", λ v. var_line (number v 0) (record { of = number v 1; type = bool })) ∷
    ("var=# of=# type=int", λ v. var_line (number v 0) (record { of = number v 1; type = int })) ∷
    ("var=# of=# type=event", λ v. var_line (number v 0) (record { of = number v 1; type = event })) ∷
    ("var=# of=# type=id", λ v. var_line (number v 0) (record { of = number v 1; type = id })) ∷
    ("expr=# kind=add a=# b=#", λ v. expr_line (number v 0) true (binary add (number v 1) (number v 2))) ∷
    ("expr=# kind=sub a=# b=#", λ v. expr_line (number v 0) true (binary sub (number v 1) (number v 2))) ∷
    ("expr=# kind=and a=# b=#", λ v. expr_line (number v 0) true (binary and (number v 1) (number v 2))) ∷
    ("expr=# kind=or a=# b=#", λ v. expr_line (number v 0) true (binary or (number v 1) (number v 2))) ∷
    ("expr=# kind=not a=#", λ v. expr_line (number v 0) true (unary not' (number v 1))) ∷
    ("expr=# kind=neg a=#", λ v. expr_line (number v 0) true (unary neg (number v 1))) ∷
    ("expr=# kind=int val=~", λ v. expr_line (number v 0) (in_range (integer v 1)) (leaf (int_val (integer v 1)))) ∷
    ("expr=# kind=bool val=~", λ v. expr_line (number v 0) (zero_or_one (integer v 1)) (leaf (bool_val (is_one (integer v 1))))) ∷
    ("expr=# kind=var var=#", λ v. expr_line (number v 0) true (leaf (var (number v 1)))) ∷
    ("expr=# kind=this", λ v. expr_line (number v 0) true (leaf this)) ∷
    ("expr=# kind=msg", λ v. expr_line (number v 0) true (leaf msg)) ∷
    ("expr=# kind=arg", λ v. expr_line (number v 0) true (leaf arg)) ∷
    ("expr=# kind=bot", λ v. expr_line (number v 0) true (leaf bot)) ∷
    ("expr=# kind=star", λ v. expr_line (number v 0) true (leaf star)) ∷
    ("stmt=# kind=assign var=# expr=#", λ v. stmt_line (number v 0) (assign (number v 1) (number v 2))) ∷
    ("stmt=# kind=skip", λ v. stmt_line (number v 0) skip) ∷
    ("stmt=# kind=delete", λ v. stmt_line (number v 0) delete) ∷
    ("stmt=# kind=leave", λ v. stmt_line (number v 0) leave) ∷
    ("stmt=# kind=return", λ v. stmt_line (number v 0) return) ∷
    ("stmt=# kind=new var=# machine=# init=%", λ v. stmt_line (number v 0) (new (number v 1) (number v 2) (pairs_at v 3))) ∷
    ("stmt=# kind=send to=# event=# arg=#", λ v. stmt_line (number v 0) (send (number v 1) (number v 2) (number v 3))) ∷
    ("stmt=# kind=raise event=# arg=#", λ v. stmt_line (number v 0) (raise (number v 1) (number v 2))) ∷
    ("stmt=# kind=assert expr=#", λ v. stmt_line (number v 0) (assert (number v 1))) ∷
    ("stmt=# kind=seq first=# second=#", λ v. stmt_line (number v 0) (seq (number v 1) (number v 2))) ∷
    ("stmt=# kind=if cond=# then=# else=#", λ v. stmt_line (number v 0) (if (number v 1) (number v 2) (number v 3))) ∷
    ("stmt=# kind=while cond=# body=#", λ v. stmt_line (number v 0) (while (number v 1) (number v 2))) ∷
    ("action=# of=# do=#", λ v. action_line (number v 0) (record { of = number v 1; body = number v 2 })) ∷
    ("state=# of=# defer=@ entry=# exit=#", λ v. state_line (number v 0) (record { of = number v 1; defer = list_at v 2; entry = number v 3; exit = number v 4 })) ∷
    ("step=# on=# to=#", λ v. step_line (record { from = number v 0; on = number v 1; to = number v 2 })) ∷
    ("call=# on=# to=#", λ v. call_line (record { from = number v 0; on = number v 1; to = number v 2 })) ∷
    ("act=# on=# do=#", λ v. act_line (record { from = number v 0; on = number v 1; to = number v 2 })) ∷
    ("start=#", λ v. start_line (number v 0)) ∷
    ("choice=# bits=#", λ v. choice_line (record { machine = number v 0; bits = number v 1 })) ∷
    ("choice=#", λ v. choice_line (record { machine = number v 0; bits = 0 })) ∷
    []

-- the form that the line is in: no line is in two (`apart` below)
abbrev pub said_as : List Form → List (List (List ℕ)) → Option Said
said_as [] l = none
said_as (f ∷ fs) l =
    let later = said_as fs l in
    on_opt (values_of (fields (bytes f.0)) l) later (λ v. some (f.1 v))

-- WHAT A LINE SAYS; none where it is in no form
unfoldable pub said : List ℕ → Option Said
said l = said_as forms (fields l)

an_expression : said (bytes "expr=3 kind=add a=1 b=2") ≡ some (expr_line 3 true (binary add 1 2))
unfolding said
an_expression = refl

a_state : said (bytes "state=1 of=1 defer=2,5 entry=1 exit=0") ≡ some (state_line 1 (record { of = 1; defer = 2 ∷ 5 ∷ []; entry = 1; exit = 0 }))
unfolding said
a_state = refl

two_spaces : said (bytes "choice=1  bits=0") ≡ none
unfolding said
two_spaces = refl

-- NO LINE IS IN TWO FORMS: of any two, the numbers of fields differ, or the keys in some place, or the words
abbrev is_word : List ℕ → Bool
is_word h = not (any (same h) ((35 ∷ []) ∷ (126 ∷ []) ∷ (64 ∷ []) ∷ (37 ∷ []) ∷ []))

-- two fields that no line has both of
abbrev fields_apart : List (List ℕ) → List (List ℕ) → Bool
fields_apart (k ∷ h ∷ []) (l ∷ g ∷ []) = not (same k l) || (is_word h && is_word g && not (same h g))
fields_apart [] f = false
fields_apart (k ∷ []) f = false
fields_apart (k ∷ h ∷ []) [] = false
fields_apart (k ∷ h ∷ []) (l ∷ []) = false
fields_apart (k ∷ h ∷ []) (l ∷ g ∷ m ∷ f) = false
fields_apart (k ∷ h ∷ g ∷ t) f = false

-- two forms that no line is in both of
abbrev forms_apart : List (List (List ℕ)) → List (List (List ℕ)) → Bool
forms_apart [] [] = false
forms_apart [] (g ∷ l) = true
forms_apart (f ∷ t) [] = true
forms_apart (f ∷ t) (g ∷ l) = fields_apart f g || forms_apart t l

-- any two of them
abbrev all_apart : List (List (List (List ℕ))) → Bool
all_apart [] = true
all_apart (f ∷ fs) = all (forms_apart f) fs && all_apart fs

apart : all_apart (map (λ f. fields (bytes f.0)) forms) ≡ true
apart = refl
