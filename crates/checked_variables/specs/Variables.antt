-- What is asked of a room's values that are handed in as a row of 19 numbers: 16 places for the variables of the kind, then `this`, `msg` and `arg`. And
-- that it is what the test goes through: the variables' numbers one by one, zeros behind them, and the three places of the machine's own.
use Rattle.std.specs.Prelude.{ℕ, ◌+◌, ◌≤◌, ◌≡◌, refl, List, [], ◌∷◌, ◌++◌, map, length, take, drop, get_or}
use Rattle.std.proofs.Common.{ap, sym, ◌∙◌, arith, length-append, length-drop, length-take, take-append-drop, get_or-append-add, get_or-drop, length-take-le, take_at}
use Rattle.std.proofs.lemmas.List.{length-map, take-append-le}
use Rattle.rows.specs.Pad.{pad, pad_take}
use Rattle.rows.specs.Runs.{pad_fits}
use Rattle.values.specs.declared.Ty.TheVariants.{Event as event}
use Rattle.values.specs.Values.{id_of}
use Rattle.programs.specs.Program.{Program, Variable, variables_of}
use Rattle.acceptance.specs.Accepted.{ValueOk, Typed, TypedAll}
use Rattle.codes.specs.Codes.{code_of, value_of}
use Rattle.checked_values.specs.Numbers.{ValueNumber, TypedNumber}

-- the values of a machine of the kind: accepted, and writing them gives the row again
pub record ValuesHeld (p : Program) (next kind this : ℕ) (row : List ℕ) : Type 0 where
  pub variables : TypedAll p next (variables_of p kind) (map value_of (take (length (variables_of p kind)) row))
  pub msg : Typed p next event (value_of (get_or row 17 0))
  pub arg : ValueOk p next (value_of (get_or row 18 0))
  pub written : pad 0 16 (map code_of (map value_of (take (length (variables_of p kind)) row))) ++ code_of (id_of this) ∷ code_of (value_of (get_or row 17 0)) ∷ code_of (value_of (get_or row 18 0)) ∷ [] ≡ row

-- a number for each variable, in order: a value of its type
abbrev pub Fits : Program → ℕ → List Variable → List ℕ → Type 0
Fits p next [] l = Unit {0}
Fits p next (x ∷ xs) [] = ⊥
Fits p next (x ∷ xs) (n ∷ l) = TypedNumber p next x.type n × Fits p next xs l

-- the three places behind the variables: the machine's own number, an event, and a value of any type
pub record OwnHeld (p : Program) (next this : ℕ) (row : List ℕ) : Type 0 where
  pub own : get_or row 16 0 ≡ code_of (id_of this)
  pub msg_number : TypedNumber p next event (get_or row 17 0)
  pub arg_number : ValueNumber p next (get_or row 18 0)

-- THE VARIABLES
module _ (p : Program) (next : ℕ) where
  -- their values are of their types
  fits_typed : (xs : List Variable) (l : List ℕ) → Fits p next xs l → TypedAll p next xs (map value_of (take (length xs) l))
  fits_typed [] l h = tt
  fits_typed (x ∷ xs) [] h = absurd h
  fits_typed (x ∷ xs) (n ∷ l) h = (h.0.value, fits_typed xs l h.1)

  -- writing them gives their numbers again
  fits_written : (xs : List Variable) (l : List ℕ) → Fits p next xs l → map code_of (map value_of (take (length xs) l)) ≡ take (length xs) l
  fits_written [] l h = refl
  fits_written (x ∷ xs) [] h = absurd h
  fits_written (x ∷ xs) (n ∷ l) h = rw (h.0.written, fits_written xs l h.1)

  -- and back
  typed_fits : (xs : List Variable) (l : List ℕ) → TypedAll p next xs (map value_of (take (length xs) l)) → map code_of (map value_of (take (length xs) l)) ≡ take (length xs) l
      → Fits p next xs l
  typed_fits [] l h e = tt
  typed_fits (x ∷ xs) [] h e = absurd h
  typed_fits (x ∷ xs) (n ∷ l) h e =
      (record { written = ap (λ (t : List ℕ). get_or t 0 0) e; value = h.0 }, typed_fits xs l h.1 (ap (λ (t : List ℕ). drop 1 t) e))

-- a list of three
three : (l : List ℕ) → length l ≡ 3 → l ≡ get_or l 0 0 ∷ get_or l 1 0 ∷ get_or l 2 0 ∷ []
three [] h = absurd (omega arith)
three (a ∷ []) h = absurd (omega arith)
three (a ∷ b ∷ []) h = absurd (omega arith)
three (a ∷ b ∷ c ∷ []) h = refl
three (a ∷ b ∷ c ∷ d ∷ l) h = absurd (omega arith)

-- THE ROW
module _ (p : Program) (next kind this : ℕ) (row : List ℕ) (long : length row ≡ 19) where
  -- as many values as the kind has variables, where they are no more than 16
  count_is : length (variables_of p kind) ≤ 16 → length (take (length (variables_of p kind)) row) ≡ length (variables_of p kind)
  count_is h = length-take-le (length (variables_of p kind)) row (omega arith)

  -- the last three
  back_is : drop 16 row ≡ get_or row 16 0 ∷ get_or row 17 0 ∷ get_or row 18 0 ∷ []
  back_is = three (drop 16 row) (simp length-drop (omega arith)) ∙ rw (get_or-drop 16 row 0 0, get_or-drop 16 row 1 0, get_or-drop 16 row 2 0)

  -- FROM THE NUMBERS TO THE VALUES
  pub values_held : length (variables_of p kind) ≤ 16 → Fits p next (variables_of p kind) row → pad 0 16 (take (length (variables_of p kind)) row) ≡ take 16 row
      → OwnHeld p next this row → ValuesHeld p next kind this row
  values_held h f z o = record {
    variables = fits_typed p next (variables_of p kind) row f;
    msg = o.msg_number.value;
    arg = o.arg_number.value;
    written = rw (fits_written p next (variables_of p kind) row f, z, ← o.own, o.msg_number.written, o.arg_number.written, ← back_is) (take-append-drop 16 row);
  }

  -- AND BACK
  module _ (v : ValuesHeld p next kind this row) where
    -- what the variables are written as
    abbrev codes : List ℕ
    codes = map code_of (map value_of (take (length (variables_of p kind)) row))

    -- what stands behind them
    abbrev rest : List ℕ
    rest = code_of (id_of this) ∷ code_of (value_of (get_or row 17 0)) ∷ code_of (value_of (get_or row 18 0)) ∷ []

    -- they are 16 places
    front_long : length (pad 0 16 codes) ≡ 16
    front_long = omega (arith, length-append (pad 0 16 codes) rest, ap length v.written)

    -- so they are no more than 16
    codes_few : length codes ≤ 16
    codes_few = pad_fits 0 16 codes front_long

    -- as many as are read
    codes_long : length codes ≡ length (take (length (variables_of p kind)) row)
    codes_long = length-map (map value_of (take (length (variables_of p kind)) row)) code_of ∙ length-map (take (length (variables_of p kind)) row) value_of

    -- the kind has no more than 16 variables
    pub held_few : length (variables_of p kind) ≤ 16
    held_few = omega (arith, codes_few, codes_long, length-take (length (variables_of p kind)) row)

    -- a place of the row
    place_is : (k : ℕ) → get_or row k 0 ≡ get_or (pad 0 16 codes ++ rest) k 0
    place_is k = ap (λ (l : List ℕ). get_or l k 0) (sym v.written)

    -- place j behind the variables
    behind : (j : ℕ) → get_or row (16 + j) 0 ≡ get_or rest j 0
    behind j = place_is (16 + j) ∙ ap (λ (n : ℕ). get_or (pad 0 16 codes ++ rest) (n + j) 0) (sym front_long) ∙ get_or-append-add (pad 0 16 codes) rest j 0

    -- the variables' numbers are those that are written
    codes_are : codes ≡ take (length (variables_of p kind)) row
    codes_are =
        sym (pad_take 0 16 codes) ∙ ap (λ (n : ℕ). take n (pad 0 16 codes)) (codes_long ∙ count_is held_few)
        ∙ sym (take-append-le (length (variables_of p kind)) (pad 0 16 codes) rest (omega (arith, front_long, held_few))) ∙ ap (take (length (variables_of p kind))) v.written

    -- the variables' numbers
    pub held_fits : Fits p next (variables_of p kind) row
    held_fits = typed_fits p next (variables_of p kind) row v.variables codes_are

    -- zeros behind them
    pub held_packed : pad 0 16 (take (length (variables_of p kind)) row) ≡ take 16 row
    held_packed = ap (pad 0 16) (sym codes_are) ∙ sym (take_at (pad 0 16 codes) rest 16 front_long) ∙ ap (take 16) v.written

    -- the machine's own three
    pub held_own : OwnHeld p next this row
    held_own = record {
      own = behind 0;
      msg_number = record { written = sym (behind 1); value = v.msg };
      arg_number = record { written = sym (behind 2); value = v.arg };
    }
