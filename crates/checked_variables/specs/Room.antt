-- Room i's values in the flat list of all rooms' values: what is asked of them, place by place.
use Rattle.std.specs.Prelude.{ℕ, ◌+◌, ◌*◌, ◌≤◌, ◌<◌, ◌≡◌, Bool, List, length, take, get_or}
use Rattle.std.proofs.Common.{ap, sym, ◌∙◌, arith}
use Rattle.lists.specs.Lists.{keep}
use Rattle.lists.specs.Tells.{Tells, form}
use Rattle.rows.specs.Pad.{pad}
use Rattle.rows.specs.Part.{part, part_get, part_front, part_length}
use Rattle.values.specs.declared.Ty.TheVariants.{Event as event}
use Rattle.values.specs.Values.{id_of}
use Rattle.programs.specs.Program.{Program, Variable, variables_of, is_of}
use Rattle.codes.specs.Codes.{code_of}
use Rattle.zeros.specs.Zeros.{Zeros}
use Rattle.zeros.specs.Packed.{packed, unpacked}
use Rattle.checked_values.specs.Numbers.{ValueNumber, TypedNumber}
use Rattle.checked_variables.specs.Variables.{ValuesHeld, Fits, OwnHeld, values_held, held_few, held_fits, held_packed, held_own}

-- THE MACHINE'S OWN THREE, of the row at b
module _ (p : Program) (next this b : ℕ) (values : List ℕ) where
  -- the last of them decides
  pub own_told : (r : Bool) → get_or values (b + 16) 0 ≡ code_of (id_of this) → TypedNumber p next event (get_or values (b + 17) 0) → Tells r (ValueNumber p next (get_or values (b + 18) 0))
      → Tells r (OwnHeld p next this (part b 19 values))
  own_told r o m t = form t
      (λ a. record { own = part_get b 19 values 16 0 (omega arith) ∙ o; msg_number = rw (part_get b 19 values 17 0 (omega arith)) m; arg_number = rw (part_get b 19 values 18 0 (omega arith)) a })
      (λ h. rw (part_get b 19 values 18 0 (omega arith)) at h.arg_number)

  module _ (h : OwnHeld p next this (part b 19 values)) where
    -- the first is the machine's own number
    pub own_is : get_or values (b + 16) 0 ≡ code_of (id_of this)
    own_is = sym (part_get b 19 values 16 0 (omega arith)) ∙ h.own

    -- the second an event
    pub msg_is : TypedNumber p next event (get_or values (b + 17) 0)
    msg_is = rw (part_get b 19 values 17 0 (omega arith)) at h.msg_number

-- ROOM i, where the program's variables are vars, and m of them are of the kind
module _ (p : Program) (next kind this m : ℕ) (vars : List Variable) (values : List ℕ) (i : ℕ) (q : p.variables ≡ vars) (e : m ≡ length (keep (is_of kind) vars))
    (long : length values ≡ 608) (room : i < 32) where
  -- 19 places
  row_length : length (part (i * 19) 19 values) ≡ 19
  row_length = part_length (i * 19) 19 values (omega arith)

  -- those of the kind
  own_vars : variables_of p kind ≡ keep (is_of kind) vars
  own_vars = ap (keep (is_of kind)) q

  -- as many as are counted
  count_is : length (variables_of p kind) ≡ m
  count_is = ap (λ (l : List Variable). length l) own_vars ∙ sym e

  -- the 16 places of the variables
  front_is : take 16 (part (i * 19) 19 values) ≡ part (i * 19) 16 values
  front_is = part_front (i * 19) 19 16 values (omega arith)

  -- those that are used
  used_is : m ≤ 16 → take (length (variables_of p kind)) (part (i * 19) 19 values) ≡ take m (part (i * 19) 16 values)
  used_is h = rw count_is (part_front (i * 19) 19 m values (omega arith) ∙ sym (part_front (i * 19) 16 m values h))

  module _ (v : ValuesHeld p next kind this (part (i * 19) 19 values)) where
    -- no more than 16 are counted
    pub told_few : m ≤ 16
    told_few = omega (arith, held_few p next kind this (part (i * 19) 19 values) row_length v, count_is)

    -- the variables' numbers
    pub told_fits : Fits p next (keep (is_of kind) vars) (part (i * 19) 19 values)
    told_fits = rw own_vars at (held_fits p next kind this (part (i * 19) 19 values) row_length v)

    -- the zeros behind them
    pub told_zeros : Zeros (i * 19 + m) (i * 19 + 16) values
    told_zeros = unpacked (i * 19) 16 m values (omega arith) told_few
        (ap (pad 0 16) (sym (used_is told_few)) ∙ held_packed p next kind this (part (i * 19) 19 values) row_length v ∙ front_is)

  -- the machine's own three decide at last
  pub told_own : (r : Bool) → m ≤ 16 → Fits p next (keep (is_of kind) vars) (part (i * 19) 19 values) → Zeros (i * 19 + m) (i * 19 + 16) values
      → Tells r (OwnHeld p next this (part (i * 19) 19 values)) → Tells r (ValuesHeld p next kind this (part (i * 19) 19 values))
  told_own r h f z t = form t
      (λ o. values_held p next kind this (part (i * 19) 19 values) row_length (omega (arith, count_is)) (rw own_vars f)
      (ap (pad 0 16) (used_is h) ∙ packed (i * 19) 16 m values (omega arith) h z ∙ sym front_is) o)
      (held_own p next kind this (part (i * 19) 19 values) row_length)
