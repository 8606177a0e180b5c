-- Going through a program's variables, of which those of one kind are met in their order: after x of them, j were of the kind, and what is left to be asked is
-- asked of the variables from x on and the numbers from place j on.
use Rattle.std.specs.Prelude.{ℕ, ◌+◌, ◌≤◌, ◌<◌, ◌≡◌, Bool, true, false, List, [], ◌∷◌, eqb, length, drop, get_or}
use Rattle.std.proofs.Common.{ap, add-one, arith, drop_of_length-le, drop-cons}
use Rattle.lists.specs.Lists.{at, keep}
use Rattle.lists.specs.Tells.{Tells}
use Rattle.rows.specs.Part.{part, part_get}
use Rattle.values.specs.declared.Ty.{Ty}
use Rattle.programs.specs.Program.{Program, Variable, is_of}
use Rattle.tables.specs.Decode.{no_variable}
use Rattle.checked_values.specs.Numbers.{TypedNumber}
use Rattle.checked_variables.specs.Variables.{Fits}

module _ (kind : ℕ) (vars : List Variable) where
  -- those of the kind from variable x on, counted from 0
  abbrev pub left : ℕ → List Variable
  left x = keep (is_of kind) (drop x vars)

  -- j of them are behind
  abbrev pub Counted : ℕ → ℕ → Type 0
  Counted x j = j + length (left x) ≡ length (keep (is_of kind) vars)

  -- after the last, none is left
  left_none : (x : ℕ) → length vars ≤ x → left x ≡ []
  left_none x h = rw (drop_of_length-le vars {i = x} h)

  module _ (x : ℕ) (h : x < length vars) where
    -- variable x is the next
    next_is : drop x vars ≡ at no_variable vars (x + 1) ∷ drop (x + 1) vars
    next_is = simp add-one (drop-cons vars x no_variable h)

    -- it is of another kind
    left_other : eqb (at no_variable vars (x + 1)).of kind ≡ false → left x ≡ left (x + 1)
    left_other e = rw next_is (rw e)

    -- it is of the kind
    left_own : eqb (at no_variable vars (x + 1)).of kind ≡ true → left x ≡ at no_variable vars (x + 1) ∷ left (x + 1)
    left_own e = rw next_is (rw e)

    module _ (j : ℕ) (c : Counted x j) where
      -- the count, after another's
      pub counted_other : eqb (at no_variable vars (x + 1)).of kind ≡ false → Counted (x + 1) j
      counted_other e = rw (left_other e) at c

      -- the count, after one of the kind
      pub counted_own : eqb (at no_variable vars (x + 1)).of kind ≡ true → Counted (x + 1) (j + 1)
      counted_own e = omega (arith, ap (λ (l : List Variable). length l) (left_own e))

      -- there are more of the kind than are behind
      pub counted_below : eqb (at no_variable vars (x + 1)).of kind ≡ true → j < length (keep (is_of kind) vars)
      counted_below e = omega (arith, ap (λ (l : List Variable). length l) (left_own e))

  -- all are counted
  pub counted_all : (x j : ℕ) → Counted x j → length vars ≤ x → j ≡ length (keep (is_of kind) vars)
  counted_all x j c h = omega (arith, ap (λ (l : List Variable). length l) (left_none x h))

-- variable x + 1 is asked number j of the row at b
pub number_told : (p : Program) (next : ℕ) (t u : Ty) (b j : ℕ) (values : List ℕ) (r : Bool) → t ≡ u → j < 19 → Tells r (TypedNumber p next t (get_or values (b + j) 0))
    → Tells r (TypedNumber p next u (get_or (part b 19 values) j 0))
number_told p next t u b j values r e h k = rw (← e, part_get b 19 values j 0 h) k

-- WHAT IS LEFT TO BE ASKED
pub record Going (p : Program) (next kind : ℕ) (vars : List Variable) (row : List ℕ) (x j : ℕ) : Type 0 where
  pub enough : Fits p next (left kind vars x) (drop j row) → Fits p next (keep (is_of kind) vars) row
  pub needed : Fits p next (keep (is_of kind) vars) row → Fits p next (left kind vars x) (drop j row)

module _ (p : Program) (next kind : ℕ) (vars : List Variable) (row : List ℕ) where
  -- before the first turn all of it
  pub going_none : Going p next kind vars row 0 0
  going_none = record { enough = λ h. h; needed = λ h. h }

  -- after the last, nothing
  pub going_all : (x j : ℕ) → Going p next kind vars row x j → length vars ≤ x → Fits p next (keep (is_of kind) vars) row
  going_all x j g h = g.enough (rw (left_none kind vars x h) tt)

  module _ (x j : ℕ) (g : Going p next kind vars row x j) (h : x < length vars) where
    -- a variable of another kind is passed over
    pub going_other : eqb (at no_variable vars (x + 1)).of kind ≡ false → Going p next kind vars row (x + 1) j
    going_other e = let l = left_other kind vars x h e in
        record { enough = λ f. g.enough (rw l f); needed = λ f. rw l at (g.needed f) }

    module _ (e : eqb (at no_variable vars (x + 1)).of kind ≡ true) (b : j < length row) where
      -- number j is its own
      numbers : drop j row ≡ get_or row j 0 ∷ drop (j + 1) row
      numbers = simp add-one (drop-cons row j 0 b)

      -- what is left is asked of it, and of those behind it
      asked : Fits p next (left kind vars x) (drop j row) → TypedNumber p next (at no_variable vars (x + 1)).type (get_or row j 0) × Fits p next (left kind vars (x + 1)) (drop (j + 1) row)
      asked f = rw (left_own kind vars x h e, numbers) at f

      -- one of the kind is a value of its type
      pub going_own : TypedNumber p next (at no_variable vars (x + 1)).type (get_or row j 0) → Going p next kind vars row (x + 1) (j + 1)
      going_own t = record { enough = λ f. g.enough (rw (left_own kind vars x h e, numbers) (t, f)); needed = λ f. (asked (g.needed f)).1 }

      -- one of the kind that is not
      pub going_not : Fits p next (keep (is_of kind) vars) row → TypedNumber p next (at no_variable vars (x + 1)).type (get_or row j 0)
      going_not f = (asked (g.needed f)).0
