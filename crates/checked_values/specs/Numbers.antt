-- What is asked of a number that is handed in for a value, for a pair, or for what is pending: that what it reads as is accepted, and that writing that gives
-- the number again.
use Rattle.std.specs.Prelude.{ℕ, ◌≡◌}
use Rattle.values.specs.declared.Ty.{Ty}
use Rattle.programs.specs.Program.{Program}
use Rattle.acceptance.specs.Accepted.{ValueOk, Typed, PairOk, PendingOk}
use Rattle.codes.specs.Codes.{value_of, Canonical}
use Rattle.codes.specs.Pairs.{CanonicalPair}
use Rattle.configs.specs.Decode.{pair_of, pending_of}
use Rattle.configs.specs.Encode.{held_code}

-- a value, of any type
pub record ValueNumber (p : Program) (next x : ℕ) : Type 0 where
  pub written : Canonical x
  pub value : ValueOk p next (value_of x)

-- a value where the type t is wanted
pub record TypedNumber (p : Program) (next : ℕ) (t : Ty) (x : ℕ) : Type 0 where
  pub written : Canonical x
  pub value : Typed p next t (value_of x)

-- a pair
pub record PairNumber (p : Program) (next x : ℕ) : Type 0 where
  pub written : CanonicalPair x
  pub pair : PairOk p next (pair_of x)

-- what is pending
pub record HeldNumber (p : Program) (next x : ℕ) : Type 0 where
  pub written : held_code (pending_of x) ≡ x
  pub pending : PendingOk p next (pending_of x)
