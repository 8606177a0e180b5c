-- WHAT A FUNCTION THAT TAKES A LINE ANSWERS: whether the line is in range. Where it is, it is taken; where not, everything lent is as it was.
use Rattle.std.specs.Prelude.{◌≡◌, Bool, true, false}
use Rattle.std.proofs.Common.{sym, true≢false}

-- r, where the test tells whether the line is in range
pub record Took (r test : Bool) (taken kept : Type 0) : Type 0 where
  pub told : r ≡ test
  pub done : r ≡ true → taken
  pub left : r ≡ false → kept

module _ {test : Bool} {taken kept : Type 0} where
  -- in range, and taken
  pub took : test ≡ true → taken → Took true test taken kept
  took t d = record { told = sym t; done = λ e. d; left = λ e. absurd (true≢false e) }

  -- out of range, and left
  pub refused : test ≡ false → kept → Took false test taken kept
  refused t k = record { told = sym t; done = λ e. absurd (true≢false (sym e)); left = λ e. k }
