-- `quietness::loud` meets its contract: the marks worked out upward are those of the statements.
use mir.Val.{bool_byte}
use native.Mathlib.Omega.{arith}
use Rattle.std.proofs.Common.{◌≡◌, ℕ, Bool, true, false, not, eqb, rules}
use Rattle.quietness.specs.Quiet.{quiet_up, quiet_all}
use Rattle.quietness.proofs.loud.Goals as goal

-- the byte of a test that says whether it is not quiet is 0 exactly where it is
quiet_byte : (q : Bool) (y : ℕ) (b : Bool) → y ≡ bool_byte (not q) → q ≡ b → eqb y 0 ≡ b
quiet_byte true y b h e = rw h e
quiet_byte false y b h e = rw h e

pub returns : goal.returns
returns c =
    let stmts = c.args.stmts.now in
    quiet_all stmts _ _ (quiet_up stmts _ (λ k m y said. search (rules, quiet_byte)) _ (omega (arith, c.stmt_count.ensures)) _ c.climb.ensures) (omega (arith, c.stmt_count.ensures))
