-- `numerals::decimal` meets its contract: the bytes that are left, after the number so far, say what all of them say. Assumes nothing.
use Prim.Native.Nat.{◌≤◌}
use mathlib.Core.Path.{◌≡◌}
use lib.ListN.{drop}
use Rattle.texts.specs.Numbers.{decimal}
use Rattle.numerals.specs.Numerals.{CAP, capped}
use Rattle.numerals.specs.Digits.{said}
use Rattle.numerals.proofs.decimal.Given as goal

abbrev pub invariant-loop-b : goal.invariant-loop-b
invariant-loop-b l = (said l.v (drop l.b-index l.d) ≡ capped (decimal l.d)) × (l.v ≤ CAP)
