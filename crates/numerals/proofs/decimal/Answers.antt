-- `numerals::decimal` meets its contract: the bytes that are left, after the number so far, say what all of them say. Assumes nothing.
use Prim.Native.Nat.{◌+◌}
use mathlib.Core.Path.{sym, ap, ◌∙◌}
use native.Mathlib.Omega.{arith}
use Rattle.std.proofs.Common.{rules}
use lib.ListN.{drop}
use Rattle.numerals.specs.Digits.{said, said_first, said_more, said_other, said_all}
use Rattle.numerals.proofs.decimal.Goals as goal

pub loop-b-init : goal.loop-b-init
loop-b-init c = (sym (said_first c.args.d.now (sym c.plain.ensures ∙ c.if-not-plain.false)), omega arith)

pub returns-then-not-is_ascii_digit : goal.returns-then-not-is_ascii_digit
returns-then-not-is_ascii_digit c =
    let l = c.loop-b in
    sym (said_other c.args.d.now l.b-index l.v c.loop-b-test.true (sym c.is_ascii_digit.ensures.value ∙ c.if-not-is_ascii_digit.true)) ∙ l.invariant.0

pub loop-b-preserved : goal.loop-b-preserved
loop-b-preserved c =
    let l = c.loop-b in
    let d = c.args.d.now in (
      ap (λ n. said n (drop (l.b-index + 1) d)) c.more-v.ensures
          ∙ sym (said_more d l.b-index l.v c.loop-b-test.true (search rules) (search rules)) ∙ l.invariant.0,
      omega arith,
    )

pub returns : goal.returns
returns c =
    let l = c.loop-b in
    sym (said_all _ l.b-index l.v c.loop-b-test.false l.invariant.1) ∙ l.invariant.0
