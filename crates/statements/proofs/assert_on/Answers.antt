-- `statements::assert_on` meets its contract, a case for each way out.
use Rattle.std.proofs.Common.{◌≡◌, refl, ap, ◌∙◌, Some, Err, rules}
use Rattle.answers.specs.declared.Answer.TheVariants.{NotABool}
use Rattle.statements.specs.Heading.{asked_headed}
use Rattle.statements.specs.Conditions.{asked_readable}
use Rattle.statements.specs.Left.{assert_none, assert_false, assert_true}
use native.Mathlib.Omega.{arith}
use Rattle.statements.proofs.assert_on.Goals as goal

pub condition-requires : goal.condition-requires
condition-requires c = (asked_readable c.requires, c.requires.bits)

pub returns-in_err-c : goal.returns-in_err-c
returns-in_err-c c = λ a.
    let r : c.from_residual.result ≡ Err NotABool = search rules in
    rw r (assert_none a _ c.condition.ensures c.in_err-c.ensures.ok_part)

pub returns-then-not-c : goal.returns-then-not-c
returns-then-not-c c = λ a. assert_false a _ c.condition.ensures (c.in_ok-c.ensures.ok_part ∙ ap Some c.if-not-c.true)

pub offset_bounds-held-k : goal.offset_bounds-held-k
offset_bounds-held-k c = omega (arith, c.requires.row.heading.stands.room)

pub bounds-held-k : goal.bounds-held-k
bounds-held-k c = omega (arith, c.requires.row.heading.stands.room)

pub finish_head-requires : goal.finish_head-requires
finish_head-requires c = asked_headed c.requires.row

pub returns : goal.returns
returns c = λ a. assert_true a _ c.condition.ensures _ refl (c.in_ok-c.ensures.ok_part ∙ ap Some c.if-not-c.false) c.finish_head.ensures
