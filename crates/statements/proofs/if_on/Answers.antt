-- `statements::if_on` meets its contract, a case for each way out.
use Rattle.std.proofs.Common.{◌≡◌, refl, ap, ◌∙◌, Some, Err, rules}
use Rattle.answers.specs.declared.Answer.TheVariants.{NotABool}
use mathlib.Core.List.{[], ◌∷◌}
use Rattle.lists.specs.Facts.{first_has, second_has}
use Rattle.statements.specs.Heading.{asked_headed, placing_part}
use Rattle.statements.specs.Conditions.{branching, asked_readable}
use Rattle.statements.specs.Left.{if_none, if_false, if_true}
use native.Mathlib.Omega.{arith}
use Rattle.statements.proofs.if_on.Goals as goal

pub condition-requires : goal.condition-requires
condition-requires c = (asked_readable c.requires.test, c.requires.test.bits)

pub returns-in_err-c : goal.returns-in_err-c
returns-in_err-c c = λ q.
    let r : c.from_residual.result ≡ Err NotABool = search rules in
    rw r (if_none q _ c.condition.ensures c.in_err-c.ensures.ok_part)

pub offset_bounds-held-k : goal.offset_bounds-held-k
offset_bounds-held-k c = omega (arith, c.requires.test.row.heading.stands.room)

pub bounds-held-k : goal.bounds-held-k
bounds-held-k c = omega (arith, c.requires.test.row.heading.stands.room)

pub replace_head-requires : goal.replace_head-requires
replace_head-requires c = (asked_headed c.requires.test.row, placing_part (branching c.requires) c.args.b (second_has c.args.a c.args.b []))

pub returns-then-not-c : goal.returns-then-not-c
returns-then-not-c c = λ q. if_false q _ c.condition.ensures _ refl (c.in_ok-c.ensures.ok_part ∙ ap Some c.if-not-c.true) c.replace_head.ensures

pub replace_head-requires-2 : goal.replace_head-requires-2
replace_head-requires-2 c = (asked_headed c.requires.test.row, placing_part (branching c.requires) c.args.a (first_has c.args.a (c.args.b ∷ [])))

pub returns : goal.returns
returns c = λ q. if_true q _ c.condition.ensures _ refl (c.in_ok-c.ensures.ok_part ∙ ap Some c.if-not-c.false) c.replace_head-2.ensures
