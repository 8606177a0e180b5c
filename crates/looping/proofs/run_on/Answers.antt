-- `looping::run_on` meets its contract: after k turns the arrays hold the configuration after k steps of the run, and the rules of these steps are written.
-- Assumes nothing.
use mathlib.Core.Path.{◌≡◌, ◌∙◌}
use lib.ListN.{length}
use native.Mathlib.Omega.{arith}
use Rattle.looping.specs.Looping.{going_none, turn_asked, going_took, going_refused, going_done}
use Rattle.looping.proofs.run_on.Goals as goal

pub loop-k-init : goal.loop-k-init
loop-k-init c = (omega arith, λ a. going_none a)

pub step_on-requires : goal.step_on-requires
step_on-requires c =
    turn_asked c.requires (c.loop-k.invariant.1 c.requires) c.loop-k-test.true (c.from-bits.ensures ∙ c.bits_of.ensures)

pub bounds-rules-k : goal.bounds-rules-k
bounds-rules-k c =
    omega (arith, c.loop-k-test.true, c.requires.few)

pub loop-k-preserved : goal.loop-k-preserved
loop-k-preserved c =
    let within = c.loop-k-test.true in (
      omega (arith, within),
      λ a.
          let going = c.loop-k.invariant.1 a in
          let left = rw c.in-Ok.is at (c.step_on.ensures (turn_asked a going within (c.from-bits.ensures ∙ c.bits_of.ensures))) in
          going_took a going within c.machine_of-machine.ensures (c.from-bits.ensures ∙ c.bits_of.ensures) _ _ left c.rule_number.ensures,
    )

pub ending-requires : goal.ending-requires
ending-requires c =
    omega (arith, c.loop-k-test.true, c.requires.few)

pub returns-in-Err : goal.returns-in-Err
returns-in-Err c =
    let within = c.loop-k-test.true in
    λ a.
    let going = c.loop-k.invariant.1 a in
    let left = rw c.in-Err.is at (c.step_on.ensures (turn_asked a going within (c.from-bits.ensures ∙ c.bits_of.ensures))) in
    going_refused a going within c.machine_of-machine.ensures (c.from-bits.ensures ∙ c.bits_of.ensures) _ _ left c.ending.ensures

pub ending-requires-2 : goal.ending-requires-2
ending-requires-2 c = omega (arith, c.requires.few)

pub returns : goal.returns
returns c = λ a.
    let last : length c.args.choices.now ≡ c.loop-k.k = omega (arith, c.loop-k-test.false, c.loop-k.invariant.0) in
    going_done a (c.loop-k.invariant.1 a) c.loop-k-test.false (rw last at c.ending-2.ensures)
