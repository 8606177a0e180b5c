-- `stepping::step_laid` meets its contract: what lies in the arrays is tested, and the one choice is run. Assumes nothing.
use mathlib.Core.Path.{refl, ap}
use mathlib.Core.Bool.{not}
use Rattle.stepping.specs.Stepping.{step_unaccepted, passed}
use Rattle.stepping.specs.OneChoice.{one_asked, left_beyond, left_took, left_refused}
use Rattle.stepping.proofs.step_laid.Goals as goal

pub returns-then-not-admitted : goal.returns-then-not-admitted
returns-then-not-admitted c =
    record {
      sized = c.requires.sized;
      done = step_unaccepted c.args.program.now _ c.args.machine c.args.bits _ _ refl c.admitted.ensures (ap not c.if-not-admitted.true);
    }

pub returns-then-machine-ge-LIVE_NUMBERS : goal.returns-then-machine-ge-LIVE_NUMBERS
returns-then-machine-ge-LIVE_NUMBERS c =
    left_beyond c.args.machine c.args.bits c.requires (passed _ c.admitted.ensures (ap not c.if-not-admitted.false)) c.if-machine-ge-LIVE_NUMBERS.true

pub run_accepted-end-requires : goal.run_accepted-end-requires
run_accepted-end-requires c =
    one_asked c.requires (passed _ c.admitted.ensures (ap not c.if-not-admitted.false)) refl

pub returns-then-end-eq1 : goal.returns-then-end-eq1
returns-then-end-eq1 c =
    left_took c.args.machine c.args.bits c.requires (passed _ c.admitted.ensures (ap not c.if-not-admitted.false)) c.ranges.bits.fits (rw c.from.ensures at c.run_accepted-end.ensures) c.if-end-eq1.true c.rule_of.ensures

pub returns-else-end-eq1 : goal.returns-else-end-eq1
returns-else-end-eq1 c =
    left_refused c.args.machine c.args.bits c.requires (passed _ c.admitted.ensures (ap not c.if-not-admitted.false)) c.ranges.bits.fits (rw c.from.ensures at c.run_accepted-end.ensures) c.if-end-eq1.false
