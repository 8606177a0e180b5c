-- `running::run_laid` meets its contract: what lies in the arrays is tested, the choices are counted, and it is run. Assumes nothing.
use mathlib.Core.Path.{ap}
use mathlib.Core.Bool.{not}
use borrow.Author.Rules.{rules}
use Rattle.stepping.specs.Stepping.{passed}
use Rattle.running.specs.Running.{left_unaccepted, left_long, left_run}
use Rattle.running.proofs.run_laid.Goals as goal

pub admitted-requires : goal.admitted-requires
admitted-requires c = c.requires.laid

pub returns-then-not-admitted : goal.returns-then-not-admitted
returns-then-not-admitted c =
    left_unaccepted c.args.program.now _ _ _ c.requires.laid c.admitted.ensures (ap not c.if-not-admitted.true) c.stopped.ensures

pub returns-then-choices-gt-CHOICES : goal.returns-then-choices-gt-CHOICES
returns-then-choices-gt-CHOICES c =
    left_long c.args.program.now _ _ _ c.requires.laid c.admitted.ensures (ap not c.if-not-admitted.false) c.if-choices-gt-CHOICES.true c.stopped-then-choices-gt-CHOICES.ensures

pub run_accepted-requires : goal.run_accepted-requires
run_accepted-requires c =
    record {
      laid = c.requires.laid;
      one = passed _ c.admitted.ensures (ap not c.if-not-admitted.false);
      inside = search rules;
      few = c.if-choices-gt-CHOICES.false;
      room = c.requires.room;
    }

pub returns : goal.returns
returns c =
    left_run c.args.program.now _ _ _ c.requires.laid c.admitted.ensures (ap not c.if-not-admitted.false) c.if-choices-gt-CHOICES.false c.run_accepted.ensures
