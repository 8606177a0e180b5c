-- `grouping::regroup_laid` meets its contract: what lies in the arrays is tested, the choices and the places of the buffer are counted, the choices before the last are run, and all are placed. Assumes nothing.
use mathlib.Core.Path.{ap}
use mathlib.Core.Bool.{not}
use native.Mathlib.Omega.{arith}
use borrow.Author.Rules.{rules}
use Rattle.std.proofs.Common.{length, ◌-◌, length-take-le}
use Rattle.looping.specs.Looping.{left_first}
use Rattle.stepping.specs.Stepping.{passed}
use Rattle.grouping.specs.Grouping.{group_unaccepted, group_long, group_short, group_none, group_22, group_0}
use Rattle.grouping.proofs.regroup_laid.Goals as goal

pub returns-then-not-admitted : goal.returns-then-not-admitted
returns-then-not-admitted c =
    group_unaccepted c.args.program.now _ _ _ c.requires c.admitted.ensures (ap not c.if-not-admitted.true)

pub returns-then-n-gt-CHOICES : goal.returns-then-n-gt-CHOICES
returns-then-n-gt-CHOICES c =
    group_long c.args.program.now _ _ _ c.requires c.admitted.ensures (ap not c.if-not-admitted.false) c.if-n-gt-CHOICES.true

pub returns-then-out-n : goal.returns-then-out-n
returns-then-out-n c =
    group_short c.args.program.now _ _ _ c.requires c.admitted.ensures (ap not c.if-not-admitted.false) c.if-n-gt-CHOICES.false c.if-out-n.true

pub returns-then-n-eq0 : goal.returns-then-n-eq0
returns-then-n-eq0 c =
    group_none c.args.program.now _ _ _ c.requires c.admitted.ensures (ap not c.if-not-admitted.false) c.if-n-eq0.true

pub run_accepted-end-requires : goal.run_accepted-end-requires
run_accepted-end-requires c =
    record {
      laid = c.requires;
      one = passed _ c.admitted.ensures (ap not c.if-not-admitted.false);
      inside = omega arith;
      few = omega (arith, c.if-n-gt-CHOICES.false, length-take-le (length c.args.choices.now - 1) c.args.choices.now (omega arith));
      room = search rules;
    }

pub returns-then-end-n : goal.returns-then-end-n
returns-then-end-n c =
    group_22 c.args.program.now _ _ _ c.requires c.admitted.ensures (ap not c.if-not-admitted.false) c.if-n-eq0.false c.if-n-gt-CHOICES.false c.if-out-n.false (left_first c.run_accepted-end.ensures) c.if-end-n.true

pub place-requires : goal.place-requires
place-requires c =
    record { some = omega (arith, c.if-n-eq0.false); few = c.if-n-gt-CHOICES.false; room = c.if-out-n.false }

pub returns : goal.returns
returns c =
    group_0 c.args.program.now _ _ _ c.requires c.admitted.ensures (ap not c.if-not-admitted.false) c.if-n-eq0.false c.if-n-gt-CHOICES.false c.if-out-n.false (left_first c.run_accepted-end.ensures) c.if-end-n.false c.place.ensures
