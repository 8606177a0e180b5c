-- `marks::climb` meets its contract: before the turn of number s the lower ones have had theirs.
use Prim.Native.Nat.{◌-◌}
use mathlib.Core.Path.{◌≡◌, ◌∙◌}
use native.Mathlib.Omega.{arith}
use lib.ListN.{length-replicate, length-set}
use Rattle.marks.specs.Climbs.{climbs_more}
use Rattle.marks.proofs.climb.Goals as goal
use Rattle.marks.proofs.climb.Goals.{else-loop-s-test, then-loop-s-test+else-s-n}

pub loop-s-init : goal.loop-s-init
loop-s-init g c = record {
  end = omega arith;
  size = length-replicate 1025 c.args.other;
  climbs = λ m e. let z : m ≡ 0 = omega arith in rw z;
}

pub work-requires : goal.work-requires
work-requires g c =
    let s = c.loop-s.s in
    c.requires.calls s _ c.loop-s.auto.s c.loop-s-test.true (c.loop-s.invariant.climbs (s - 1) (omega arith))

pub loop-s-preserved : goal.loop-s-preserved
loop-s-preserved g c =
    let l = c.loop-s in
    record {
      end = omega arith;
      size = length-set l.items l.s c.work.result ∙ l.invariant.size;
      climbs = λ m e. let z : m ≡ l.s = omega arith in rw z (climbs_more _ _ l.s _ c.work.result (omega arith) l.invariant.climbs c.work.ensures);
    }

pub returns : goal.returns
returns g c =
    let l = c.loop-s in
    elim c.loop-s-test.branch [
      | else-loop-s-test w ↦ rw w.items-is (l.invariant.climbs c.args.n (omega (arith, w.loop-s-test.false, l.invariant.end)))
      | then-loop-s-test+else-s-n w ↦
          let z : c.args.n ≡ l.s = omega (arith, w.loop-s-test.true) in
          rw (w.items-is, z) (climbs_more _ _ l.s _ w.work.result (omega arith) l.invariant.climbs w.work.ensures)
    ]
