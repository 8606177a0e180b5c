-- `laying::lay_row` meets its contract: the row stands at its place. Assumes nothing.
use Rattle.std.proofs.Common.{refl, ap, sym, ◌∙◌, ◌*◌, List, take_all, arith}
use Rattle.rows.specs.Part.{put, part}
use Rattle.rows.specs.Fill.{filling_start, filling_more, filling_end}
use Rattle.laying.proofs.lay_row.Goals as goal

pub loop-e-init : goal.loop-e-init
loop-e-init g c = filling_start c.args.from.now (c.args.i * g.row.W) g.row.W c.args.to.now c.requires c.told-from

pub loop-e-preserved : goal.loop-e-preserved
loop-e-preserved g c = filling_more c.index-from-e.result c.loop-e.invariant c.loop-e-test.true refl

pub returns : goal.returns
unfolding part
returns g c =
    let b = c.args.i * g.row.W in
    record {
      wide = c.told-from;
      row = filling_end c.args.from.now b g.row.W c.args.to.now c.loop-e.to c.loop-e.e c.loop-e.invariant c.loop-e-test.false
          ∙ ap (λ (r : List g.row.T.Denot). put b r c.args.to.now) (sym (take_all g.row.W c.args.from.now (omega (arith, c.told-from))));
    }
