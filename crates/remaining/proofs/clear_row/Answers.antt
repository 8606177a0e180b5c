-- `remaining::clear_row` meets its contract: zeros in the places of the parts.
use native.Mathlib.Omega.{arith}
use Rattle.std.proofs.Common.{◌*◌, get_or}
use Rattle.copies.specs.Copies.{put_filled}
use Rattle.remaining.specs.Remaining.{clear_left}
use Rattle.remaining.proofs.clear_row.Goals as goal

pub returns : goal.returns
returns c =
    let a = c.args in
    let r = c.requires.row in
    clear_left c.requires (put_filled (a.k * 33) _ (get_or a.counts.now a.k 0) 0 a.parts.now _ (omega arith) (omega (arith, r.long, r.inside, r.fits)) (c.fill.ensures.after (λ y e. e)))
