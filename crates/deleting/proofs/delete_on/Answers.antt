-- `deleting::delete_on` meets its contract: what it stores is what specs/Deleting.antt says of a room that was cleared. Assumes nothing.
use Rattle.std.proofs.Common.{◌*◌, arith}
use Rattle.copies.specs.Copies.{put_filled}
use Rattle.deleting.specs.Deleting.{cleared_placed}
use Rattle.deleting.proofs.delete_on.Goals as goal

pub returns-clause-room : goal.returns-clause-room
returns-clause-room c =
    let f = c.args.flat.now in
    let k = c.args.k in
    let s = c.requires.1 in
    cleared_placed f k _ _ _ _ _ s c.requires.0
    (put_filled (k * 8) _ 8 0 f.states _ (omega arith) (omega (arith, s.states_256)) (c.fill.ensures.after (λ y e. e)))
    (put_filled (k * 512) _ 512 0 f.maps _ (omega arith) (omega (arith, s.maps_16384)) (c.fill-2.ensures.after (λ y e. e)))
    (put_filled (k * 19) _ 19 0 f.values _ (omega arith) (omega (arith, s.values_608)) (c.fill-3.ensures.after (λ y e. e)))
    (put_filled (k * 33) _ 33 0 f.parts _ (omega arith) (omega (arith, s.parts_1056)) (c.fill-4.ensures.after (λ y e. e)))
    (put_filled (k * 16) _ 16 0 f.pairs _ (omega arith) (omega (arith, s.pairs_512)) (c.fill-5.ensures.after (λ y e. e)))
