-- `stacks::pop_frame` meets its contract: zeros in the top frame's places, and one frame less. Assumes nothing.
use Rattle.std.proofs.Common.{ap, ◌∙◌, replicate, arith}
use Rattle.rows.specs.Part.{put}
use Rattle.copies.specs.Copies.{put_filled}
use Rattle.stacks.specs.Changes.{pop_leaves}
use Rattle.stacks.proofs.pop_frame.Goals as goal

pub top_place-requires : goal.top_place-requires
top_place-requires c = (_, (_, c.requires))

pub top_map-b-requires : goal.top_map-b-requires
top_map-b-requires c = (_, (_, c.requires))

pub returns : goal.returns
returns c =
    let a = c.args in
    rw c.top_place.ensures (pop_leaves c.requires
    (put_filled c.top_map-b.result _ 64 0 a.maps.now _ (omega arith) (omega (arith, c.top_map-b.ensures, c.requires.maps_16384, c.requires.room, c.requires.some, c.requires.fits)) (c.fill.ensures.after (λ y e. e))
    ∙ ap (λ b. put b (replicate 64 0) a.maps.now) c.top_map-b.ensures))
