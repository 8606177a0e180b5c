-- `laying::lay_rooms` meets its contract: after 32 turns all rows are the rooms'. Assumes nothing.
use Rattle.std.proofs.Common.{ℕ, ◌≡◌, arith, subst}
use Rattle.laying.specs.Laying.{Laid}
use Rattle.laying.proofs.lay_rooms.Goals as goal

pub returns : goal.returns
returns c =
    let l = c.loop-i in
    let e : l.i ≡ 32 = omega arith in
    let P : ℕ → Type 0 = λ n. Laid c.args.rooms.now n l.flat in
    (c.told-rooms, subst P e l.invariant)
