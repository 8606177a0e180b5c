-- `beginnings::init_values` meets its contract: after j turns the values of the first j pairs are worked out. Assumes nothing.
use Prim.Native.Nat.{◌+◌, ◌*◌, ◌<◌}
use mathlib.Core.Path.{refl, sym, ◌∙◌}
use native.Mathlib.Omega.{arith}
use lib.ListN.{get_or, replicate}
use Rattle.rows.specs.Part.{put}
use Rattle.tables.specs.Tables.{pairs_length}
use Rattle.beginnings.specs.Inits.{inits_readable, work_bits, variable_small, place_small, inits_wrong, inits_more, inits_none, inits_all}
use Rattle.beginnings.proofs.init_values.Goals as goal
use Rattle.beginnings.proofs.init_values.Goals.{After-from-y}

-- the place that is stored to is one of 16
stored : (c : After-from-y) → c.from-y.result < 16
stored c =
    let b : get_or c.args.places.now (get_or c.args.program.now.inits ((c.args.z + c.loop-j.j) * 2) 0) 0 < 16 = place_small c.requires c.loop-j.j (omega (arith, pairs_length c.args.program.now.inits c.args.z c.args.n, c.rows_from-count.ensures, c.from.ensures, c.from-first.ensures, c.loop-j-test.true)) in
    rw (c.from-y.ensures, c.from-x.ensures, c.from-first.ensures) b

pub loop-j-init : goal.loop-j-init
loop-j-init c = λ q. inits_none q

pub eval-u-requires : goal.eval-u-requires
eval-u-requires c =
    (inits_readable c.requires, work_bits c.requires c.loop-j.j c.loop-j.rest c.loop-j.out (c.loop-j.invariant c.requires))

pub returns-then-not-suits : goal.returns-then-not-suits
returns-then-not-suits c =
    let first = c.from-first.ensures in
    λ q. (
      (inits_wrong q c.loop-j.j (omega (arith, pairs_length c.args.program.now.inits c.args.z c.args.n, c.rows_from-count.ensures, c.from.ensures, first, c.loop-j-test.true)) c.loop-j.rest c.eval-u.result c.loop-j.out
          (c.loop-j.invariant q) (rw (c.from-e.ensures, first) at c.eval-u.ensures)
          (sym c.if-not-suits.true ∙ rw (c.variable_type-ty.ensures, c.value_of.ensures, c.from-x.ensures, first) at c.suits.ensures) (put 0 (replicate 19 0) c.loop-j.out) refl).0,
      refl,
    )

pub bounds-places-x : goal.bounds-places-x
bounds-places-x c =
    let b = variable_small c.requires c.loop-j.j (omega (arith, pairs_length c.args.program.now.inits c.args.z c.args.n, c.rows_from-count.ensures, c.from.ensures, c.from-first.ensures, c.loop-j-test.true)) in
    rw (c.from-x.ensures, c.from-first.ensures) b

pub offset_bounds-out-y : goal.offset_bounds-out-y
offset_bounds-out-y c = omega (arith, stored (goal.at.offset_bounds-out-y c).After-from-y)

pub bounds-out-y : goal.bounds-out-y
bounds-out-y c = omega (arith, stored (goal.at.bounds-out-y c).After-from-y)

pub loop-j-preserved : goal.loop-j-preserved
loop-j-preserved c =
    let first = c.from-first.ensures in
    λ q. rw (c.from-y.ensures, c.from-x.ensures, first) (inits_more q c.loop-j.j (omega (arith, pairs_length c.args.program.now.inits c.args.z c.args.n, c.rows_from-count.ensures, c.from.ensures, first, c.loop-j-test.true)) c.loop-j.rest c.eval-u.result c.loop-j.out
    (c.loop-j.invariant q) (rw (c.from-e.ensures, first) at c.eval-u.ensures)
    (sym c.if-not-suits.false ∙ rw (c.variable_type-ty.ensures, c.value_of.ensures, c.from-x.ensures, first) at c.suits.ensures))

pub returns : goal.returns
returns c =
    λ q. inits_all q c.loop-j.j c.loop-j.rest c.loop-j.out (c.loop-j.invariant q) (omega (arith, pairs_length c.args.program.now.inits c.args.z c.args.n, c.rows_from-count.ensures, c.from.ensures, c.from-first.ensures, c.loop-j-test.false))
