-- `listed::put_pairs` meets its contract: the loop that stores the pairs, of specs/Pool.antt. Assumes nothing.
use mathlib.Core.Path.{ap, sym, ◌∙◌}
use native.Mathlib.Omega.{arith}
use Rattle.std.proofs.Common.{rules, subst, ◌<◌, ◌+◌, ◌∷◌, length}
use Rattle.listings.specs.Pieces.{pieces_left}
use Rattle.listed.specs.Pool.{PoolLeft, pooling_none, pool_first, pool_room, pool_colon, pool_more, pool_all}
use Rattle.listed.proofs.put_pairs.Goals as goal
use Rattle.listed.proofs.put_pairs.Goals.{After-until-m}

-- what is left before the next part
before : (c : After-until-m) → PoolLeft c.args.d.now c.args.inits.now c.args.n (c.in-Some.part.now ∷ pieces_left c.next.new.self) c.loop-part.k c.loop-part.inits
before c = subst (λ ps. PoolLeft c.args.d.now c.args.inits.now c.args.n ps c.loop-part.k c.loop-part.inits) c.in-Some.ensures.steps c.loop-part.invariant.pool

-- there is room for the pair
room : (c : After-until-m) → c.args.n + c.loop-part.k < 15000
room c = pool_room c.args.d.now c.args.inits.now c.args.n c.requires c.in-Some.part.now (pieces_left c.next.new.self) c.loop-part.k c.loop-part.inits (before c)

-- its colon is inside it
colon : (c : After-until-m) → c.until-m.result < length c.in-Some.part.now
colon c =
    pool_colon c.args.d.now c.args.inits.now c.args.n c.requires c.in-Some.part.now (pieces_left c.next.new.self) c.loop-part.k c.loop-part.inits (before c)
    c.until-m.result c.until-m.ensures

pub returns-then-is_none : goal.returns-then-is_none
returns-then-is_none c =
    pooling_none c.args.d.now c.args.inits.now c.args.n c.requires (sym c.is_none.ensures ∙ c.if-is_none.true)

pub loop-part-init : goal.loop-part-init
loop-part-init c =
    let a = c.args in
    record {
      can = tt;
      finite = tt;
      pool = subst (λ ps. PoolLeft a.d.now a.inits.now a.n ps 0 a.inits.now) (sym (ap pieces_left c.into_iter-part-iterator.ensures.into_iter_gives ∙ c.of-part-items.ensures))
          (pool_first a.d.now a.inits.now a.n c.requires (sym c.is_none.ensures ∙ c.if-is_none.false));
    }

pub slice_bounds-number_in-count : goal.slice_bounds-number_in-count
slice_bounds-number_in-count c = omega (arith, colon (goal.at.slice_bounds-number_in-count c).After-until-m)

pub slice_bounds-number_in-start : goal.slice_bounds-number_in-start
slice_bounds-number_in-start c = let h = colon (goal.at.slice_bounds-number_in-start c).After-until-m in search rules

pub overflow_add-at : goal.overflow_add-at
overflow_add-at c = omega (arith, room (goal.at.overflow_add-at c).After-until-m)

pub overflow_mul-at : goal.overflow_mul-at
overflow_mul-at c = omega (arith, room (goal.at.overflow_mul-at c).After-until-m)

pub offset_bounds-inits-at : goal.offset_bounds-inits-at
offset_bounds-inits-at c = omega (arith, room (goal.at.offset_bounds-inits-at c).After-until-m)

pub bounds-inits-at : goal.bounds-inits-at
bounds-inits-at c = omega (arith, room (goal.at.bounds-inits-at c).After-until-m)

pub loop-part-preserved : goal.loop-part-preserved
loop-part-preserved c = record {
  can = tt;
  finite = tt;
  pool = pool_more c.args.d.now c.args.inits.now c.args.n c.requires c.in-Some.part.now (pieces_left c.next.new.self) c.loop-part.k c.loop-part.inits
      (subst (λ ps. PoolLeft c.args.d.now c.args.inits.now c.args.n ps c.loop-part.k c.loop-part.inits) c.in-Some.ensures.steps c.loop-part.invariant.pool)
      c.until-m.result c.until-m.ensures c.short.result c.short-in-loop-part.result
      (omega (arith, c.number_in.ensures, c.short.ensures)) (omega (arith, c.number_in-in-loop-part.ensures, c.short-in-loop-part.ensures));
}

pub returns : goal.returns
returns c =
    let a = c.args in
    pool_all a.d.now a.inits.now a.n c.requires c.loop-part.k c.loop-part.inits
    (subst (λ ps. PoolLeft a.d.now a.inits.now a.n ps c.loop-part.k c.loop-part.inits) c.in-None.ensures.steps.0 c.loop-part.invariant.pool)
