-- `listings::ascends` meets its contract: what is left ascends behind the last key exactly when the whole does. Assumes nothing.
use Rattle.std.proofs.Common.{sym, ◌∙◌, ap, ℕ, ◌≡◌, List, false, rules}
use Rattle.std.specs.Prelude.{Option, Some, None, option_map, MatchOption, not, ltb}
use Rattle.std.specs.Borrow.{Bor}
use mathlib.Core.Bool.{Bool, not-not}
use Rattle.listings.specs.Listings.{number_of}
use Rattle.listings.specs.Pieces.{pieces_left}
use Rattle.listings.specs.Rising.{rising, above, rising_none, rising_low, rising_more, rising_all}
use Rattle.listings.proofs.ascends.Goals as goal

-- the bytes that an answer lends
abbrev bytes : Bor (List ℕ) → List ℕ
bytes x = x.now

-- the test of a key by the last
tested : (l : Option (Bor (List ℕ))) (k : List ℕ) (r : Bool) → MatchOption l (r ≡ false) (λ x. r ≡ not (ltb (number_of x.now) (number_of k))) → not r ≡ above (option_map bytes l) k
tested None k r h = rw h
tested (Some x) k r h = rw (h, not-not)

pub loop-part-init : goal.loop-part-init
loop-part-init g c = record {
  can = tt;
  finite = tt;
  digits = tt;
  same = λ k h. ap (rising k None) (ap pieces_left c.into_iter-part-iterator.ensures.into_iter_gives ∙ c.of-part-items.ensures);
}

pub returns-in_default : goal.returns-in_default
returns-in_default g c = λ keyed law.
    let p = c.in-Some.part in
    let l = option_map bytes c.loop-part.last in
    sym (rising_none keyed l p.now (pieces_left c.next.new.self) (sym (law p None c.in_default.ensures)))
    ∙ ap (rising keyed l) (sym c.in-Some.ensures.steps) ∙ c.loop-part.invariant.same keyed law

pub returns-then-is_some_and : goal.returns-then-is_some_and
returns-then-is_some_and g c = λ keyed law.
    let p = c.in-Some.part in
    let l = option_map bytes c.loop-part.last in
    let k = c.in-Some-key.next in
    let low = sym (tested c.loop-part.last k.now c.is_some_and.result (search rules)) ∙ ap not c.if-is_some_and.true in
    sym (rising_low keyed l p.now (pieces_left c.next.new.self) k.now (sym (law p (Some k) c.in-Some-key.ensures)) low)
    ∙ ap (rising keyed l) (sym c.in-Some.ensures.steps) ∙ c.loop-part.invariant.same keyed law

pub loop-part-preserved : goal.loop-part-preserved
loop-part-preserved g c =
    let p = c.in-Some.part in
    let l = option_map bytes c.loop-part.last in
    let k = c.in-Some-key.next in
    let high = sym (tested c.loop-part.last k.now c.is_some_and.result (search rules)) ∙ ap not c.if-is_some_and.false in
    record {
      can = tt;
      finite = tt;
      digits = c.requires.digits p k c.in-Some-key.ensures;
      same = λ keyed law. sym (rising_more keyed l p.now (pieces_left c.next.new.self) k.now (sym (law p (Some k) c.in-Some-key.ensures)) high)
          ∙ ap (rising keyed l) (sym c.in-Some.ensures.steps) ∙ c.loop-part.invariant.same keyed law;
    }

pub returns : goal.returns
returns g c = λ keyed law.
    let l = option_map bytes c.loop-part.last in
    sym (rising_all keyed l) ∙ ap (rising keyed l) (sym c.in-None.ensures.steps.0) ∙ c.loop-part.invariant.same keyed law
