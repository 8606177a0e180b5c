-- `listings::ascends` meets its contract: what is left ascends behind the last key exactly when the whole does. Assumes nothing.
use Prim.Native.Nat.{ℕ}
use mathlib.Core.Path.{◌≡◌}
use mathlib.Core.List.{List}
use Rattle.std.specs.Prelude.{Option, None, option_map, IfSome, true}
use Rattle.std.specs.Borrow.{Bor}
use Rattle.lists.specs.Lists.{is_some}
use Rattle.texts.specs.Bytes.{split}
use Rattle.texts.specs.Numbers.{decimal}
use Rattle.listings.specs.Pieces.{pieces_left}
use Rattle.listings.specs.Rising.{rising}
use Rattle.listings.proofs.ascends.Given as goal

abbrev pub invariant-loop-part : goal.invariant-loop-part
invariant-loop-part g l = record {
  can : (goal.iterator-loop-part g).can_next l.part-iterator;
  finite : (goal.iterator-loop-part g).is_finite l.part-iterator;
  digits : IfSome l.last (λ k. is_some (decimal k.now) ≡ true);
  same : (keyed : List ℕ → Option (List ℕ)) → ((x : Bor (List ℕ)) (r : Option (Bor (List ℕ))) → goal.F-post g l.key x r → option_map (λ k. k.now) r ≡ keyed x.now)
      → rising keyed (option_map (λ k. k.now) l.last) (pieces_left l.part-iterator) ≡ rising keyed None (split 44 l.d);
}
