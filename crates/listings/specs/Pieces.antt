-- The parts of a list that are still to come, as the code has what is left of the list.
use Rattle.std.specs.Prelude.{ℕ, ◌+◌, ◌-◌, ◌≡◌, List, [], ◌∷◌, Option, Some, None, length, take}
use Rattle.std.proofs.Common.{ap, sym, ◌∙◌, arith}
use Rattle.std.specs.Borrow.{Bor}
use Rattle.std.specs.Slice.{IsGetRangeResult}
use Rattle.texts.specs.Bytes.{split}
use Rattle.numerals.specs.Splits.{span, span_whole, Until, split_next, split_end}
use Rattle.listings.specs.declared.Pieces.{Pieces}

-- the parts between the commas of what is left; none where nothing is
abbrev pub parts_in : Option (Bor (List ℕ)) → List (List ℕ)
parts_in None = []
parts_in (Some d) = split 44 d.now

-- those of a reader of the parts
abbrev pub pieces_left : Pieces → List (List ℕ)
pieces_left p = parts_in p.rest

-- the first part, and what is left behind its comma
pub parts_next : (d : List ℕ) (e : ℕ) (r : Option (Bor (List ℕ))) → Until 44 d 0 (length d) e → IsGetRangeResult d (e + 1) (length d) r
    → split 44 d ≡ take e d ∷ parts_in r
parts_next d e r u g = ap (split 44) (sym (span_whole d)) ∙ go r g ∙ ap (λ (n : ℕ). take n d ∷ parts_in r) (let z : e - 0 ≡ e = omega arith in z)
  where
    go : (r : Option (Bor (List ℕ))) → IsGetRangeResult d (e + 1) (length d) r → split 44 (span 0 (length d) d) ≡ span 0 e d ∷ parts_in r
    go None h = split_end 44 d 0 (length d) e (omega arith) u (omega (arith, h.0))
    go (Some x) h = split_next 44 d 0 (length d) e (omega arith) u (omega (arith, h.0.1)) ∙ ap (λ (l : List ℕ). span 0 e d ∷ split 44 l) (sym h.0.2)
