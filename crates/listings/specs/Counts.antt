-- A list of pairs has no more of them than a quarter of its bytes: each takes three bytes at least, and a comma.
use Rattle.std.specs.Prelude.{ℕ, ◌+◌, ◌*◌, ◌≤◌, ◌≡◌, refl, Bool, true, false, List, [], ◌∷◌, map, length}
use Rattle.std.proofs.Common.{ap, sym, ◌∙◌, true≢false, arith}
use Rattle.std.proofs.Math.Option.{Option, none, some}
use Rattle.std.proofs.lemmas.List.{length-map}
use Rattle.lists.specs.Lists.{is_some, total}
use Rattle.soundness.specs.Asked.{ascending}
use Rattle.texts.specs.Bytes.{split, both, each}
use Rattle.texts.specs.Numbers.{decimal, two, pairs}
use Rattle.numerals.specs.Splits.{split_total}
use Rattle.listings.specs.Listings.{is_none, pair_list, pair_in, pair_of, each_parts, listed_there, listed_says, none_lists}

-- a part with its comma
abbrev pub with_comma : List ℕ → ℕ
with_comma x = length x + 1

-- nothing is there where the second is not
second_none : (o : Option ℕ) → is_some (both {B = ℕ} o none) ≡ false
second_none none = refl
second_none (some a) = refl

-- Two numbers with what stands behind each.
two_bytes : (ls : List (List ℕ)) → is_some (two ls) ≡ true → 4 ≤ total with_comma ls
two_bytes [] h = absurd (true≢false (sym h))
two_bytes (a ∷ []) h = absurd (true≢false (sym h))
two_bytes ([] ∷ b ∷ []) h = absurd (true≢false (sym h))
two_bytes ((x ∷ a) ∷ [] ∷ []) h = absurd (true≢false (sym h ∙ second_none (decimal (x ∷ a))))
two_bytes ((x ∷ a) ∷ (y ∷ b) ∷ []) h = omega arith
two_bytes (a ∷ b ∷ c ∷ l) h = absurd (true≢false (sym h))

-- A pair with its comma takes four bytes at least,
pair_bytes : (x : List ℕ) → is_some (pair_in x) ≡ true → 4 ≤ with_comma x
pair_bytes x h = omega (arith, two_bytes (split 58 x) h, split_total 58 x)

-- and so do all of them.
parts_bytes : (ps : List (List ℕ)) → is_some (each pair_in ps) ≡ true → 4 * length ps ≤ total with_comma ps
parts_bytes [] h = omega arith
parts_bytes (p ∷ ps) h =
    let e = each_parts pair_in (0, 0) p ps h in
    omega (arith, pair_bytes p e.0, parts_bytes ps e.1)

-- THE PAIRS OF A LIST, by its bytes
pub pairs_bytes : (d : List ℕ) (l : List (ℕ × ℕ)) → pairs d ≡ some l → 4 * length l ≤ length d + 1
pairs_bytes d l e = go (is_none d) refl
  where
    there : is_some (pairs d) ≡ true
    there = rw e

    go : (t : Bool) → is_none d ≡ t → 4 * length l ≤ length d + 1
    go true n =
        let q = none_lists pair_in (λ m. ascending (map (λ xe. xe.0) m)) d refl n in
        let z : l ≡ [] = cc in
        omega (arith, ap length z)
    go false n =
        let b = parts_bytes (split 44 d) (listed_there pair_in (0, 0) (λ m. ascending (map (λ xe. xe.0) m)) d n there) in
        let q = listed_says pair_in (0, 0) (λ m. ascending (map (λ xe. xe.0) m)) d n there in
        let f : pair_list d ≡ l = rw e in
        omega (arith, split_total 44 d, ap length q, ap length f, length-map (split 44 d) pair_of)
