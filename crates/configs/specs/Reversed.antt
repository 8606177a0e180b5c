-- Lists that are written in reverse, and read back from the last place on.
use Rattle.std.specs.Prelude.{ℕ, zero, suc, ◌<◌, ◌≡◌, refl, length, get_or}
use Rattle.std.proofs.Common.{ap, sym, ◌∙◌, not-suc-le-zero, arith}
use Rattle.std.proofs.Math.Logic.{dite}
use Rattle.std.proofs.Math.Decide.{ℕ_discrete}
use mathlib.Core.List.{List, [], ◌∷◌, reverse, reverse-cons}
use Rattle.std.proofs.lemmas.List.{length-reverse}
use Rattle.std.proofs.Math.ListN.{get_or-append}
use Rattle.std.proofs.Math.Seq.{get_or-append_seam}
use Rattle.configs.specs.Decode.{down_to}

-- WHAT IS READ FROM THE LAST PLACE ON
module _ {A : Type 0} (f : ℕ → A) where
  -- has as many elements as are read,
  pub down_to_length : (n : ℕ) → length (down_to f n) ≡ n
  down_to_length zero = refl
  down_to_length (suc n) = ap suc (down_to_length n)

  -- and in reverse has each at its place
  pub down_to_at : (d : A) (n k : ℕ) → k < n → get_or (reverse (down_to f n)) k d ≡ f k
  down_to_at d zero k h = absurd (not-suc-le-zero h)
  down_to_at d (suc n) k h = rw (reverse-cons (f n) (down_to f n)) (dite (ℕ_discrete k n)
      (λ e. rw (e ∙ sym count) (get_or-append_seam (reverse (down_to f n)) (f n) [] d ∙ ap f (sym count)))
      (λ e. get_or-append (reverse (down_to f n)) (f n ∷ []) d k (omega (arith, count)) ∙ down_to_at d n k (omega arith)))
    where
      count : length (reverse (down_to f n)) ≡ n
      count = length-reverse (down_to f n) ∙ down_to_length n

module _ {A : Type 0} where
  -- a function that gives the places of the reversed list gives the list, from the last place on
  pub down_to_reverse : (d : A) (f : ℕ → A) (l : List A) → ((k : ℕ) → k < length l → f k ≡ get_or (reverse l) k d) → down_to f (length l) ≡ l
  down_to_reverse d f [] h = refl
  down_to_reverse d f (x ∷ l) h =
      let last : f (length l) ≡ x =
      h (length l) (omega arith) ∙ rw (reverse-cons x l, ← length-reverse l) (get_or-append_seam (reverse l) x [] d) in
      rw (
        last,
        down_to_reverse d f l (λ k b. h k (omega arith)
            ∙ ap (λ (r : List A). get_or r k d) (reverse-cons x l) ∙ get_or-append (reverse l) (x ∷ []) d k (omega (arith, length-reverse l))),
      )
