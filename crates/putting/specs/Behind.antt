-- Stores behind a list that zeros follow: a row of one, three or five numbers.
use Rattle.std.specs.Prelude.{ℕ, ◌+◌, ◌≤◌, ◌<◌, ◌≡◌, List, [], ◌∷◌, ◌++◌, length, set}
use Rattle.std.proofs.Common.{ap, sym, ◌∙◌, append_assoc, arith, length-append}
use Rattle.rows.specs.Pad.{pad, pad_snoc}

module _ {A : Type 0} (z : A) (size : ℕ) where
  module _ (n : ℕ) (xs : List A) (e : length xs ≡ n) where
    -- one number more in the row that is stored from place n on
    row_more : (r : List A) (a : A) → n + length r < size → set (pad z size (xs ++ r)) (n + length r) a ≡ pad z size (xs ++ (r ++ a ∷ []))
    row_more r a h =
        let m : n + length r ≡ length (xs ++ r) = simp length-append (omega arith) in
        ap (λ (j : ℕ). set (pad z size (xs ++ r)) j a) m ∙ pad_snoc z size (xs ++ r) a (omega arith) ∙ ap (pad z size) (append_assoc xs r (a ∷ []))

    -- a row of one
    pub row_one : (a : A) → n < size → set (pad z size xs) n a ≡ pad z size (xs ++ a ∷ [])
    row_one a h = ap (λ (j : ℕ). set (pad z size xs) j a) (sym e) ∙ pad_snoc z size xs a (omega arith)

    -- a row of three
    pub row_three : (a b c : A) → n + 3 ≤ size → set (set (set (pad z size xs) n a) (n + 1) b) (n + 2) c ≡ pad z size (xs ++ a ∷ b ∷ c ∷ [])
    row_three a b c h =
        ap (λ (l : List A). set (set l (n + 1) b) (n + 2) c) (row_one a (omega arith)) ∙ ap (λ (l : List A). set l (n + 2) c) (row_more (a ∷ []) b (omega arith))
        ∙ row_more (a ∷ b ∷ []) c (omega arith)

    -- a row of five
    pub row_five : (a b c d f : A) → n + 5 ≤ size
        → set (set (set (set (set (pad z size xs) n a) (n + 1) b) (n + 2) c) (n + 3) d) (n + 4) f ≡ pad z size (xs ++ a ∷ b ∷ c ∷ d ∷ f ∷ [])
    row_five a b c d f h =
        ap (λ (l : List A). set (set l (n + 3) d) (n + 4) f) (row_three a b c (omega arith)) ∙ ap (λ (l : List A). set l (n + 4) f) (row_more (a ∷ b ∷ c ∷ []) d (omega arith))
        ∙ row_more (a ∷ b ∷ c ∷ d ∷ []) f (omega arith)
