-- A word of a line: the bytes up to a space (32), an LF (10) or the end. And its laws, as a loop over the places of a text uses them.
use Rattle.std.specs.Prelude.{ℕ, suc, ◌+◌, ◌-◌, ◌≤◌, ◌<◌, ◌≡◌, refl, List, [], ◌∷◌, Bool, true, false, cond, not, ◌||◌, eqb, nat_lt, length, drop, take, get_or, Option, Some, None, unwrap_or, position}
use Rattle.std.specs.List.{position_or_len}
use Rattle.std.proofs.Common.{ap, ◌∙◌, add-one, arith, drop_of_length-le, drop-cons}
use borrow.Author.Tests.{eq-eqb, ne_eqb, ltb-false}
use Rattle.std.proofs.lemmas.List.Sums.{prefix_len-le-length}

-- the bytes up to a space, an LF or the end
unfoldable pub word : List ℕ → List ℕ
word [] = []
word (b ∷ s) = let rest = b ∷ word s in cond (eqb b 32) [] (cond (eqb b 10) [] rest)

-- what stands from place i on: its byte, and what stands from the next place on
pub drop_next : (s : List ℕ) (i : ℕ) → i < length s → drop i s ≡ get_or s i 0 ∷ drop (i + 1) s
drop_next s i h = rw (add-one, drop-cons s i 0)

-- the word at place i of s
module _ (s : List ℕ) (i : ℕ) where
  -- at a space
  pub word_space : i < length s → get_or s i 0 ≡ 32 → word (drop i s) ≡ []
  unfolding word
  word_space h e = rw (drop_next s i h, eq-eqb (get_or s i 0) 32 e)

  -- at an LF
  pub word_lf : i < length s → (get_or s i 0 ≡ 32 → ⊥) → get_or s i 0 ≡ 10 → word (drop i s) ≡ []
  unfolding word
  word_lf h n e = rw (drop_next s i h, ne_eqb (get_or s i 0) 32 n, eq-eqb (get_or s i 0) 10 e)

  -- at another byte
  pub word_on : i < length s → (get_or s i 0 ≡ 32 → ⊥) → (get_or s i 0 ≡ 10 → ⊥) → word (drop i s) ≡ get_or s i 0 ∷ word (drop (i + 1) s)
  unfolding word
  word_on h n e = rw (drop_next s i h, ne_eqb (get_or s i 0) 32 n, ne_eqb (get_or s i 0) 10 e)

  -- at the end
  pub word_out : length s ≤ i → word (drop i s) ≡ []
  unfolding word
  word_out h = rw (drop_of_length-le s h)

-- a word is no longer than the text
pub word_short : (t : List ℕ) → length (word t) ≤ length t
unfolding word
word_short [] = omega arith
word_short (b ∷ t) = go (eqb b 32) (eqb b 10) (word_short t)
  where
    go : (p q : Bool) → length (word t) ≤ length t → length (cond p [] (cond q [] (b ∷ word t))) ≤ length (b ∷ t)
    go true q h = omega arith
    go false true h = omega arith
    go false false h = omega arith

-- and is its front
pub word_part : (t : List ℕ) → take (length (word t)) t ≡ word t
unfolding word
word_part [] = refl
word_part (b ∷ t) = go (eqb b 32) (eqb b 10) (word_part t)
  where
    go : (p q : Bool) → take (length (word t)) t ≡ word t → take (length (cond p [] (cond q [] (b ∷ word t)))) (b ∷ t) ≡ cond p [] (cond q [] (b ∷ word t))
    go true q h = refl
    go false true h = refl
    go false false h = ap (λ (l : List ℕ). b ∷ l) h

-- the part from `at` to where the word ends
pub parted : (s : List ℕ) (at e : ℕ) → e ≡ at + length (word (drop at s)) → take (e - at) (drop at s) ≡ word (drop at s)
parted s at e h = ap (λ (k : ℕ). take k (drop at s)) (let a : e - at ≡ length (word (drop at s)) = omega arith in a) ∙ word_part (drop at s)

-- no word
pub empty : (d : List ℕ) → length d ≡ 0 → d ≡ []
empty [] h = refl
empty (b ∷ d) h = absurd (omega arith)

-- A WORD BY THE LIBRARY'S `position`
-- a space or an LF
abbrev pub gap : ℕ → Bool
gap b = eqb b 32 || eqb b 10

-- what stands in front of the first, or all, is the word
pub word_front : (s : List ℕ) → take (position_or_len gap s) s ≡ word s
unfolding word
word_front [] = refl
word_front (b ∷ s) = go (eqb b 32) (eqb b 10) (word_front s)
  where
    go : (p q : Bool) → take (position_or_len gap s) s ≡ word s → take (cond (not (p || q)) (1 + position_or_len gap s) 0) (b ∷ s) ≡ cond p [] (cond q [] (b ∷ word s))
    go true q h = refl
    go false true h = refl
    go false false h = let z : 1 + position_or_len gap s ≡ suc (position_or_len gap s) = omega arith in rw z (ap (λ (l : List ℕ). b ∷ l) h)

-- o is what `position` finds
pub word_found : (s : List ℕ) (o : Option ℕ) → o ≡ position gap s → take (unwrap_or o (length s)) s ≡ word s
word_found s o h = rw h (ap (λ (k : ℕ). take k s) (go (nat_lt (position_or_len gap s) (length s)) refl) ∙ word_front s)
  where
    go : (t : Bool) → nat_lt (position_or_len gap s) (length s) ≡ t → unwrap_or (cond t (Some (position_or_len gap s)) None) (length s) ≡ position_or_len gap s
    go true e = refl
    go false e = omega (arith, ltb-false _ _ e, prefix_len-le-length (λ b. not (gap b)) s)
