-- Two numbers compared by their digits: of two without zeros in front the longer is the larger, and of two of one length the first digit that differs decides.
use Rattle.std.specs.Prelude.{ℕ, zero, suc, ◌+◌, ◌-◌, ◌*◌, ◌≤◌, ◌<◌, ◌≡◌, refl, true, false, List, [], ◌∷◌, ◌++◌, eqb, leb, ltb, length, take, drop, get_or}
use Rattle.std.proofs.Common.{ap, sym, ◌∙◌, ⊎_elim, true≢false, add-one, arith, leb-true, lt-ltb, le-ltb, length-drop, take-append-drop, drop_of_length-le, drop-cons}
use Rattle.std.proofs.lemmas.Bool.{eqb-false, not-true}
use Rattle.lists.specs.Lists.{all, is_some}
use Rattle.std.specs.Cmp.Lexicographic.{slice_cmp}
use Rattle.std.specs.Ordering.{is_lt, ordering_then, nat_cmp}
use borrow.Author.Tests.{ne_eqb}
use Rattle.rows.specs.Pad.{below?}
use Rattle.lists.specs.Facts.{and_parts, eqb_same}
use Rattle.texts.specs.Numbers.{digit, value, plain, decimal}
use Rattle.numerals.specs.Splits.{span, Span}
use Rattle.listings.specs.Listings.{number_of, Written, written}

-- a digit
digit_is : (b : ℕ) → digit b ≡ true → (48 ≤ b) × (b ≤ 57)
digit_is b h = let e = and_parts (leb 48 b) (leb b 57) h in (leb-true 48 b e.0, leb-true b 57 e.1)

-- no digit makes a number smaller
value_least : (p : List ℕ) (v : ℕ) → v ≤ value v p
value_least [] v = omega arith
value_least (b ∷ p) v = let h = value_least p (10 * v + (b - 48)) in omega arith

-- as many digits behind a smaller number say a smaller one
value_less : (p q : List ℕ) (v w : ℕ) → length p ≡ length q → all digit p ≡ true → v < w → value v p < value w q
value_less [] [] v w e h l = l
value_less [] (c ∷ q) v w e h l = absurd (omega arith)
value_less (b ∷ p) [] v w e h l = absurd (omega arith)
value_less (b ∷ p) (c ∷ q) v w e h l =
    let s = and_parts (digit b) (all digit p) h in
    value_less p q (10 * v + (b - 48)) (10 * w + (c - 48)) (omega arith) s.1 (let r = digit_is b s.0 in omega arith)

-- the digits in two parts
value_append : (p q : List ℕ) (v : ℕ) → value v (p ++ q) ≡ value (value v p) q
value_append [] q v = refl
value_append (b ∷ p) q v = value_append p q (10 * v + (b - 48))

-- a front of a number without a zero in front is no 0
front_positive : (q : List ℕ) (k : ℕ) → 1 < length q → plain q ≡ true → all digit q ≡ true → 0 < k → 0 < value 0 (take k q)
front_positive [] k n p h l = absurd (omega arith)
front_positive (b ∷ []) k n p h l = absurd (omega arith)
front_positive (b ∷ c ∷ q) zero n p h l = absurd (omega arith)
front_positive (b ∷ c ∷ q) (suc k) n p h l =
    let s = digit_is b (and_parts (digit b) (all digit (c ∷ q)) h).0 in
    let e = eqb-false b 48 (not-true (eqb b 48) p) in
    let g = value_least (take k (c ∷ q)) (10 * 0 + (b - 48)) in
    omega arith

-- THE LONGER IS THE LARGER
longer : (p q : List ℕ) → all digit p ≡ true → plain q ≡ true → all digit q ≡ true → 0 < length p → length p < length q → value 0 p < value 0 q
longer p q h k g n l =
    let f = front_positive q (length q - length p) (omega arith) k g (omega arith) in
    let e : value 0 q ≡ value (value 0 (take (length q - length p) q)) (drop (length q - length p) q) =
    ap (value 0) (sym (take-append-drop (length q - length p) q)) ∙ value_append (take (length q - length p) q) (drop (length q - length p) q) 0 in
    rw e (value_less p (drop (length q - length p) q) 0 (value 0 (take (length q - length p) q)) (simp length-drop (omega arith)) h f)

-- OF ONE LENGTH
-- one digit more
digit_at : (p : List ℕ) (i : ℕ) → all digit p ≡ true → i < length p → (digit (get_or p i 0) ≡ true) × (all digit (drop (suc i) p) ≡ true)
digit_at [] i h b = absurd (omega arith)
digit_at (x ∷ p) zero h b = and_parts (digit x) (all digit p) h
digit_at (x ∷ p) (suc i) h b = digit_at p i (and_parts (digit x) (all digit p) h).1 (omega arith)

-- the first i digits of the two say one number, v
pub record Level (p q : List ℕ) (i : ℕ) : Type 0 where
  pub v : ℕ
  pub left : value 0 p ≡ value v (drop i p)
  pub right : value 0 q ≡ value v (drop i q)

module _ (p q : List ℕ) (same_length : length p ≡ length q) where
  -- before the first digit
  pub level_none : Level p q 0
  level_none = record { v = 0; left = refl; right = refl }

  -- one digit that is the same
  pub level_more : (i : ℕ) → Level p q i → i < length p → get_or p i 0 ≡ get_or q i 0 → Level p q (i + 1)
  level_more i l h e =
      let k : i < length q = omega arith in
      record {
        v = 10 * l.v + (get_or p i 0 - 48);
        left = l.left ∙ rw (drop-cons p i 0 h, add-one);
        right = l.right ∙ rw (drop-cons q i 0 k, add-one, e);
      }

  -- no digit is left: they are one number
  pub level_all : (i : ℕ) → Level p q i → length p ≤ i → ltb (value 0 p) (value 0 q) ≡ false
  level_all i l h =
      let k : length q ≤ i = omega arith in
      let x : value 0 p ≡ l.v = l.left ∙ rw (drop_of_length-le p h) in
      let y : value 0 q ≡ l.v = l.right ∙ rw (drop_of_length-le q k) in
      le-ltb (value 0 p) (value 0 q) (omega arith)

-- a digit that is smaller
level_less : (p q : List ℕ) (i : ℕ) → length p ≡ length q → all digit p ≡ true → (vp vq v : ℕ) → vp ≡ value v (drop i p) → vq ≡ value v (drop i q)
    → i < length p → get_or p i 0 < get_or q i 0 → vp < vq
level_less p q i e h vp vq v l r b s =
    let k : i < length q = omega arith in
    let g = digit_at p i h b in
    let m = digit_is (get_or p i 0) g.0 in
    let x : vp ≡ value (10 * v + (get_or p i 0 - 48)) (drop (suc i) p) = l ∙ rw (drop-cons p i 0 b) in
    let y : vq ≡ value (10 * v + (get_or q i 0 - 48)) (drop (suc i) q) = r ∙ rw (drop-cons q i 0 k) in
    rw (x, y) (value_less (drop (suc i) p) (drop (suc i) q) (10 * v + (get_or p i 0 - 48)) (10 * v + (get_or q i 0 - 48))
    (simp length-drop (omega arith)) g.1 (omega arith))

-- WHAT THE LOOP ANSWERS, of two parts that say numbers
pub record Numbers (p q : List ℕ) : Type 0 where
  pub first : is_some (decimal p) ≡ true
  pub second : is_some (decimal q) ≡ true

-- two numbers in a part of a text, by their places
pub record Both (d : List ℕ) (a b f e : ℕ) : Type 0 where
  pub left : Span d a b
  pub right : Span d f e
  pub there : Numbers (span a b d) (span f e d)

-- some digits
written_some : (p : List ℕ) → plain p ≡ true → 0 < length p
written_some [] h = absurd (true≢false (sym h))
written_some (b ∷ p) h = omega arith

module _ (p q : List ℕ) (n : Numbers p q) where
  -- the first in its digits,
  a : Written p
  a = written p n.first

  -- and the second
  b : Written q
  b = written q n.second

  -- the first is shorter
  pub first_shorter : length p < length q → ltb (number_of p) (number_of q) ≡ true
  first_shorter h = rw (a.says, b.says) (lt-ltb (value 0 p) (value 0 q) (longer p q a.digits b.lead b.digits (written_some p a.lead) h))

  -- the second is
  pub second_shorter : length q < length p → ltb (number_of p) (number_of q) ≡ false
  second_shorter h = rw (a.says, b.says) (le-ltb (value 0 p) (value 0 q)
      (let l = longer q p b.digits a.lead a.digits (written_some q b.lead) h in omega arith))

  module _ (e : length p ≡ length q) (i : ℕ) (l : Level p q i) where
    -- a smaller digit
    pub digit_smaller : i < length p → get_or p i 0 < get_or q i 0 → ltb (number_of p) (number_of q) ≡ true
    digit_smaller h s = rw (a.says, b.says) (lt-ltb (value 0 p) (value 0 q) (level_less p q i e a.digits (value 0 p) (value 0 q) l.v l.left l.right h s))

    -- a larger one
    pub digit_larger : i < length p → get_or q i 0 < get_or p i 0 → ltb (number_of p) (number_of q) ≡ false
    digit_larger h s = rw (a.says, b.says) (le-ltb (value 0 p) (value 0 q)
        (let k = level_less q p i (sym e) b.digits (value 0 q) (value 0 p) l.v l.right l.left (omega arith) s in omega arith))

    -- no digit is left
    pub digits_equal : length p ≤ i → ltb (number_of p) (number_of q) ≡ false
    digits_equal h = rw (a.says, b.says) (level_all p q e i l h)

-- BY THE LIBRARY'S ORDER of lists: of one length the first digit that differs decides
listed_order : (p q : List ℕ) (v : ℕ) → length p ≡ length q → all digit p ≡ true → all digit q ≡ true → is_lt (slice_cmp nat_cmp p q) ≡ ltb (value v p) (value v q)
listed_order [] [] v e h k = sym (le-ltb v v (omega arith))
listed_order [] (c ∷ q) v e h k = absurd (omega arith)
listed_order (b ∷ p) [] v e h k = absurd (omega arith)
listed_order (b ∷ p) (c ∷ q) v e h k =
    let s = and_parts (digit b) (all digit p) h in
    let t = and_parts (digit c) (all digit q) k in
    let x = digit_is b s.0 in
    let y = digit_is c t.0 in
    ⊎_elim
    (λ (l : b < c). rw (lt-ltb b c l) (sym (lt-ltb _ _ (value_less p q (10 * v + (b - 48)) (10 * v + (c - 48)) (omega arith) s.1 (omega arith)))))
    (λ (l : c ≤ b). ⊎_elim
    (λ (m : c < b). rw (le-ltb b c l, ne_eqb b c (λ z. omega arith))
    (sym (le-ltb _ _ (let n = value_less q p (10 * v + (c - 48)) (10 * v + (b - 48)) (omega arith) t.1 (omega arith) in omega arith))))
    (λ (m : b ≤ c). let z : c ≡ b = omega arith in rw (z, le-ltb b b (omega arith), eqb_same b) (listed_order p q (10 * v + (b - 48)) (omega arith) s.1 t.1))
    (below? c b))
    (below? b c)

-- the lengths first
pub compared : (p q : List ℕ) → Numbers p q → is_lt (ordering_then (nat_cmp (length p) (length q)) (slice_cmp nat_cmp p q)) ≡ ltb (number_of p) (number_of q)
compared p q n = ⊎_elim
    (λ (l : length p < length q). rw (lt-ltb (length p) (length q) l) (sym (first_shorter p q n l)))
    (λ (l : length q ≤ length p). ⊎_elim
    (λ (m : length q < length p). rw (le-ltb (length p) (length q) l, ne_eqb (length p) (length q) (λ z. omega arith)) (sym (second_shorter p q n m)))
    (λ (m : length p ≤ length q). let z : length q ≡ length p = omega arith in
    let x = written p n.first in
    let y = written q n.second in
    rw (z, le-ltb (length p) (length p) (omega arith), eqb_same (length p)) (listed_order p q 0 (sym z) x.digits y.digits ∙ rw (x.says, y.says)))
    (below? (length q) (length p)))
    (below? (length p) (length q))
