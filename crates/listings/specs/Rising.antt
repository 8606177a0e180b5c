-- Parts whose keys ascend, one after another: a key is the bytes of the number by which a part ascends.
use Rattle.std.specs.Prelude.{ℕ, ◌+◌, ◌-◌, ◌≤◌, ◌<◌, ◌≡◌, refl, Bool, true, false, not, cond, ◌&&◌, List, [], ◌∷◌, eqb, ltb, length, take, Option, Some, None, unwrap_or, is_some as is_there}
use Rattle.std.specs.List.{before_first, position_or_len}
use Rattle.std.proofs.Common.{ap, sym, ◌∙◌, arith, true≢false, eqb-true}
use Rattle.std.proofs.lemmas.List.Sums.{position_or_len_is, prefix_len-le-length, fails_before_first, passes_at_first}
use borrow.Author.Tests.{eq-eqb, ne_eqb}
use Rattle.numerals.specs.Splits.{span, span_whole, Until}
use Rattle.lists.specs.Lists.{is_some, on_opt}
use Rattle.texts.specs.Numbers.{decimal}
use Rattle.listings.specs.Listings.{number_of, pair_in}
use Rattle.listings.specs.Left.{pair_none, pair_there, paired}

-- the key k is above the last, if there is one
abbrev pub above : Option (List ℕ) → List ℕ → Bool
above None k = true
above (Some l) k = ltb (number_of l) (number_of k)

-- the parts ascend behind the last key, where f has the keys
unfoldable pub rising : (List ℕ → Option (List ℕ)) → Option (List ℕ) → List (List ℕ) → Bool
rising f l [] = true
rising f l (p ∷ ps) = let next = above l (unwrap_or (f p) []) && rising f (f p) ps in cond (is_there (f p)) next false

module _ (f : List ℕ → Option (List ℕ)) (l : Option (List ℕ)) (p : List ℕ) (ps : List (List ℕ)) where
  -- a part without a key
  pub rising_none : f p ≡ None → rising f l (p ∷ ps) ≡ false
  unfolding rising
  rising_none h = rw h

  module _ (k : List ℕ) (h : f p ≡ Some k) where
    -- one whose key is not above the last
    pub rising_low : above l k ≡ false → rising f l (p ∷ ps) ≡ false
    unfolding rising
    rising_low e = rw (h, e)

    -- one whose key is
    pub rising_more : above l k ≡ true → rising f l (p ∷ ps) ≡ rising f (Some k) ps
    unfolding rising
    rising_more e = rw (h, e)

-- no part
pub rising_all : (f : List ℕ → Option (List ℕ)) (l : Option (List ℕ)) → rising f l [] ≡ true
unfolding rising
rising_all f l = refl

-- the key of a number
abbrev pub number_key : List ℕ → Option (List ℕ)
number_key p = cond (is_some (decimal p)) (Some p) None

-- the key of a pair: what stands in front of its first colon
abbrev pub variable_key : List ℕ → Option (List ℕ)
variable_key p = cond (is_some (pair_in p)) (Some (before_first (λ b. eqb b 58) p)) None

module _ (d : List ℕ) (m : ℕ) (u : Until 58 d 0 (length d) m) where
  -- no colon, no pair
  pub variable_none : length d ≤ m → variable_key d ≡ None
  variable_none h = rw (ap pair_in (sym (span_whole d)) ∙ pair_none d 0 (length d) m (omega arith) u h)

  -- a colon, and what stands behind it
  pub variable_some : m < length d → (y : List ℕ) → y ≡ span (m + 1) (length d) d
      → variable_key d ≡ cond (is_some (decimal (take m d)) && is_some (decimal y)) (Some (take m d)) None
  variable_some h y e =
      let z : m - 0 ≡ m = omega arith in
      let n : position_or_len (λ b. eqb b 58) d ≡ m = position_or_len_is (λ b. eqb b 58) d m 0 u.high (λ k l. ne_eqb _ _ (u.free k (omega arith) l)) (λ l. eq-eqb _ _ (u.stop l)) in
      rw (n, ap (λ x. is_some (pair_in x)) (sym (span_whole d)) ∙ pair_there d 0 (length d) m (omega arith) u h, z, e)

-- the variable of a pair is the number of its key
pub variable_number : (p : List ℕ) → is_some (pair_in p) ≡ true → on_opt (pair_in p) 0 (λ xe. xe.0) ≡ number_of (before_first (λ b. eqb b 58) p)
variable_number p h =
    let m = position_or_len (λ b. eqb b 58) p in
    let u : Until 58 p 0 (length p) m = record {
      low = omega arith;
      high = prefix_len-le-length (λ b. not (eqb b 58)) p;
      free = λ k l n e. true≢false (sym (eq-eqb _ _ e) ∙ fails_before_first (λ b. eqb b 58) p k 0 n);
      stop = λ l. eqb-true _ _ (passes_at_first (λ b. eqb b 58) p 0 l);
    } in
    let z : m - 0 ≡ m = omega arith in
    let q = paired p 0 (length p) m (omega arith) u (rw (span_whole p) h) in
    ap (λ x. on_opt (pair_in x) 0 (λ xe. xe.0)) (sym (span_whole p)) ∙ q.key ∙ ap (λ n. number_of (take n p)) z
