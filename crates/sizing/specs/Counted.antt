-- How many elements of a table pass a test, counted from its first on; and counted by their numbers.
use Rattle.std.specs.Prelude.{ℕ, zero, suc, ◌+◌, ◌<◌, ◌≡◌, refl, Bool, true, false, cond, count_by, List, length, take, drop, get_or}
use Rattle.std.specs.List.{range_with_len}
use Rattle.std.proofs.Common.{ap, sym, ◌∙◌, arith, drop_of_length-le, drop-cons}
use Rattle.std.proofs.lemmas.List.Sums.{sum_by-cons}
use Rattle.lists.specs.Lists.{at, push, keep}
use Rattle.lists.specs.Keep.{keep_snoc}
use Rattle.faults.specs.Faults.{taken_more, at_place}

module _ {A : Type 0} (f : A → Bool) where
  -- row i + 1 counted too
  pub kept_more : (d : A) (l : List A) (i : ℕ) → i < length l → length (keep f (take (i + 1) l)) ≡ length (keep f (take i l)) + cond (f (at d l (i + 1))) 1 0
  kept_more d l i h = ap (λ (r : List A). length (keep f r)) (taken_more d l i h) ∙ keep_snoc f (take i l) (at d l (i + 1))

module _ {A : Type 0} (f : A → Bool) (d : A) (l : List A) where
  -- one element more
  one_more : (b : Bool) (m : ℕ) (x : A) (r : List A) → m ≡ length r → cond b 1 0 + m ≡ length (push b x r)
  one_more true m x r h = omega (arith, h)
  one_more false m x r h = omega (arith, h)

  -- those of the n elements behind the first k
  count_behind : (k n : ℕ) → k + n ≡ length l → count_by (λ x. f (at d l x)) (range_with_len (k + 1) n) ≡ length (keep f (drop k l))
  count_behind k zero e = rw (drop_of_length-le l {i = k} (omega arith)) refl
  count_behind k (suc n) e =
      let i : k + 1 + 1 ≡ suc k + 1 = omega arith in
      let rest : count_by (λ x. f (at d l x)) (range_with_len (k + 1 + 1) n) ≡ length (keep f (drop (suc k) l)) = rw i (count_behind (suc k) n (omega arith)) in
      sum_by-cons (λ x. cond (f (at d l x)) 1 0) (k + 1) (range_with_len (k + 1 + 1) n)
      ∙ ap (λ (b : Bool). cond b 1 0 + count_by (λ x. f (at d l x)) (range_with_len (k + 1 + 1) n)) (ap f (at_place d l k))
      ∙ one_more (f (get_or l k d)) _ (get_or l k d) (keep f (drop (suc k) l)) rest ∙ ap (λ (r : List A). length (keep f r)) (sym (drop-cons l k d (omega arith)))

  -- all of them
  pub count_numbers : count_by (λ x. f (at d l x)) (range_with_len 1 (length l)) ≡ length (keep f l)
  count_numbers = count_behind 0 (length l) (omega arith)
