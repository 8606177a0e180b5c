-- A test of each number of a run, of each with its place, or of each number below a bound, as `all` of an iterator answers it.
use Rattle.std.specs.Prelude.{ℕ, ◌+◌, ◌-◌, ◌≤◌, ◌<◌, ◌≡◌, Bool, true, false, List, MatchBool, length, get_or, slice_range}
use Rattle.std.specs.List.{AllWithin, HoldsAt, range_with_len, enumerate_from}
use Rattle.std.proofs.Common.{ap, sym, ◌∙◌, subst, zero-add, arith}
use Rattle.std.proofs.lemmas.List.FromFn.{length-range_with_len, get_or-range_with_len, length-enumerate_from, get_or-enumerate_from}
use Rattle.lists.specs.Tells.{Tells, form, granted, refuted, denied}
use Rattle.rows.specs.Part.{part, part_length, part_get}

-- what `all` says of a list: each element has P, or there is one that has not
abbrev pub Answers : {A : Type 0} → (A → Type 0) → Bool → List A → Type 0
Answers P r xs = MatchBool r (AllWithin P xs 0 (length xs)) ((k : ℕ) × (k < length xs) × HoldsAt (λ x. P x → ⊥) xs k)

-- what a test that told tells,
pub yes : {b : Bool} {P : Type 0} → Tells b P → b ≡ true → P
yes t = t.holds

-- and one that did not
pub no : {b : Bool} {P : Type 0} → Tells b P → b ≡ false → P → ⊥
no = denied

-- so `all` tells of each place
each_told : {A : Type 0} (P : A → Type 0) (d : A) (r : Bool) (xs : List A) → Answers P r xs → Tells r ((j : ℕ) → j < length xs → P (get_or xs j d))
each_told P d true xs h = granted (λ j l. h j d (omega arith) l)
each_told P d false xs h = refuted (λ f. h.2 d (f h.0 h.1))

-- A RUN: the n places from b on
pub run_told : (P : ℕ → Type 0) {r : Bool} (xs : List ℕ) (b n : ℕ) → b + n ≤ length xs → Answers P r (slice_range xs b (b + n)) → Tells r ((j : ℕ) → j < n → P (get_or xs (b + j) 0))
unfolding part
run_told P {r} xs b n inside h =
    let width : b + n - b ≡ n = omega arith in
    let long : length (part b (b + n - b) xs) ≡ b + n - b = part_length b (b + n - b) xs (omega arith) in
    form (each_told P 0 r (part b (b + n - b) xs) h)
    (λ f j l. subst P (part_get b (b + n - b) xs j 0 (omega arith)) (f j (omega (arith, long))))
    (λ f j l. subst P (sym (part_get b (b + n - b) xs j 0 (omega (arith, long)))) (f j (omega (arith, long))))

-- THE ELEMENTS WITH THEIR PLACES
pub placed_told : (P : ℕ → ℕ → Type 0) {r : Bool} (xs : List ℕ) → Answers (λ (x : ℕ × ℕ). P x.0 x.1) r (enumerate_from 0 xs) → Tells r ((j : ℕ) → j < length xs → P j (get_or xs j 0))
placed_told P {r} xs h =
    form (each_told (λ (x : ℕ × ℕ). P x.0 x.1) (0, 0) r (enumerate_from 0 xs) h)
    (λ f j l. subst (λ (x : ℕ × ℕ). P x.0 x.1) (place j l) (f j (omega (arith, long))))
    (λ f j l. subst (λ (x : ℕ × ℕ). P x.0 x.1) (sym (place j (omega (arith, long)))) (f j (omega (arith, long))))
  where
    long : length (enumerate_from 0 xs) ≡ length xs
    long = length-enumerate_from 0 xs

    place : (j : ℕ) → j < length xs → get_or (enumerate_from 0 xs) j (0, 0) ≡ (j, get_or xs j 0)
    place j l = get_or-enumerate_from 0 xs j (0, 0) l ∙ ap (λ (k : ℕ). (k, get_or xs j 0)) (zero-add j)

-- THE NUMBERS BELOW n
pub below_told : (P : ℕ → Type 0) {r : Bool} (n : ℕ) → Answers P r (range_with_len 0 n) → Tells r ((j : ℕ) → j < n → P j)
below_told P {r} n h =
    let long : length (range_with_len 0 n) ≡ n = length-range_with_len 0 n in
    form (each_told P 0 r (range_with_len 0 n) h)
    (λ f j l. subst P (number j l) (f j (omega (arith, long))))
    (λ f j l. subst P (sym (number j (omega (arith, long)))) (f j (omega (arith, long))))
  where
    number : (j : ℕ) → j < n → get_or (range_with_len 0 n) j 0 ≡ j
    number j l = get_or-range_with_len 0 n j 0 l ∙ zero-add j
