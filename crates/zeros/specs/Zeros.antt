-- A run of zeros in a list, and the test of one.
use Rattle.std.specs.Prelude.{ℕ, zero, suc, ◌+◌, ◌-◌, ◌≤◌, ◌<◌, ◌≡◌, refl, Bool, List, [], ◌∷◌, nat_eq, length, get_or, slice_range}
use Rattle.std.specs.List.{list_all}
use Rattle.std.proofs.Common.{ap, sym, ◌∙◌, subst, arith}
use Rattle.lists.specs.Tells.{Tells, form, equal, granted, both}
use Rattle.rows.specs.Part.{part, part_length, part_get}

-- A RUN OF ZEROS
-- the places from `from` on, up to `to`
pub record Run (xs : List ℕ) (from to : ℕ) : Type 0 where
  pub ordered : from ≤ to
  pub inside : to ≤ length xs

-- each of them is 0
abbrev pub Zeros : ℕ → ℕ → List ℕ → Type 0
Zeros from to xs = (k : ℕ) → from ≤ k → k < to → get_or xs k 0 ≡ 0

-- THE TEST of the numbers of a run, one after the other, tells whether they are zeros
all_zero : (xs : List ℕ) → Tells (list_all (λ x. nat_eq x 0) xs) ((j : ℕ) → j < length xs → get_or xs j 0 ≡ 0)
all_zero [] = granted (λ j h. refl)
all_zero (x ∷ xs) = form (both (equal x 0) (all_zero xs)) there (λ f. (f 0 (omega arith), λ j h. f (suc j) (omega arith)))
  where
    there : (x ≡ 0) × ((j : ℕ) → j < length xs → get_or xs j 0 ≡ 0) → (j : ℕ) → j < suc (length xs) → get_or (x ∷ xs) j 0 ≡ 0
    there t zero h = t.0
    there t (suc j) h = t.1 j (omega arith)

pub zeros_told : {xs : List ℕ} {from to : ℕ} {b : Bool} → Run xs from to → b ≡ list_all (λ x. nat_eq x 0) (slice_range xs from to) → Tells b (Zeros from to xs)
unfolding part
zeros_told {xs} {from} {to} {b} r e =
    let long : length (part from (to - from) xs) ≡ to - from = part_length from (to - from) xs (omega (arith, r.ordered, r.inside)) in
    let t : Tells b ((j : ℕ) → j < length (part from (to - from) xs) → get_or (part from (to - from) xs) j 0 ≡ 0) =
    subst (λ (c : Bool). Tells c ((j : ℕ) → j < length (part from (to - from) xs) → get_or (part from (to - from) xs) j 0 ≡ 0)) (sym e) (all_zero (part from (to - from) xs)) in
    form t
    (λ f k h l.
    let q : k ≡ from + (k - from) = omega arith in
    ap (λ (j : ℕ). get_or xs j 0) q ∙ sym (part_get from (to - from) xs (k - from) 0 (omega arith)) ∙ f (k - from) (omega arith))
    (λ z j h. part_get from (to - from) xs j 0 (omega arith) ∙ z (from + j) (omega arith) (omega arith))
