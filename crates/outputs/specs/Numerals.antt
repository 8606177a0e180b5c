-- Laws of a number's digits: the last one behind those of a tenth, and how many there are. Nothing here is of the document.
use Rattle.std.specs.Prelude.{ℕ, zero, suc, ◌+◌, ◌/◌, ◌%◌, ◌^◌, ◌≤◌, ◌<◌, ◌≡◌, refl, Bool, true, false, cond, [], ◌∷◌, ◌++◌, ltb, length}
use Rattle.std.proofs.Common.{pow-suc, arith, lt-ltb, le-ltb, ltb-true, ltb-false, length-append}
use Rattle.outputs.specs.Lines.{digits, numeral}

-- two numbers that are both at least as many as the digits are give the same digits
enough : (d e n : ℕ) → n < d → n < e → digits d n ≡ digits e n
enough zero e n h k = absurd (omega arith)
enough (suc d) zero n h k = absurd (omega arith)
enough (suc d) (suc e) n h k = go (ltb n 10) refl (enough d e (n / 10))
  where
    go : (b : Bool) → ltb n 10 ≡ b → (n / 10 < d → n / 10 < e → digits d (n / 10) ≡ digits e (n / 10))
        → cond b ((48 + n) ∷ []) (digits d (n / 10) ++ (48 + n % 10) ∷ []) ≡ cond b ((48 + n) ∷ []) (digits e (n / 10) ++ (48 + n % 10) ∷ [])
    go true b lower = refl
    go false b lower =
        let m : 10 ≤ n = ltb-false n 10 b in
        rw (lower (omega arith) (omega arith))

-- a number below ten has one digit
pub numeral_small : (n : ℕ) → n < 10 → numeral n ≡ (48 + n) ∷ []
unfolding numeral
numeral_small n h = rw (lt-ltb n 10 h)

-- any other has one more than its tenth
pub numeral_more : (n : ℕ) → 10 ≤ n → numeral n ≡ numeral (n / 10) ++ (48 + n % 10) ∷ []
unfolding numeral
numeral_more n h = rw (le-ltb n 10 h, enough n (suc (n / 10)) (n / 10) (omega arith) (omega arith))

-- a number below a power of ten has no more digits than the power says
pub numeral_length : (k n : ℕ) → n < 10 ^ suc k → length (numeral n) ≤ suc k
numeral_length zero n h = rw (numeral_small n h) (omega arith)
numeral_length (suc k) n h = go (ltb n 10) refl (numeral_length k (n / 10))
  where
    go : (b : Bool) → ltb n 10 ≡ b → (n / 10 < 10 ^ suc k → length (numeral (n / 10)) ≤ suc k) → length (numeral n) ≤ suc (suc k)
    go true b lower = rw (numeral_small n (ltb-true n 10 b)) (omega arith)
    go false b lower =
        let l = lower (omega (arith, h, pow-suc 10 (suc k))) in
        rw (numeral_more n (ltb-false n 10 b)) (omega (arith, l, length-append (numeral (n / 10)) ((48 + n % 10) ∷ [])))
