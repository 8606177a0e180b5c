-- A number in a text is any natural number; the code has it cut to 4294967295, and one with a minus to -4294967295 .. 4294967295. No size of the format is
-- so large, so what is asked of a number is asked of the cut one.
use Rattle.std.specs.Prelude.{ℕ, zero, suc, ◌≤◌, ◌<◌, min, ◌≡◌, refl, List, [], ◌∷◌, Bool, true, false, cond, eqb, ltb, ℤ, pos, negsuc, neg_ℤ, length, drop, get_or, Option, Some, None, is_some as is_there, unwrap_or}
use Rattle.std.proofs.Common.{sym, arith, eqb-true, eq-eqb, ne_eqb, lt-ltb, le-ltb, ltb-true, ltb-false}
use Rattle.std.proofs.Math.Option.{Option as Maybe, none, some}
use Rattle.std.proofs.lemmas.Bool.{eqb-false}
use Rattle.lists.specs.Lists.{on_opt, is_some}
use Rattle.values.specs.Values.{in_range}
use Rattle.texts.specs.Forms.{is_one, zero_or_one}
use Rattle.texts.specs.Numbers.{decimal, signed, minus, plus}

-- the largest number of 32 bits
abbrev pub CAP : ℕ
CAP = 4294967295

-- a number as the code has it
abbrev pub capped : Maybe ℕ → Option ℕ
capped none = None
capped (some n) = Some (min n CAP)

-- an integer cut on both sides (negsuc n is -1 - n)
abbrev pub cut : ℤ → ℤ
cut (pos n) = pos (min n CAP)
cut (negsuc n) = negsuc (min n 4294967294)

-- an integer as the code has it
abbrev pub capped_int : Maybe ℤ → Option ℤ
capped_int none = None
capped_int (some z) = Some (cut z)

-- a number without a minus, cut
abbrev pub positive : Option ℕ → Option ℤ
positive None = None
positive (Some n) = Some (pos n)

-- a number behind a minus, cut: `-0` is none
abbrev pub negative : Option ℕ → Option ℤ
negative None = None
negative (Some n) = cond (eqb n 0) None (Some (neg_ℤ (pos n)))

-- WHAT THE CUT NUMBER SAYS
-- The code has a number: the text has one, of which it is the cut;
pub number_there : (o : Maybe ℕ) (n : ℕ) → capped o ≡ Some n → (true ≡ is_some o) × (n ≡ min (on_opt o 0 (λ m. m)) CAP)
number_there none n e = absurd (let z : ◌≡◌ {A = ℕ} 0 1 = cc in omega arith)
number_there (some m) n e = (refl, cc)

-- it has none: the text has none, and that counts as 0.
pub number_missing : (o : Maybe ℕ) → capped o ≡ None → (false ≡ is_some o) × (0 ≡ min (on_opt o 0 (λ m. m)) CAP)
number_missing none e = (refl, refl)
number_missing (some m) e = absurd (let z : ◌≡◌ {A = ℕ} 0 1 = cc in omega arith)

-- The same of an integer.
pub integer_there : (o : Maybe ℤ) (z : ℤ) → capped_int o ≡ Some z → (true ≡ is_some o) × (z ≡ cut (on_opt o (pos 0) (λ m. m)))
integer_there none z e = absurd (let y : ◌≡◌ {A = ℕ} 0 1 = cc in omega arith)
integer_there (some m) z e = (refl, cc)

-- and of none
pub integer_missing : (o : Maybe ℤ) → capped_int o ≡ None → (false ≡ is_some o) × (pos 0 ≡ cut (on_opt o (pos 0) (λ m. m)))
integer_missing none e = (refl, refl)
integer_missing (some m) e = absurd (let y : ◌≡◌ {A = ℕ} 0 1 = cc in omega arith)

-- Whether the code has a number, and the number that it has, or 0.
pub capped_some : (o : Maybe ℕ) → is_there (capped o) ≡ is_some o
capped_some none = refl
capped_some (some n) = refl

pub capped_or : (o : Maybe ℕ) → unwrap_or (capped o) 0 ≡ min (on_opt o 0 (λ m. m)) CAP
capped_or none = refl
capped_or (some n) = refl

-- The same of an integer.
pub capped_int_some : (o : Maybe ℤ) → is_there (capped_int o) ≡ is_some o
capped_int_some none = refl
capped_int_some (some z) = refl

pub capped_int_or : (o : Maybe ℤ) → unwrap_or (capped_int o) (pos 0) ≡ cut (on_opt o (pos 0) (λ m. m))
capped_int_or none = refl
capped_int_or (some z) = refl

-- WHAT IS ASKED OF THE CUT NUMBER
-- below k, where the cut is not below k
pub below_cut : (n c k : ℕ) → k ≤ c → ltb n k ≡ ltb (min n c) k
below_cut n c k h = go (ltb n k) refl
  where
    go : (b : Bool) → ltb n k ≡ b → b ≡ ltb (min n c) k
    go true e = let l = ltb-true n k e in sym (lt-ltb (min n c) k (omega arith))
    go false e = let l = ltb-false n k e in sym (le-ltb (min n c) k (omega arith))

-- is k, where the cut is above k
pub equal_cut : (n c k : ℕ) → k < c → eqb n k ≡ eqb (min n c) k
equal_cut n c k h = go (eqb n k) refl
  where
    go : (b : Bool) → eqb n k ≡ b → b ≡ eqb (min n c) k
    go true e = let l = eqb-true n k e in sym (eq-eqb (min n c) k (omega arith))
    go false e = let l = eqb-false n k e in sym (ne_eqb (min n c) k (λ q. l (omega arith)))

-- "-2147483648 to 2147483647"
pub range_cut : (z : ℤ) → in_range z ≡ in_range (cut z)
range_cut (pos n) = below_cut n CAP 2147483648 (omega arith)
range_cut (negsuc n) = below_cut n 4294967294 2147483648 (omega arith)

-- "bool 0 or 1"
pub one_cut : (z : ℤ) → is_one z ≡ is_one (cut z)
one_cut (pos n) = equal_cut n CAP 1 (omega arith)
one_cut (negsuc n) = refl

-- 0 or 1
pub zero_or_one_cut : (z : ℤ) → zero_or_one z ≡ zero_or_one (cut z)
zero_or_one_cut (pos n) = rw (← equal_cut n CAP 0 (omega arith), ← equal_cut n CAP 1 (omega arith))
zero_or_one_cut (negsuc n) = refl

-- WITH A MINUS OR WITHOUT
-- the cut of a number without a minus
pub cut_plus : (o : Maybe ℕ) → capped_int (plus o) ≡ positive (capped o)
cut_plus none = refl
cut_plus (some n) = refl

-- the cut of a number behind one
pub cut_minus : (o : Maybe ℕ) → capped_int (minus o) ≡ negative (capped o)
cut_minus none = refl
cut_minus (some zero) = refl
cut_minus (some (suc n)) =
    let e : min (suc n) CAP ≡ suc (min n 4294967294) = omega arith in
    rw (e, ne_eqb (suc n) 0 (λ q. omega arith), ne_eqb (suc (min n 4294967294)) 0 (λ q. omega arith))

-- no bytes
pub signed_none : (d : List ℕ) → length d ≡ 0 → capped_int (signed d) ≡ None
signed_none [] h = refl
signed_none (b ∷ d) h = absurd (omega arith)

-- a minus in front
pub signed_minus : (d : List ℕ) → 0 < length d → get_or d 0 0 ≡ 45 → capped_int (signed d) ≡ negative (capped (decimal (drop 1 d)))
signed_minus [] h e = absurd (omega arith)
signed_minus (b ∷ d) h e = rw (eq-eqb b 45 e) (cut_minus (decimal d))

-- none in front
pub signed_plus : (d : List ℕ) → 0 < length d → (get_or d 0 0 ≡ 45 → ⊥) → capped_int (signed d) ≡ positive (capped (decimal d))
signed_plus [] h e = absurd (omega arith)
signed_plus (b ∷ d) h e = rw (ne_eqb b 45 e) (cut_plus (decimal (b ∷ d)))
