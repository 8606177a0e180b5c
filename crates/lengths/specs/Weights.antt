-- The bytes of a line by its fields: each part of a field with the byte behind it. What a form asks of them: the bytes of its keys, a byte for each number, and
-- four for each pair of a list of pairs.
use Rattle.std.specs.Prelude.{ℕ, ◌+◌, ◌*◌, ◌≤◌, ◌≡◌, refl, Bool, true, false, cond, List, [], ◌∷◌, ◌++◌, map, length}
use Rattle.std.proofs.Common.{ap, ◌∙◌, arith}
use Rattle.std.proofs.Math.Option.{Option, none, some, some-injective, none-ne-some}
use Rattle.lists.specs.Lists.{on_opt, All, total, same}
use Rattle.lists.specs.Facts.{same_equal, All-map, All-append}
use Rattle.texts.specs.Bytes.{split}
use Rattle.texts.specs.Numbers.{decimal, signed, numbers, pairs}
use Rattle.texts.specs.Forms.{Val, a_number, an_integer, a_list, some_pairs, one, value_of, field_of, fields, values_of, pairs_at_in}
use Rattle.numerals.specs.Splits.{bytes_of, split_total}
use Rattle.listings.specs.Counts.{pairs_bytes}

-- THE BYTES OF A LINE
-- of all fields
abbrev pub line_bytes : List (List (List ℕ)) → ℕ
line_bytes g = total bytes_of g

-- Each field has the bytes that it was split from;
split_bytes : (ps : List (List ℕ)) → line_bytes (map (split 61) ps) ≡ bytes_of ps
split_bytes [] = refl
split_bytes (p ∷ ps) = omega (arith, split_total 61 p, split_bytes ps)

-- so the fields of a line have its bytes, and one behind it.
pub fields_bytes : (l : List ℕ) → line_bytes (fields l) ≡ length l + 1
fields_bytes l = split_bytes (split 32 l) ∙ split_total 32 l

-- THE FEWEST BYTES OF A LINE IN A FORM
-- where the form has the value h, with the byte behind it: a number ('#' is 35) has a digit
abbrev value_least : List ℕ → ℕ
value_least h = cond (same h (35 ∷ [])) 2 1

-- of a field
abbrev field_least : List (List ℕ) → ℕ
field_least [] = 0
field_least (k ∷ []) = 0
field_least (k ∷ h ∷ []) = length k + 1 + value_least h
field_least (k ∷ h ∷ g ∷ t) = 0

-- of all fields
abbrev pub form_least : List (List (List ℕ)) → ℕ
form_least t = total field_least t

-- THE PAIRS OF A VALUE are no more than a quarter of n bytes
abbrev pub Few : ℕ → Val → Type 0
Few n x = 4 * length (pairs_at_in x) ≤ n

-- nor than a quarter of more bytes
few_more : (n m : ℕ) (v : List Val) → n ≤ m → All (Few n) v → All (Few m) v
few_more n m v h f = All-map (Few n) (Few m) v (λ x k. omega arith) f

-- n bytes that say the values v: they are not fewer than the fewest, and enough for the pairs
pub record Takes (least n : ℕ) (v : List Val) : Type 0 where
  pub bytes : least ≤ n
  pub pairs : All (Few n) v

-- a number has a digit
number_takes : (d : List ℕ) (v : List Val) → one a_number (decimal d) ≡ some v → 2 ≤ length d + 1
number_takes [] v e = absurd (none-ne-some _ e)
number_takes (b ∷ d) v e = omega arith

-- a value alone
one_few : {A : Type 0} (f : A → Val) (n : ℕ) (o : Option A) (v : List Val) → ((a : A) → o ≡ some a → Few n (f a)) → one f o ≡ some v → All (Few n) v
one_few f n none v h e = absurd (none-ne-some _ e)
one_few f n (some a) v h e = rw (← some-injective _ _ e) (h a refl, tt)

-- a value in a form
value_takes : (h d : List ℕ) (v : List Val) → value_of h d ≡ some v → Takes (value_least h) (length d + 1) v
value_takes h d v e = go (same h (35 ∷ [])) (same h (126 ∷ [])) (same h (64 ∷ [])) (same h (37 ∷ [])) (same h d) e
  where
    go : (a b c p q : Bool)
        → cond a (one a_number (decimal d)) (cond b (one an_integer (signed d)) (cond c (one a_list (numbers d)) (cond p (one some_pairs (pairs d)) (cond q (some []) none)))) ≡ some v
        → Takes (cond a 2 1) (length d + 1) v
    go true b c p q e = record { bytes = number_takes d v e; pairs = one_few a_number (length d + 1) (decimal d) v (λ a h. omega arith) e }
    go false true c p q e = record { bytes = omega arith; pairs = one_few an_integer (length d + 1) (signed d) v (λ a h. omega arith) e }
    go false false true p q e = record { bytes = omega arith; pairs = one_few a_list (length d + 1) (numbers d) v (λ a h. omega arith) e }
    go false false false true q e = record { bytes = omega arith; pairs = one_few some_pairs (length d + 1) (pairs d) v (λ a h. pairs_bytes d a h) e }
    go false false false false true e = record { bytes = omega arith; pairs = rw (← some-injective _ _ e) tt }
    go false false false false false e = absurd (none-ne-some _ e)

-- a field
field_takes : (f g : List (List ℕ)) (v : List Val) → field_of f g ≡ some v → Takes (field_least f) (bytes_of g) v
field_takes [] g v e = absurd (none-ne-some _ e)
field_takes (k ∷ []) g v e = absurd (none-ne-some _ e)
field_takes (k ∷ h ∷ []) [] v e = absurd (none-ne-some _ e)
field_takes (k ∷ h ∷ []) (l ∷ []) v e = absurd (none-ne-some _ e)
field_takes (k ∷ h ∷ []) (l ∷ d ∷ []) v e = go (same k l) refl e
  where
    go : (b : Bool) → same k l ≡ b → cond b (value_of h d) none ≡ some v → Takes (length k + 1 + value_least h) (bytes_of (l ∷ d ∷ [])) v
    go true s e = let t = value_takes h d v e in
        record { bytes = omega (arith, t.bytes, ap length (same_equal k l s)); pairs = few_more (length d + 1) (bytes_of (l ∷ d ∷ [])) v (omega arith) t.pairs }
    go false s e = absurd (none-ne-some _ e)
field_takes (k ∷ h ∷ []) (l ∷ d ∷ c ∷ g) v e = absurd (none-ne-some _ e)
field_takes (k ∷ h ∷ c ∷ t) g v e = absurd (none-ne-some _ e)

-- A LINE IN A FORM
pub line_takes : (t g : List (List (List ℕ))) (v : List Val) → values_of t g ≡ some v → Takes (form_least t) (line_bytes g) v
line_takes [] [] v e = record { bytes = omega arith; pairs = rw (← some-injective _ _ e) tt }
line_takes [] (g ∷ l) v e = absurd (none-ne-some _ e)
line_takes (f ∷ t) [] v e = absurd (none-ne-some _ e)
line_takes (f ∷ t) (g ∷ l) v e = go (field_of f g) (values_of t l) refl refl (line_takes t l) e
  where
    go : (o p : Option (List Val)) → field_of f g ≡ o → values_of t l ≡ p → ((w : List Val) → values_of t l ≡ some w → Takes (form_least t) (line_bytes l) w)
        → on_opt o none (λ x. on_opt p none (λ y. some (x ++ y))) ≡ some v → Takes (form_least (f ∷ t)) (line_bytes (g ∷ l)) v
    go none p a b k e = absurd (none-ne-some _ e)
    go (some x) none a b k e = absurd (none-ne-some _ e)
    go (some x) (some y) a b k e =
        let n = line_bytes (g ∷ l) in
        let s = field_takes f g x a in
        let r = k y b in
        record {
          bytes = omega (arith, s.bytes, r.bytes);
          pairs = rw (← some-injective _ _ e) (All-append (Few n) x y (few_more (bytes_of g) n x (omega arith) s.pairs) (few_more (line_bytes l) n y (omega arith) r.pairs));
        }
