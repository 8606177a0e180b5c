-- The `val` of an int or a bool, cut: it is in range where the one of the text is, and then it is that one.
use Rattle.std.specs.Prelude.{◌%◌, ◌<◌, ◌≡◌, refl, Bool, true, false, ℤ, pos, negsuc}
use lib.Signed.{mag}
use Rattle.std.proofs.Common.{ap, sym, ◌∙◌, arith, lt-ltb, ltb-true, ne_eqb}
use Rattle.values.specs.Values.{in_range, checked}
use Rattle.values.specs.declared.Value.TheVariants.{Int as vint}
use Rattle.codes.specs.Codes.{int_code, code_of}
use Rattle.codes.specs.Laws.{int_code_small}
use Rattle.texts.specs.Forms.{is_one, zero_or_one}
use Rattle.numerals.specs.Numerals.{cut, range_cut, one_cut, zero_or_one_cut}

-- in range it is not cut
whole : (v : ℤ) → in_range v ≡ true → cut v ≡ v
whole (pos n) h = let k = ltb-true n 2147483648 h in ap pos (omega arith)
whole (negsuc n) h = let k = ltb-true n 2147483648 h in ap negsuc (omega arith)

-- what fits 32 bits is in range
fits : (z : ℤ) → mag z < 2147483648 → in_range z ≡ true
fits (pos n) h = lt-ltb n 2147483648 h
fits (negsuc n) h = lt-ltb n 2147483648 h

-- and what is in range fits
fitting : (z : ℤ) → in_range z ≡ true → mag z < 2147483648
fitting (pos n) h = ltb-true n 2147483648 h
fitting (negsuc n) h = ltb-true n 2147483648 h

module _ (v z : ℤ) (c : z ≡ cut v) where
  -- the range
  range : in_range z ≡ in_range v
  range = rw c (sym (range_cut v))

  -- AN INT: the number of its value is 0,
  pub int_out : code_of (checked z) ≡ 0 → in_range v ≡ false
  int_out e = go (in_range v) refl
    where
      go : (t : Bool) → in_range v ≡ t → t ≡ false
      go true h = let q : code_of (checked z) ≡ code_of (vint z) = rw (range, h) in absurd (omega arith)
      go false h = refl

  -- or it is in range,
  pub int_in : (code_of (checked z) ≡ 0 → ⊥) → in_range v ≡ true
  int_in n = go (in_range v) refl
    where
      go : (t : Bool) → in_range v ≡ t → t ≡ true
      go true h = refl
      go false h = absurd (n (rw (range, h)))

  -- and the number of its value has the int.
  pub int_word : (code_of (checked z) ≡ 0 → ⊥) → code_of (checked z) % 4294967296 ≡ int_code v
  int_word n =
      let h = int_in n in
      let q : code_of (checked z) ≡ code_of (vint v) = rw (range, h, c, whole v h) in
      omega (arith, int_code_small v h)

  -- One that fits 32 bits is in range,
  pub int_fits : mag z < 2147483648 → in_range v ≡ true
  int_fits f = sym range ∙ fits z f

  -- and the number of its value has the int;
  pub int_held : mag z < 2147483648 → code_of (vint z) % 4294967296 ≡ int_code v
  int_held f =
      let h = int_fits f in
      rw (c, whole v h) (omega (arith, int_code_small v h))

  -- one that does not is out of range.
  pub int_over : (mag z < 2147483648 → ⊥) → in_range v ≡ false
  int_over n = go (in_range v) refl
    where
      go : (t : Bool) → in_range v ≡ t → t ≡ false
      go true h = absurd (n (fitting z (range ∙ h)))
      go false h = refl

  -- A BOOL: 0,
  pub bool_zero : z ≡ pos 0 → (zero_or_one v ≡ true) × (is_one v ≡ false)
  bool_zero e = (rw (zero_or_one_cut v, ← c, e), rw (one_cut v, ← c, e))

  -- 1,
  pub bool_one : z ≡ pos 1 → (zero_or_one v ≡ true) × (is_one v ≡ true)
  bool_one e = (rw (zero_or_one_cut v, ← c, e), rw (one_cut v, ← c, e))

  -- or out of range.
  pub bool_out : (z ≡ pos 0 → ⊥) → (z ≡ pos 1 → ⊥) → zero_or_one v ≡ false
  bool_out m n = rw (zero_or_one_cut v, ← c) (go z m n)
    where
      go : (y : ℤ) → (y ≡ pos 0 → ⊥) → (y ≡ pos 1 → ⊥) → zero_or_one y ≡ false
      go (pos k) m n = rw (ne_eqb k 0 (λ q. m (ap pos q)), ne_eqb k 1 (λ q. n (ap pos q)))
      go (negsuc k) m n = refl
