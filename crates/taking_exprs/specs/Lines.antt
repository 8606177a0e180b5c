-- What the line of an expression says, by the parts of the text at its places. Its forms are numbered from 10 on.
use Prim.Native.Nat.{ℕ, zero, suc, ◌+◌, ◌<◌}
use Rattle.std.specs.Prelude.{◌≡◌, Bool, true, cond, List, [], ◌∷◌, leb, get_or}
use Rattle.std.proofs.Math.Path.{refl}
use Rattle.std.proofs.Math.Logic.{dite}
use Rattle.std.proofs.Math.Decide.{ℕ_discrete}
use Rattle.std.proofs.Common.{arith}
use Rattle.values.specs.Values.{in_range}
use Rattle.programs.specs.declared.Expr.{Expr}
use Rattle.programs.specs.declared.Leaf.TheVariants.{Int as int_val, Bool as bool_val}
use Rattle.programs.specs.declared.Expr.TheVariants.{Leaf as leaf}
use Rattle.texts.specs.Forms.{expr_line, is_one, zero_or_one}
use Rattle.tabled.specs.Tabled.{word_of, expr_row}
use Rattle.spoken.specs.Spoken.{number_at, integer_at, line_at}

-- the kind in each form, as the row has it
abbrev pub kinds : List ℕ
kinds = 10 ∷ 11 ∷ 12 ∷ 13 ∷ 8 ∷ 9 ∷ 1 ∷ 2 ∷ 3 ∷ 4 ∷ 5 ∷ 6 ∷ 0 ∷ 7 ∷ []

module _ (s places : List ℕ) where
  -- the row of an expression in form 10 + k, where it has no `val`: `var` (8) is the last with one number, `or` (3) the last with two
  abbrev pub plain_row : ℕ → List ℕ
  plain_row k = get_or kinds k 0 ∷ cond (leb k 8) (word_of (number_at s places 1)) 0 ∷ cond (leb k 3) (word_of (number_at s places 2)) 0 ∷ []

  -- what a line without a `val` says
  pub record Plain (k i : ℕ) (b : Bool) (e : Expr) : Type 0 where
    pub own : number_at s places 0 ≡ i
    pub fine : b ≡ true
    pub row : expr_row e ≡ plain_row k

  -- from the equation of a line
  plain_told : (k : ℕ) {i : ℕ} {b : Bool} {d e : Expr} → expr_line (number_at s places 0) true d ≡ expr_line i b e → expr_row d ≡ plain_row k → Plain k i b e
  plain_told k {i} {b} {d} {e} q r = let p : d ≡ e = cc in record { own = cc; fine = cc; row = rw (← p) r }

  -- in each form
  pub plain_says : (k : ℕ) {i : ℕ} {b : Bool} {e : Expr} → k < 14 → (k ≡ 6 → ⊥) → (k ≡ 7 → ⊥) → line_at s places (10 + k) ≡ expr_line i b e → Plain k i b e
  unfolding line_at
  plain_says zero h m n q = plain_told 0 q refl
  plain_says (suc zero) h m n q = plain_told 1 q refl
  plain_says (suc (suc zero)) h m n q = plain_told 2 q refl
  plain_says (suc (suc (suc zero))) h m n q = plain_told 3 q refl
  plain_says (suc (suc (suc (suc zero)))) h m n q = plain_told 4 q refl
  plain_says (suc (suc (suc (suc (suc zero))))) h m n q = plain_told 5 q refl
  plain_says (suc (suc (suc (suc (suc (suc zero)))))) h m n q = absurd (m refl)
  plain_says (suc (suc (suc (suc (suc (suc (suc zero))))))) h m n q = absurd (n refl)
  plain_says (suc (suc (suc (suc (suc (suc (suc (suc zero)))))))) h m n q = plain_told 8 q refl
  plain_says (suc (suc (suc (suc (suc (suc (suc (suc (suc zero))))))))) h m n q = plain_told 9 q refl
  plain_says (suc (suc (suc (suc (suc (suc (suc (suc (suc (suc zero)))))))))) h m n q = plain_told 10 q refl
  plain_says (suc (suc (suc (suc (suc (suc (suc (suc (suc (suc (suc zero))))))))))) h m n q = plain_told 11 q refl
  plain_says (suc (suc (suc (suc (suc (suc (suc (suc (suc (suc (suc (suc zero)))))))))))) h m n q = plain_told 12 q refl
  plain_says (suc (suc (suc (suc (suc (suc (suc (suc (suc (suc (suc (suc (suc zero))))))))))))) h m n q = plain_told 13 q refl
  plain_says (suc (suc (suc (suc (suc (suc (suc (suc (suc (suc (suc (suc (suc (suc k)))))))))))))) h m n q = absurd (omega arith)

  -- what a line with a `val` says, that is in range where r, and is the expression d
  pub record Valued (r : Bool) (d : Expr) (i : ℕ) (b : Bool) (e : Expr) : Type 0 where
    pub own : number_at s places 0 ≡ i
    pub range : r ≡ b
    pub expr : d ≡ e

  -- an int
  pub int_says : {i : ℕ} {b : Bool} {e : Expr} → line_at s places 16 ≡ expr_line i b e → Valued (in_range (integer_at s places 1)) (leaf (int_val (integer_at s places 1))) i b e
  unfolding line_at
  int_says q = record { own = cc; range = cc; expr = cc }

  -- a bool
  pub bool_says : {i : ℕ} {b : Bool} {e : Expr} → line_at s places 17 ≡ expr_line i b e
      → Valued (zero_or_one (integer_at s places 1)) (leaf (bool_val (is_one (integer_at s places 1)))) i b e
  unfolding line_at
  bool_says q = record { own = cc; range = cc; expr = cc }

  -- every line: its number
  pub own_says : (k : ℕ) {i : ℕ} {b : Bool} {e : Expr} → k < 14 → line_at s places (10 + k) ≡ expr_line i b e → number_at s places 0 ≡ i
  own_says k {i} {b} {e} h q =
      dite (ℕ_discrete k 6) (λ (m : k ≡ 6). (int_says (rw m at q)).own)
      (λ m. dite (ℕ_discrete k 7) (λ (n : k ≡ 7). (bool_says (rw n at q)).own) (λ n. (plain_says k h m n q).own))
