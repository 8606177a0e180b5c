-- What the line of a statement says, by the parts of the text at its places. Its forms are numbered from 24 on.
use Prim.Native.Nat.{ℕ, zero, suc, ◌+◌, ◌<◌}
use Rattle.std.specs.Prelude.{◌≡◌, cond, List, [], ◌∷◌, leb, get_or}
use Rattle.std.proofs.Math.Path.{refl}
use Rattle.std.proofs.Math.Logic.{dite}
use Rattle.std.proofs.Math.Decide.{ℕ_discrete}
use Rattle.std.proofs.Common.{arith}
use Rattle.programs.specs.Program.{Stmt, new}
use Rattle.soundness.specs.Asked.{init_of}
use Rattle.texts.specs.Forms.{stmt_line}
use Rattle.tabled.specs.Tabled.{word_of, stmt_row}
use Rattle.spoken.specs.Spoken.{number_at, pairs_at, line_at}

-- the kind in each form, as the row has it
abbrev pub kinds : List ℕ
kinds = 1 ∷ 0 ∷ 3 ∷ 6 ∷ 7 ∷ 2 ∷ 4 ∷ 5 ∷ 8 ∷ 9 ∷ 10 ∷ 11 ∷ []

-- how many operands; those of a `new` are apart
abbrev pub operands : List ℕ
operands = 2 ∷ 0 ∷ 0 ∷ 0 ∷ 0 ∷ 0 ∷ 3 ∷ 2 ∷ 1 ∷ 2 ∷ 3 ∷ 2 ∷ []

module _ (s places : List ℕ) where
  -- operand j of a statement in form 24 + k
  abbrev pub operand_at : ℕ → ℕ → ℕ
  operand_at k j = cond (leb j (get_or operands k 0)) (word_of (number_at s places j)) 0

  -- the row of a statement in form 24 + k that is no `new`
  abbrev pub plain_row : ℕ → List ℕ
  plain_row k = get_or kinds k 0 ∷ operand_at k 1 ∷ operand_at k 2 ∷ operand_at k 3 ∷ 0 ∷ []

  -- what the line of one says
  pub record Plain (k i : ℕ) (t : Stmt) : Type 0 where
    pub own : number_at s places 0 ≡ i
    pub row : (n : ℕ) → stmt_row n t ≡ plain_row k
    pub inits : init_of t ≡ []

  -- from the equation of a line
  plain_told : (k : ℕ) {i : ℕ} {u t : Stmt} → stmt_line (number_at s places 0) u ≡ stmt_line i t → ((n : ℕ) → stmt_row n u ≡ plain_row k) → init_of u ≡ [] → Plain k i t
  plain_told k {i} {u} {t} q r e = let p : u ≡ t = cc in record { own = cc; row = λ n. rw (← p) (r n); inits = rw (← p) e }

  -- in each form
  pub plain_says : (k : ℕ) {i : ℕ} {t : Stmt} → k < 12 → (k ≡ 5 → ⊥) → line_at s places (24 + k) ≡ stmt_line i t → Plain k i t
  unfolding line_at
  plain_says zero h m q = plain_told 0 q (λ n. refl) refl
  plain_says (suc zero) h m q = plain_told 1 q (λ n. refl) refl
  plain_says (suc (suc zero)) h m q = plain_told 2 q (λ n. refl) refl
  plain_says (suc (suc (suc zero))) h m q = plain_told 3 q (λ n. refl) refl
  plain_says (suc (suc (suc (suc zero)))) h m q = plain_told 4 q (λ n. refl) refl
  plain_says (suc (suc (suc (suc (suc zero))))) h m q = absurd (m refl)
  plain_says (suc (suc (suc (suc (suc (suc zero)))))) h m q = plain_told 6 q (λ n. refl) refl
  plain_says (suc (suc (suc (suc (suc (suc (suc zero))))))) h m q = plain_told 7 q (λ n. refl) refl
  plain_says (suc (suc (suc (suc (suc (suc (suc (suc zero)))))))) h m q = plain_told 8 q (λ n. refl) refl
  plain_says (suc (suc (suc (suc (suc (suc (suc (suc (suc zero))))))))) h m q = plain_told 9 q (λ n. refl) refl
  plain_says (suc (suc (suc (suc (suc (suc (suc (suc (suc (suc zero)))))))))) h m q = plain_told 10 q (λ n. refl) refl
  plain_says (suc (suc (suc (suc (suc (suc (suc (suc (suc (suc (suc zero))))))))))) h m q = plain_told 11 q (λ n. refl) refl
  plain_says (suc (suc (suc (suc (suc (suc (suc (suc (suc (suc (suc (suc k)))))))))))) h m q = absurd (omega arith)

  -- the `new` that a line says
  abbrev pub new_at : Stmt
  new_at = new (number_at s places 1) (number_at s places 2) (pairs_at s places 3)

  -- its number, and the statement
  pub new_says : {i : ℕ} {t : Stmt} → line_at s places 29 ≡ stmt_line i t → (number_at s places 0 ≡ i) × (new_at ≡ t)
  unfolding line_at
  new_says q = (cc, cc)

  -- every line: its number
  pub own_says : (k : ℕ) {i : ℕ} {t : Stmt} → k < 12 → line_at s places (24 + k) ≡ stmt_line i t → number_at s places 0 ≡ i
  own_says k h q = dite (ℕ_discrete k 5) (λ (m : k ≡ 5). (new_says (rw m at q)).0) (λ m. (plain_says k h m q).own)
