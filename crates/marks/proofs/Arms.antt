-- The arms of a `match` on a statement's head: what an arm that takes all others says of it.
use mathlib.Core.Path.{◌≡◌, refl, ap}
use mathlib.Core.List.{List, [], ◌∷◌}
use Rattle.std.proofs.Common.{◌⊎◌, inl, inr}
use Prim.Native.Nat.{ℕ}
use Rattle.programs.specs.Statements.{exprs_of}
use Rattle.tables.specs.declared.Kind.{Kind}
use Rattle.tables.specs.declared.Head.{Head}
use Rattle.tables.specs.declared.Head.TheVariants.{Skip, Assign, New, Delete, Send, Raise, Leave, Return, Assert, Seq, If, While}
use Rattle.tables.specs.Decode.{stmt_of}

-- any head that names no expression
pub no_exprs : (inits : List ℕ) (h : Head) → ((x y : ℕ) → h ≡ Assign x y → ⊥) → ((x : ℕ) (m : Kind) (i n : ℕ) → h ≡ New x m i n → ⊥) → ((x y z : ℕ) → h ≡ Send x y z → ⊥) → ((x y : ℕ) → h ≡ Raise x y → ⊥)
    → ((x : ℕ) → h ≡ Assert x → ⊥) → ((x y z : ℕ) → h ≡ If x y z → ⊥) → ((x y : ℕ) → h ≡ While x y → ⊥) → exprs_of (stmt_of inits h) ≡ []
no_exprs inits Skip a b c d e f g = refl
no_exprs inits (Assign x y) a b c d e f g = absurd (a x y refl)
no_exprs inits (New x m i n) a b c d e f g = absurd (b x m i n refl)
no_exprs inits Delete a b c d e f g = refl
no_exprs inits (Send x y z) a b c d e f g = absurd (c x y z refl)
no_exprs inits (Raise x y) a b c d e f g = absurd (d x y refl)
no_exprs inits Leave a b c d e f g = refl
no_exprs inits Return a b c d e f g = refl
no_exprs inits (Assert x) a b c d e f g = absurd (e x refl)
no_exprs inits (Seq x y) a b c d e f g = refl
no_exprs inits (If x y z) a b c d e f g = absurd (f x y z refl)
no_exprs inits (While x y) a b c d e f g = absurd (g x y refl)

-- a head that names one expression
pub one_expr : (inits : List ℕ) (h : Head) (e : ℕ)
    → ((x : ℕ) × h ≡ Assign x e) ⊎ (((x : ℕ) × h ≡ Raise x e) ⊎ ((h ≡ Assert e) ⊎ (((x : ℕ) × (y : ℕ) × h ≡ If e x y) ⊎ ((x : ℕ) × h ≡ While e x)))) → exprs_of (stmt_of inits h) ≡ e ∷ []
one_expr inits h e (inl (x, k)) = ap (λ g. exprs_of (stmt_of inits g)) k
one_expr inits h e (inr (inl (x, k))) = ap (λ g. exprs_of (stmt_of inits g)) k
one_expr inits h e (inr (inr (inl k))) = ap (λ g. exprs_of (stmt_of inits g)) k
one_expr inits h e (inr (inr (inr (inl (x, y, k))))) = ap (λ g. exprs_of (stmt_of inits g)) k
one_expr inits h e (inr (inr (inr (inr (x, k))))) = ap (λ g. exprs_of (stmt_of inits g)) k
