-- The arm of a `match` on a statement's head that takes all but `new`, `delete` and `send`.
use Rattle.std.proofs.Common.{◌≡◌, ℕ, refl}
use mathlib.Core.Bool.{true}
use Rattle.tables.specs.declared.Kind.{Kind}
use Rattle.tables.specs.declared.Head.{Head}
use Rattle.tables.specs.declared.Head.TheVariants.{Skip, Assign, New, Delete, Send, Raise, Leave, Return, Assert, Seq, If, While}
use Rattle.heads.specs.Heads.{is_own}

-- any other head is the machine's own
pub other_own : (h : Head) → ((x : ℕ) (m : Kind) (i n : ℕ) → h ≡ New x m i n → ⊥) → (h ≡ Delete → ⊥) → ((t e x : ℕ) → h ≡ Send t e x → ⊥) → is_own h ≡ true
other_own Skip a b c = refl
other_own (Assign x e) a b c = refl
other_own (New x m i n) a b c = absurd (a x m i n refl)
other_own Delete a b c = absurd (b refl)
other_own (Send t e x) a b c = absurd (c t e x refl)
other_own (Raise e x) a b c = refl
other_own Leave a b c = refl
other_own Return a b c = refl
other_own (Assert e) a b c = refl
other_own (Seq x y) a b c = refl
other_own (If e x y) a b c = refl
other_own (While e x) a b c = refl
