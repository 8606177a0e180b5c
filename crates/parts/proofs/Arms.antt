-- The arms of a `match` on a statement's head: what an arm that takes all others says.
use mathlib.Core.Path.{◌≡◌, refl}
use mathlib.Core.Bool.{false}
use Prim.Native.Nat.{ℕ}
use Rattle.tables.specs.declared.Head.{Head}
use Rattle.tables.specs.declared.Head.TheVariants.{Skip, Assign, New, Delete, Send, Raise, Leave, Return, Assert, Seq, If, While}
use Rattle.parts.specs.Parts.{is_skip_head, is_seq_head}

-- any head but a skip
pub no_skip : (h : Head) → (h ≡ Skip → ⊥) → is_skip_head h ≡ false
no_skip Skip k = absurd (k refl)
no_skip (Assign x y) k = refl
no_skip (New x m i n) k = refl
no_skip Delete k = refl
no_skip (Send x y z) k = refl
no_skip (Raise x y) k = refl
no_skip Leave k = refl
no_skip Return k = refl
no_skip (Assert x) k = refl
no_skip (Seq x y) k = refl
no_skip (If x y z) k = refl
no_skip (While x y) k = refl

-- any head but a seq
pub no_seq : (h : Head) → ((x y : ℕ) → h ≡ Seq x y → ⊥) → is_seq_head h ≡ false
no_seq Skip k = refl
no_seq (Assign x y) k = refl
no_seq (New x m i n) k = refl
no_seq Delete k = refl
no_seq (Send x y z) k = refl
no_seq (Raise x y) k = refl
no_seq Leave k = refl
no_seq Return k = refl
no_seq (Assert x) k = refl
no_seq (Seq x y) k = absurd (k x y refl)
no_seq (If x y z) k = refl
no_seq (While x y) k = refl
