-- `sizing::stmt_ascends` meets its contract: only a `new` has an init list. Assumes nothing.
use mathlib.Core.Path.{◌≡◌, refl, sym}
use mathlib.Core.Bool.{true}
use mathlib.Core.List.{List, map}
use Prim.Native.Nat.{ℕ}
use Rattle.soundness.specs.Asked.{ascending, init_of}
use Rattle.tables.specs.declared.Kind.{Kind}
use Rattle.tables.specs.declared.Head.{Head}
use Rattle.tables.specs.declared.Head.TheVariants.{Skip, Assign, New, Delete, Send, Raise, Leave, Return, Assert, Seq, If, While}
use Rattle.tables.specs.Decode.{stmt_of}
use Rattle.sizing.proofs.stmt_ascends.Goals as goal

-- any head but a new
no_new : (inits : List ℕ) (h : Head) → ((x : ℕ) (m : Kind) (i n : ℕ) → h ≡ New x m i n → ⊥) → ascending (map (λ xe. xe.0) (init_of (stmt_of inits h))) ≡ true
no_new inits Skip a = refl
no_new inits (Assign x y) a = refl
no_new inits (New x m i n) a = absurd (a x m i n refl)
no_new inits Delete a = refl
no_new inits (Send x y z) a = refl
no_new inits (Raise x y) a = refl
no_new inits Leave a = refl
no_new inits Return a = refl
no_new inits (Assert x) a = refl
no_new inits (Seq x y) a = refl
no_new inits (If x y z) a = refl
no_new inits (While x y) a = refl

pub returns-in_default : goal.returns-in_default
returns-in_default c = sym (no_new c.args.inits.now c.args.h c.in_default.not-New)

pub returns : goal.returns
returns c = rw (c.in-New.is, ← c.from.ensures, ← c.from-2.ensures) c.pairs_ascend.ensures
