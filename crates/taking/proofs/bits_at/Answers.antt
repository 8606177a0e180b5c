-- `taking::bits_at` meets its contract: a line without bits says 0. Assumes nothing.
use mathlib.Core.Path.{ap, ◌∙◌}
use Prim.Native.Nat.{ℕ, min}
use Rattle.numerals.specs.Numerals.{CAP}
use Rattle.taking.specs.Lines.{with_bits, without_bits}
use Rattle.taking.proofs.bits_at.Goals as goal

pub returns-then-row-eq42 : goal.returns-then-row-eq42
returns-then-row-eq42 c x e =
    let a = c.args in
    c.number_at.ensures ∙ ap (λ (n : ℕ). min n CAP) (with_bits a.s.now a.places a.row x c.if-row-eq42.true e)

pub returns-else-row-eq42 : goal.returns-else-row-eq42
returns-else-row-eq42 c x e =
    let a = c.args in
    ap (λ (n : ℕ). min n CAP) (without_bits a.s.now a.places a.row x c.requires c.if-row-eq42.false e)
