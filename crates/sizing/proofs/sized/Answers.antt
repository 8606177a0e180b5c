-- `sizing::sized` meets its contract: by the kinds and the variables of each. Assumes nothing.
use Prim.Native.Nat.{◌≤◌, ◌<◌}
use mathlib.Core.Path.{sym, ◌∙◌}
use borrow.Author.Tests.{le-leb, lt-leb}
use native.Mathlib.Omega.{arith}
use Rattle.sizing.specs.Sized.{sized_is}
use Rattle.sizing.proofs.sized.Goals as goal

pub returns-then-from-le-KINDS : goal.returns-then-from-le-KINDS
returns-then-from-le-KINDS c p types holds stmts inits actors bodies states entries exits flags t =
    let k : c.args.kinds ≤ 16 = omega (arith, c.from.ensures, c.if-from-le-KINDS.true) in
    sym (sized_is p t c.in_words.ensures ∙ rw (t.machine, le-leb c.args.kinds 16 k) (sym (c.kinds_fit.ensures p holds t.variable)))

pub returns-else-from-le-KINDS : goal.returns-else-from-le-KINDS
returns-else-from-le-KINDS c p types holds stmts inits actors bodies states entries exits flags t =
    let k : 16 < c.args.kinds = omega (arith, c.from.ensures, c.if-from-le-KINDS.false) in
    sym (sized_is p t c.in_words.ensures ∙ rw (t.machine, lt-leb c.args.kinds 16 k) (sym (lt-leb _ 16 c.if-from-le-KINDS.false)))
