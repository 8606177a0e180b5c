-- `parts::lone` meets its contract: a lone skip with nothing pending goes, and any other row stays.
use mathlib.Core.Path.{◌≡◌, sym, ap, ◌∙◌}
use Rattle.std.proofs.Common.{rules}
use Rattle.tables.specs.declared.Head.TheVariants.{Skip}
use Rattle.parts.specs.Parts.{is_skip_head, lone_gone, lone_pending, lone_many, lone_other}
use Rattle.tables.specs.Decode.{head_at}
use Rattle.parts.proofs.Arms.{no_skip}
use Rattle.parts.proofs.lone.Goals.{else-n-eq1-via-then-n-eq1+then-not-pending+else-eq, else-n-eq1-via-then-n-eq1+else-not-pending, else-n-eq1-via-else-n-eq1}
use Rattle.parts.proofs.lone.Goals as goal

pub returns-then-eq : goal.returns-then-eq
returns-then-eq c =
    let a = c.args in
    let e : c.stmt_at.result ≡ Skip = search rules in
    lone_gone a.stmts.now a.b a.n a.parts.now c.requires a.pending c.if-n-eq1.true c.if-not-pending.true (ap is_skip_head (ap (head_at a.stmts.now) (sym c.from.ensures) ∙ sym c.stmt_at.ensures ∙ e))

pub returns : goal.returns
returns c =
    let a = c.args in
    elim c.else-n-eq1.branch [
      | else-n-eq1-via-then-n-eq1+then-not-pending+else-eq w ↦
          let e : w.stmt_at.result ≡ Skip → ⊥ = λ q. search rules in
          lone_other a.stmts.now a.b a.n a.parts.now c.requires a.pending w.if-n-eq1.true (ap is_skip_head (ap (head_at a.stmts.now) (sym w.from.ensures) ∙ sym w.stmt_at.ensures) ∙ no_skip w.stmt_at.result e)
      | else-n-eq1-via-then-n-eq1+else-not-pending w ↦ lone_pending a.stmts.now a.b a.n a.parts.now c.requires a.pending w.if-not-pending.false
      | else-n-eq1-via-else-n-eq1 w ↦ lone_many a.stmts.now a.b a.n a.parts.now c.requires a.pending w.if-n-eq1.false
    ]
