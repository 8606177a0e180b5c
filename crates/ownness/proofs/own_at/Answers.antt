-- `ownness::own_at` meets its contract: no kind is found that does not pass.
use Rattle.std.proofs.Common.{sym, ◌∙◌, rules}
use Rattle.faults.specs.Lines.{finds_none, not_same}
use Rattle.ownness.specs.Own.{own_kind}
use Rattle.ownness.proofs.own_at.Goals as goal

pub returns : goal.returns
returns c = rw (← c.from.ensures) (not_same _ _ (sym c.is_none.ensures ∙ finds_none (own_kind c.args.marks.now c.args.n c.args.of.0) c.first_bad.ensures (λ j b low high k. search rules)))
