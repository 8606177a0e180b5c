-- `faults::onward` meets its contract: no fault, or one that has n lines before it. Assumes nothing.
use Rattle.std.proofs.Common.{◌≡◌, ◌+◌, ◌∙◌, rules}
use Rattle.std.specs.Option.{option_map}
use Rattle.faults.specs.Lines.{onward_line}
use Rattle.faults.proofs.onward.Goals as goal

pub returns-clause-line : goal.returns-clause-line
returns-clause-line c = λ k e.
    let h : c.map.result ≡ option_map (λ b. c.args.n + b) c.args.b = search rules in
    h ∙ rw e (onward_line c.args.n k)
