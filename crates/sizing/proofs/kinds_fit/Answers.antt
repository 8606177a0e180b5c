-- `sizing::kinds_fit` meets its contract: none is found where no kind has too many variables. Assumes nothing.
use Rattle.std.proofs.Common.{ℕ, ◌∙◌, ap, not, sym, Bool, length, leb, rules}
use Rattle.lists.specs.Lists.{up_to}
use Rattle.programs.specs.Program.{Program as Lines, variables_of as variables_of_kind}
use Rattle.faults.specs.Lines.{finds_none, not_same}
use Rattle.sizing.proofs.kinds_fit.Goals as goal

-- kind k has not too many
abbrev fits : Lines → ℕ → Bool
fits p k = leb (length (variables_of_kind p k)) 16

pub returns : goal.returns
returns c = λ p types e. not_same c.is_none.result (up_to c.args.kinds (fits p))
    (sym c.is_none.ensures ∙ finds_none (fits p) c.first_bad.ensures (λ j b low high w. rw e (search rules))
    ∙ ap (λ (n : ℕ). not (up_to n (fits p))) c.from-n.ensures)
