-- `sizing::variables_of` meets its contract: the numbers of the kind's variables are counted. Assumes nothing.
use Rattle.std.proofs.Common.{ℕ, ◌≡◌, ◌+◌, ◌∙◌, ap, sym, length, rules, tests, arith}
use Rattle.std.proofs.lemmas.Iterator.{YieldsList-from_range}
use Rattle.std.proofs.lemmas.Iterator.Consumers.{YieldsList-from_filter, count_from_yields_List}
use Rattle.std.proofs.lemmas.List.Sums.{length-filter}
use Rattle.std.specs.List.{count_by, range_with_len}
use Rattle.lists.specs.Lists.{at}
use Rattle.programs.specs.Program.{is_of}
use Rattle.tables.specs.Decode.{no_variable, variables_of}
use Rattle.tables.specs.Tables.{variables_length}
use Rattle.sizing.specs.Counted.{count_numbers}
use Rattle.sizing.proofs.variables_of.Goals as goal

pub returns : goal.returns
returns c types =
    let n = c.variable_count.result in
    let vars = variables_of c.args.kinds.now types in
    let test = λ (x : ℕ). is_of c.args.kind (at no_variable vars x) in
    let m : length vars ≡ n = variables_length c.args.kinds.now types ∙ sym c.variable_count.ensures in
    count_from_yields_List c.filter.result _ c.count.ensures.ran (YieldsList-from_filter _ test (YieldsList-from_range 1 (n + 1) n (cc) (omega arith)) c.filter.ensures.closure (λ x b q k. search (rules, tests)))
    ∙ length-filter test (range_with_len 1 n) ∙ ap (λ (k : ℕ). count_by test (range_with_len 1 k)) (sym m) ∙ count_numbers (is_of c.args.kind) no_variable vars
