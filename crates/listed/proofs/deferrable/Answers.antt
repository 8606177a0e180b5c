-- `listed::deferrable` meets its contract: the events of the parts can all be one exactly when all of the list can. Assumes nothing.
use mathlib.Core.Path.{ap, sym, ◌∙◌}
use mathlib.Core.List.{map}
use Rattle.std.specs.Prelude.{min, ◌≡◌, true, not}
use Rattle.std.proofs.Common.{rules, true≢false}
use borrow.Author.Tests.{tests}
use Rattle.std.proofs.lemmas.Iterator.Search.{all_from_yields_List}
use Rattle.std.proofs.lemmas.Iterator.Consumers.{YieldsList-from_first}
use Rattle.lists.specs.Lists.{all, there}
use Rattle.programs.specs.Sizes.{EVENTS}
use Rattle.texts.specs.Bytes.{split}
use Rattle.texts.specs.Numbers.{numbers}
use Rattle.numerals.specs.Numerals.{CAP}
use Rattle.listings.specs.Listings.{list_of, number_of, none_there}
use Rattle.listings.specs.Pieces.{pieces_left}
use Rattle.listed.specs.Says.{numbers_said}
use Rattle.listed.specs.Flags.{parts_can}
use Rattle.listed.proofs.deferrable.Goals as goal
use Rattle.listed.proofs.deferrable.Goals.{then-not-numbers_ok, else-not-numbers_ok}

pub returns-then-is_none : goal.returns-then-is_none
returns-then-is_none c =
    let d = c.args.d.now in
    let r : all (there EVENTS) (list_of d) ≡ true = elim c.if-not-numbers_ok.branch [
      | then-not-numbers_ok w ↦ ap (all (there EVENTS)) (none_there (numbers d) (sym c.numbers_ok.ensures ∙ w.if-not-numbers_ok.true))
      | else-not-numbers_ok w ↦ rw (sym w.is_none.ensures ∙ sym w.value-is ∙ c.if-is_none.true)
    ] in
    c.if-is_none.true ∙ sym r

pub returns-else-is_none : goal.returns-else-is_none
returns-else-is_none c =
    let d = c.args.d.now in
    let said : map number_of (split 44 d) ≡ list_of d = elim c.if-not-numbers_ok.branch [
      | then-not-numbers_ok w ↦ absurd (true≢false (sym (w.value-is ∙ ap not w.if-not-numbers_ok.true) ∙ c.if-is_none.false))
      | else-not-numbers_ok w ↦ numbers_said d (sym w.is_none.ensures ∙ sym w.value-is ∙ c.if-is_none.false) (sym c.numbers_ok.ensures ∙ w.if-not-numbers_ok.false)
    ] in
    all_from_yields_List (λ p. there EVENTS (min (number_of p) CAP)) c.all.new.self _ c.all.result c.all.ensures.ran (YieldsList-from_first (λ x. x.now) pieces_left (split 44 d) c.of.ensures) (λ x b q k. search (rules, tests))
    ∙ parts_can (split 44 d) ∙ ap (all (there EVENTS)) said
