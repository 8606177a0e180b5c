-- `listings::variable` meets its contract: a colon, and a number on either side. Assumes nothing.
use Rattle.std.proofs.Common.{arith, sym, ◌∙◌, ap, ℕ, List, take}
use Rattle.std.specs.Prelude.{option_map}
use Rattle.std.specs.Borrow.{Bor}
use Rattle.texts.specs.Numbers.{decimal}
use Rattle.numerals.specs.Numerals.{number_there, number_missing}
use Rattle.listings.specs.Rising.{variable_none, variable_some}
use Rattle.listings.proofs.variable.Goals as goal

-- the bytes that an answer lends
abbrev bytes : Bor (List ℕ) → List ℕ
bytes x = x.now

pub returns-in_err-y-clause-key : goal.returns-in_err-y-clause-key
returns-in_err-y-clause-key c =
    ap (option_map bytes) c.from_residual.ensures ∙ sym (variable_none c.args.part.now c.until-m.result c.until-m.ensures (omega (arith, c.in_err-y.ensures.lookup.0)))

pub returns-in_err-decimal-clause-key : goal.returns-in_err-decimal-clause-key
returns-in_err-decimal-clause-key c =
    let d = c.args.part.now in
    let m = c.until-m.result in
    let x = sym (number_missing (decimal (take m d)) (sym c.decimal.ensures ∙ c.in_err-decimal.was)).0 in
    ap (option_map bytes) c.from_residual-in_err-decimal.ensures
    ∙ sym (variable_some d m c.until-m.ensures (omega (arith, c.in_ok-y.ensures.lookup.0.0)) c.in_ok-y.y.now c.in_ok-y.ensures.lookup.0.2 ∙ rw x)

pub returns-in_err-decimal-2-clause-key : goal.returns-in_err-decimal-2-clause-key
returns-in_err-decimal-2-clause-key c =
    let d = c.args.part.now in
    let m = c.until-m.result in
    let x = sym (number_there (decimal (take m d)) _ (sym c.decimal.ensures ∙ c.in_ok-decimal.was)).0 in
    let y = sym (number_missing (decimal c.in_ok-y.y.now) (sym c.decimal-2.ensures ∙ c.in_err-decimal-2.was)).0 in
    ap (option_map bytes) c.from_residual-in_err-decimal-2.ensures
    ∙ sym (variable_some d m c.until-m.ensures (omega (arith, c.in_ok-y.ensures.lookup.0.0)) c.in_ok-y.y.now c.in_ok-y.ensures.lookup.0.2 ∙ rw (x, y))

pub returns : goal.returns
returns c =
    let d = c.args.part.now in
    let m = c.until-m.result in
    let x = sym (number_there (decimal (take m d)) _ (sym c.decimal.ensures ∙ c.in_ok-decimal.was)).0 in
    let y = sym (number_there (decimal c.in_ok-y.y.now) _ (sym c.decimal-2.ensures ∙ c.in_ok-decimal-2.was)).0 in
    record {
      key = sym (variable_some d m c.until-m.ensures (omega (arith, c.in_ok-y.ensures.lookup.0.0)) c.in_ok-y.y.now c.in_ok-y.ensures.lookup.0.2 ∙ rw (x, y));
      digits = x;
    }
