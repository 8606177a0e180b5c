-- `taking::enter` meets its contract: by what is noted, and whether the kind is there. Assumes nothing.
use Prim.Native.Nat.{ℕ}
use mathlib.Core.Path.{◌≡◌, refl, sym, ◌∙◌}
use mathlib.Core.Bool.{false, true≢false}
use Rattle.std.specs.Prelude.{Option, None, Some, is_some}
use Rattle.putting.specs.More.{variable_put}
use Rattle.taking.proofs.enter.Goals as goal

-- what is not noted
none : (o : Option ℕ) → is_some o ≡ false → o ≡ None
none None e = refl
none (Some j) e = absurd (true≢false e)

pub returns-then-is_some : goal.returns-then-is_some
returns-then-is_some c =
    let e = sym c.is_some.ensures ∙ c.if-is_some.true in
    record {
      behind = λ j z. (refl, (refl, refl));
      noted = λ z b. absurd (true≢false (sym (rw z at e)));
      put = λ z b. absurd (true≢false (sym (rw z at e)));
    }

pub returns-then-not-there : goal.returns-then-not-there
returns-then-not-there c =
    let e = sym c.there.ensures ∙ c.if-not-there.true in
    let n = none c.args.absent.now (sym c.is_some.ensures ∙ c.if-is_some.false) in
    record {
      behind = λ j z. absurd (cc);
      noted = λ z b. (refl, (refl, refl));
      put = λ z b. absurd (true≢false (sym b ∙ e));
    }

pub put_variable-requires : goal.put_variable-requires
put_variable-requires c =
    c.requires (none c.args.absent.now (sym c.is_some.ensures ∙ c.if-is_some.false)) (sym c.there.ensures ∙ c.if-not-there.false)

pub returns : goal.returns
returns c =
    let e = sym c.there.ensures ∙ c.if-not-there.false in
    let n = none c.args.absent.now (sym c.is_some.ensures ∙ c.if-is_some.false) in
    record {
      behind = λ j z. absurd (cc);
      noted = λ z b. absurd (true≢false (sym e ∙ b));
      put = λ z b. (n, λ h v q t. variable_put h v (q ∙ sym c.short.ensures) t (c.put_variable.ensures.kinds_after, c.put_variable.ensures.types_after));
    }
