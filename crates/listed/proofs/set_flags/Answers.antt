-- `listed::set_flags` meets its contract: the loop that sets the flags, of specs/Flags.antt. Assumes nothing.
use mathlib.Core.Path.{ap, sym, ◌∙◌}
use native.Mathlib.Omega.{arith}
use Rattle.std.proofs.Common.{subst, ◌≤◌, ◌∷◌}
use Rattle.listings.specs.Pieces.{pieces_left}
use Rattle.listed.specs.Flags.{FlagsLeft, flagging_none, flags_first, flags_event, flags_more, flags_all}
use Rattle.listed.proofs.set_flags.Goals as goal
use Rattle.listed.proofs.set_flags.Goals.{After-number_in-n}

-- what is left before the next part
before : (c : After-number_in-n) → FlagsLeft c.args.d.now c.args.flags.now c.args.b (c.in-Some.part.now ∷ pieces_left c.next.new.self) c.loop-part.flags
before c = subst (λ ps. FlagsLeft c.args.d.now c.args.flags.now c.args.b ps c.loop-part.flags) c.in-Some.ensures.steps c.loop-part.invariant.flags

-- the event that is set
event : (c : After-number_in-n) → c.number_in-n.result ≤ 64
event c =
    (flags_event c.args.d.now c.args.flags.now c.args.b c.requires c.in-Some.part.now (pieces_left c.next.new.self) c.loop-part.flags (before c)
    c.number_in-n.result c.number_in-n.ensures).1

pub returns-then-is_none : goal.returns-then-is_none
returns-then-is_none c =
    flagging_none c.args.d.now c.args.flags.now c.args.b c.requires (sym c.is_none.ensures ∙ c.if-is_none.true)

pub loop-part-init : goal.loop-part-init
loop-part-init c =
    let a = c.args in
    record {
      can = tt;
      finite = tt;
      flags = subst (λ ps. FlagsLeft a.d.now a.flags.now a.b ps a.flags.now) (sym (ap pieces_left c.into_iter-part-iterator.ensures.into_iter_gives ∙ c.of-part-items.ensures))
          (flags_first a.d.now a.flags.now a.b c.requires (sym c.is_none.ensures ∙ c.if-is_none.false));
    }

pub overflow_add-flags : goal.overflow_add-flags
overflow_add-flags c = omega (arith, event (goal.at.overflow_add-flags c).After-number_in-n, c.requires.inside)

pub bounds-flags-b : goal.bounds-flags-b
bounds-flags-b c = omega (arith, event (goal.at.bounds-flags-b c).After-number_in-n, c.requires.inside)

pub loop-part-preserved : goal.loop-part-preserved
loop-part-preserved c = record {
  can = tt;
  finite = tt;
  flags = flags_more c.args.d.now c.args.flags.now c.args.b c.requires c.in-Some.part.now (pieces_left c.next.new.self) c.loop-part.flags
      (subst (λ ps. FlagsLeft c.args.d.now c.args.flags.now c.args.b ps c.loop-part.flags) c.in-Some.ensures.steps c.loop-part.invariant.flags)
      c.number_in-n.result c.number_in-n.ensures;
}

pub returns : goal.returns
returns c =
    let a = c.args in
    flags_all a.d.now a.flags.now a.b c.requires c.loop-part.flags
    (subst (λ ps. FlagsLeft a.d.now a.flags.now a.b ps c.loop-part.flags) c.in-None.ensures.steps.0 c.loop-part.invariant.flags)
