-- `telling::tell_steps` meets its contract: a line a turn. Assumes nothing.
use Rattle.std.proofs.Common.{◌∷◌, [], length-append}
use Rattle.std.proofs.lemmas.Iterator.{YieldsList-from_slice, YieldsList-from_zip}
use Rattle.std.proofs.lemmas.Iterator.Consumers.{YieldsList-from_enumerate, YieldsList-turn, YieldsList-end}
use Rattle.telling.specs.Turns.{steps_none, steps_more, steps_all, pair_at, pairs_end}
use Rattle.telling.proofs.tell_steps.Goals as goal

pub loop-k-init : goal.loop-k-init
loop-k-init c = steps_none c.requires

pub loop-k-preserved : goal.loop-k-preserved
loop-k-preserved c =
    let t = YieldsList-turn (YieldsList-from_enumerate (YieldsList-from_zip (YieldsList-from_slice c.args.choices.now cc) (YieldsList-from_slice c.args.rules.now cc)) cc) c.loop-k.yielded c.loop-k.k-iterator c.loop-k.yielded_by c.next.result c.next.new.self (c.in-Some.k, (c.in-Some.field-0-1-0, c.in-Some.field-0-1-1)) c.in-Some.is c.next.ensures.steps in
    let a = pair_at c.args.choices.now c.args.rules.now _ _ _ _ t.0 t.1 in
    rw (length-append c.loop-k.yielded ((c.in-Some.k, (c.in-Some.field-0-1-0, c.in-Some.field-0-1-1)) ∷ []))
    (steps_more c.loop-k.invariant a.0 a.1 (rw (a.2, a.3, a.4) at c.write_step-place.ensures))

pub returns : goal.returns
returns c =
    let e = YieldsList-end (YieldsList-from_enumerate (YieldsList-from_zip (YieldsList-from_slice c.args.choices.now cc) (YieldsList-from_slice c.args.rules.now cc)) cc) c.loop-k.yielded c.loop-k.k-iterator c.loop-k.yielded_by c.next.result c.next.new.self c.in-None.is c.next.ensures.steps in
    steps_all c.loop-k.invariant (pairs_end c.args.choices.now c.args.rules.now _ e.1)
