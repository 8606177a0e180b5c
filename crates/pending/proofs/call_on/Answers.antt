-- `pending::call_on` meets its contract: the laws of specs/Meets.antt for a full stack, and at what `call_frame` and `begin` leave. Assumes nothing.
use Rattle.pending.specs.Meets.{call_asked, call_placing, call_full, call_left}
use Rattle.pending.proofs.call_on.Goals as goal

pub returns-then-d-ge-STACK : goal.returns-then-d-ge-STACK
returns-then-d-ge-STACK c =
    call_full c.args.n c.if-d-ge-STACK.true

pub call_frame-requires : goal.call_frame-requires
call_frame-requires c =
    call_asked c.requires c.if-d-ge-STACK.false

pub begin-requires : goal.begin-requires
begin-requires c =
    call_placing c.requires _

pub returns : goal.returns
returns c =
    call_left c.args.n _ _ _ _ _ _ _ c.if-d-ge-STACK.false (rw c.from.ensures at c.entry_of-e.ensures) c.call_frame.ensures c.begin.ensures.0 c.begin.ensures.1
