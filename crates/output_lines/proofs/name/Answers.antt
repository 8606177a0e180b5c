-- `output_lines::name` meets its contract: each arm is the name of its rule. Assumes nothing.
use Rattle.output_lines.proofs.name.Goals as goal

pub returns-in-ASSIGN : goal.returns-in-ASSIGN
returns-in-ASSIGN c = rw c.in-ASSIGN.is

pub returns-in-NEW : goal.returns-in-NEW
returns-in-NEW c = rw c.in-NEW.is

pub returns-in-DELETE : goal.returns-in-DELETE
returns-in-DELETE c = rw c.in-DELETE.is

pub returns-in-ASSERT : goal.returns-in-ASSERT
returns-in-ASSERT c = rw c.in-ASSERT.is

pub returns-in-SEQ : goal.returns-in-SEQ
returns-in-SEQ c = rw c.in-SEQ.is

pub returns-in-IF : goal.returns-in-IF
returns-in-IF c = rw c.in-IF.is

pub returns-in-WHILE : goal.returns-in-WHILE
returns-in-WHILE c = rw c.in-WHILE.is

pub returns-in-SEND : goal.returns-in-SEND
returns-in-SEND c = rw c.in-SEND.is

pub returns-in-RAISE : goal.returns-in-RAISE
returns-in-RAISE c = rw c.in-RAISE.is

pub returns-in-LEAVE : goal.returns-in-LEAVE
returns-in-LEAVE c = rw c.in-LEAVE.is

pub returns-in-RETURN : goal.returns-in-RETURN
returns-in-RETURN c = rw c.in-RETURN.is

pub returns-in-DEQUEUE : goal.returns-in-DEQUEUE
returns-in-DEQUEUE c = rw c.in-DEQUEUE.is

pub returns-in-STEP : goal.returns-in-STEP
returns-in-STEP c = rw c.in-STEP.is

pub returns-in-ACTION : goal.returns-in-ACTION
returns-in-ACTION c = rw c.in-ACTION.is

pub returns-in-CALL : goal.returns-in-CALL
returns-in-CALL c = rw c.in-CALL.is

pub returns-in-POP1 : goal.returns-in-POP1
returns-in-POP1 c = rw c.in-POP1.is

pub returns-in-POP2 : goal.returns-in-POP2
returns-in-POP2 c = rw c.in-POP2.is
