-- Document 01: meetings, and the regrouping of a choice list over the rules.
use Rattle.std.specs.Prelude.{ℕ, Bool, true, false, List}
use Rattle.std.proofs.Math.Option.{Option}
use Rattle.programs.specs.Program.{Program}
use Rattle.machines.specs.Config.{Config, Choice}
use Rattle.rules.specs.declared.Rule.{Rule}
use Rattle.rules.specs.declared.Rule.TheVariants.{ASSIGN, NEW, DELETE, ASSERT, SEQ, IF, WHILE, SEND, RAISE, LEAVE, RETURN, DEQUEUE, STEP, ACTION, CALL, POP1, POP2}
use Rattle.rules.specs.Step.{step}
use Rattle.regrouping.specs.Demand.{regroup as regroup_over}

-- "A meeting is NEW, SEND, DELETE or DEQUEUE."
abbrev pub meets : Rule → Bool
meets ASSIGN = false
meets NEW = true
meets DELETE = true
meets ASSERT = false
meets SEQ = false
meets IF = false
meets WHILE = false
meets SEND = true
meets RAISE = false
meets LEAVE = false
meets RETURN = false
meets DEQUEUE = true
meets STEP = false
meets ACTION = false
meets CALL = false
meets POP1 = false
meets POP2 = false

-- the machine that a choice names
abbrev pub own : Choice → ℕ
own x = x.machine

-- The regrouped list, from configuration c; none where a choice before the last takes no step (22).
abbrev pub regroup : Program → Config → List Choice → Option (List Choice)
regroup p c l = regroup_over (step p) own meets c l
