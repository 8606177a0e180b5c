-- A rule as a number, in the order in which document 01 lists the rules, from 1 on; the rule of a number; and which numbers are a meeting's.
use Rattle.std.specs.Prelude.{ℕ, ◌≡◌, refl, Bool, ◌||◌, List, [], ◌∷◌, eqb, get_or}
use Rattle.rules.specs.declared.Rule.{Rule}
use Rattle.rules.specs.declared.Rule.TheVariants.{ASSIGN, NEW, DELETE, ASSERT, SEQ, IF, WHILE, SEND, RAISE, LEAVE, RETURN, DEQUEUE, STEP, ACTION, CALL, POP1, POP2}
use Rattle.meetings.specs.Meetings.{meets}

-- the number of a rule
abbrev pub rule_number : Rule → ℕ
rule_number ASSIGN = 1
rule_number NEW = 2
rule_number DELETE = 3
rule_number ASSERT = 4
rule_number SEQ = 5
rule_number IF = 6
rule_number WHILE = 7
rule_number SEND = 8
rule_number RAISE = 9
rule_number LEAVE = 10
rule_number RETURN = 11
rule_number DEQUEUE = 12
rule_number STEP = 13
rule_number ACTION = 14
rule_number CALL = 15
rule_number POP1 = 16
rule_number POP2 = 17

-- the rules 1 to 16 behind the last one, which stands for every other number
abbrev pub by_number : List Rule
by_number = POP2 ∷ ASSIGN ∷ NEW ∷ DELETE ∷ ASSERT ∷ SEQ ∷ IF ∷ WHILE ∷ SEND ∷ RAISE ∷ LEAVE ∷ RETURN ∷ DEQUEUE ∷ STEP ∷ ACTION ∷ CALL ∷ POP1 ∷ []

-- the rule of a number: the last for a number that is no rule's
abbrev pub rule_of : ℕ → Rule
rule_of n = get_or by_number n POP2

-- the rule of a rule's number is that rule
pub rule_again : (R : Rule) → rule_of (rule_number R) ≡ R
rule_again ASSIGN = refl
rule_again NEW = refl
rule_again DELETE = refl
rule_again ASSERT = refl
rule_again SEQ = refl
rule_again IF = refl
rule_again WHILE = refl
rule_again SEND = refl
rule_again RAISE = refl
rule_again LEAVE = refl
rule_again RETURN = refl
rule_again DEQUEUE = refl
rule_again STEP = refl
rule_again ACTION = refl
rule_again CALL = refl
rule_again POP1 = refl
rule_again POP2 = refl

-- "A meeting is NEW, SEND, DELETE or DEQUEUE."
abbrev pub meeting : ℕ → Bool
meeting n = eqb n 2 || (eqb n 3 || (eqb n 8 || eqb n 12))

-- the test of a rule's number is the test of the rule
pub meeting_is : (R : Rule) → meeting (rule_number R) ≡ meets R
meeting_is ASSIGN = refl
meeting_is NEW = refl
meeting_is DELETE = refl
meeting_is ASSERT = refl
meeting_is SEQ = refl
meeting_is IF = refl
meeting_is WHILE = refl
meeting_is SEND = refl
meeting_is RAISE = refl
meeting_is LEAVE = refl
meeting_is RETURN = refl
meeting_is DEQUEUE = refl
meeting_is STEP = refl
meeting_is ACTION = refl
meeting_is CALL = refl
meeting_is POP1 = refl
meeting_is POP2 = refl
