-- Numbers and names as the bytes that the programs write.
use Rattle.std.specs.Prelude.{ℕ, zero, suc, ◌+◌, ◌/◌, ◌%◌, cond, List, [], ◌∷◌, ◌++◌, ltb}
use Prim.Native.String.{String}
use Rattle.rules.specs.declared.Rule.{Rule}
use Rattle.rules.specs.declared.Rule.TheVariants.{ASSIGN, NEW, DELETE, ASSERT, SEQ, IF, WHILE, SEND, RAISE, LEAVE, RETURN, DEQUEUE, STEP, ACTION, CALL, POP1, POP2}
use Rattle.texts.specs.Bytes.{bytes}

-- the digits of n, where d is at least as many as they are: '0' is 48
abbrev pub digits : ℕ → ℕ → List ℕ
digits zero n = []
digits (suc d) n =
    let front = digits d (n / 10) in
    let more = front ++ (48 + n % 10) ∷ [] in
    cond (ltb n 10) ((48 + n) ∷ []) more

-- "Numbers are decimal without leading zeros"
unfoldable pub numeral : ℕ → List ℕ
numeral n = digits (suc n) n

-- `key=value`, with what stands before it
abbrev pub field : String → ℕ → List ℕ
field key n = bytes key ++ numeral n

-- `rule=ASSIGN`
abbrev pub rule_name : Rule → String
rule_name ASSIGN = "ASSIGN"
rule_name NEW = "NEW"
rule_name DELETE = "DELETE"
rule_name ASSERT = "ASSERT"
rule_name SEQ = "SEQ"
rule_name IF = "IF"
rule_name WHILE = "WHILE"
rule_name SEND = "SEND"
rule_name RAISE = "RAISE"
rule_name LEAVE = "LEAVE"
rule_name RETURN = "RETURN"
rule_name DEQUEUE = "DEQUEUE"
rule_name STEP = "STEP"
rule_name ACTION = "ACTION"
rule_name CALL = "CALL"
rule_name POP1 = "POP1"
rule_name POP2 = "POP2"
