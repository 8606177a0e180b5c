-- What the functions that read a configuration answer, in numbers: the test of 20, the machines that live, one machine, and what the numbers of values and pairs are.
use Rattle.std.specs.Prelude.{ℕ, Bool, cond, pos}
use Rattle.answers.specs.declared.Answer.TheVariants.{Done, NotAccepted}
use Rattle.answers.specs.Number.{number}
use Rattle.values.specs.declared.Value.{Value}
use Rattle.values.specs.declared.Value.TheVariants.{Undefined as undefined, Bool as vbool, Int as vint, Event as vevent, Id as vid}
use Rattle.codes.specs.Codes.{code_of}
use Rattle.codes.specs.Pairs.{pair_event, pair_value}
use Rattle.showing.specs.Shown.{Living, Shown}
use Rattle.exports.specs.declared.LiveNumbers.{LiveNumbers}
use Rattle.exports.specs.declared.MachineNumbers.{MachineNumbers}
use Rattle.exports.specs.declared.ValueNumbers.{ValueNumbers}
use Rattle.exports.specs.declared.PairNumbers.{PairNumbers}

-- the test of 20: 0 where it holds
abbrev pub fit_number : Bool → ℕ
fit_number b = number (cond b Done NotAccepted)

-- the machines that live
abbrev pub living_numbers : Living → LiveNumbers
living_numbers l = record { answer = number l.answer; count = l.count; machines = l.machines }

-- one machine
abbrev pub machine_numbers : Shown → MachineNumbers
machine_numbers m = record {
  answer = number m.answer;
  kind = m.kind;
  depth = m.depth;
  state = m.state;
  variables = m.variables;
  values = m.values;
  waiting = m.waiting;
  pairs = m.pairs;
}

-- a value: its kind, and what it holds
abbrev pub value_numbers : Value → ValueNumbers
value_numbers undefined = record { kind = 0; number = pos 0 }
value_numbers (vbool b) = record { kind = 1; number = pos (cond b 1 0) }
value_numbers (vint z) = record { kind = 2; number = z }
value_numbers (vevent e) = record { kind = 3; number = pos e }
value_numbers (vid i) = record { kind = 4; number = pos i.0 }

-- a pair: its event, and the number of its value
abbrev pub pair_numbers : ℕ → PairNumbers
pair_numbers x = record { event = pair_event x; value = code_of (pair_value x) }
