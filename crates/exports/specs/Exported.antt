-- What the exported functions answer: the same in numbers.
use Rattle.std.specs.Prelude.{Ok, Err}
use Rattle.answers.specs.Number.{number}
use Rattle.labels.specs.Labels.{rule_number}
use Rattle.tabled.specs.Tabled.{Loaded}
use Rattle.engine.specs.Outcome.{Outcome}
use Rattle.handed_runs.specs.declared.Ending.{Ending}
use Rattle.starting.specs.Started.{Started}
use Rattle.exports.specs.declared.LoadNumbers.{LoadNumbers}
use Rattle.exports.specs.declared.StartNumbers.{StartNumbers}
use Rattle.exports.specs.declared.StepNumbers.{StepNumbers}
use Rattle.exports.specs.declared.EndNumbers.{EndNumbers}

-- what a text is loaded as
abbrev pub load_numbers : Loaded → LoadNumbers
load_numbers l = record { program = l.program; choices = l.choices; count = l.count; answer = number l.answer; line = l.line }

-- what a program starts with
abbrev pub start_numbers : Started → StartNumbers
start_numbers s = record { config = s.config; answer = number s.answer }

-- an outcome: 0 and the rule of the step, or the answer
abbrev pub step_numbers : Outcome → StepNumbers
step_numbers (Ok R) = record { answer = 0; rule = rule_number R }
step_numbers (Err a) = record { answer = number a; rule = 0 }

-- an ending
abbrev pub end_numbers : Ending → EndNumbers
end_numbers e = record { answer = number e.answer; place = e.place; steps = e.steps }
