-- What a step of the engine answers: the rule that it takes, or the answer that it is refused with.
use Rattle.std.specs.Prelude.{Result}
use Rattle.answers.specs.declared.Answer.{Answer}
use Rattle.rules.specs.declared.Rule.{Rule}

abbrev pub Outcome : Type 0
Outcome = Result Rule Answer
