-- `tables::action_kind` meets its contract, whatever the bodies are: the kind stands in row a.
use Rattle.std.proofs.Common.{ℕ, refl}
use Rattle.programs.specs.Program.{Action}
use Rattle.tables.specs.Decode.{no_action, action_in, actions_of}
use Rattle.tables.proofs.Column.{of_row}
use Rattle.tables.proofs.action_kind.Goals as goal

pub returns : goal.returns
unfolding actions_of
returns c bodies =
    let a = c.args in
    of_row (λ (q : Action). q.of) (λ (n : ℕ). n) (action_in a.kinds.now bodies) no_action a.kinds.now a.a c.action_count.ensures refl refl c.row_or.ensures
