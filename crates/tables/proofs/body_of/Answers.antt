-- `tables::body_of` meets its contract: the statement stands in row a of the bodies, and the count in the kinds.
use Rattle.std.proofs.Common.{ℕ, refl}
use Rattle.programs.specs.Program.{Action}
use Rattle.tables.specs.Decode.{no_action, action_in, actions_of}
use Rattle.tables.proofs.Column.{of_row}
use Rattle.tables.proofs.body_of.Goals as goal

pub returns : goal.returns
unfolding actions_of
returns c =
    let a = c.args in
    of_row (λ (q : Action). q.body) (λ (n : ℕ). n) (action_in a.kinds.now a.bodies.now) no_action a.bodies.now a.a c.action_count.ensures refl refl c.row_or.ensures
