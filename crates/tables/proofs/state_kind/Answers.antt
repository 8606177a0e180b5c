-- `tables::state_kind` meets its contract, whatever the other arrays are: the kind stands in row n.
use Rattle.std.proofs.Common.{ℕ, refl}
use Rattle.programs.specs.Program.{State}
use Rattle.tables.specs.Decode.{no_state, state_in, states_of}
use Rattle.tables.proofs.Column.{of_row}
use Rattle.tables.proofs.state_kind.Goals as goal

pub returns : goal.returns
unfolding states_of
returns c entries exits flags =
    let a = c.args in
    of_row (λ (q : State). q.of) (λ (n : ℕ). n) (state_in a.kinds.now entries exits flags) no_state a.kinds.now a.n c.state_count.ensures refl refl c.row_or.ensures
